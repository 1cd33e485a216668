-- The laws of a ring for whole numbers.
use Rattle.std.proofs.Common.{◌≡◌, ℕ, ◌+◌, ◌*◌, ap, ap₂, ◌∙◌, arith}
use lib.IntN.{ℤ, ◌+ℤ◌, ◌*ℤ◌, neg_ℤ, *ℤ_comm}
use borrow.Author.Differences.{up, down, same_in, sum_is_lem, product_is, neg_is}

pub up_mul : (a b : ℤ) → up (a *ℤ b) ≡ up a * up b + down a * down b
up_mul a b = (product_is a b).0

pub down_mul : (a b : ℤ) → down (a *ℤ b) ≡ up a * down b + down a * up b
down_mul a b = (product_is a b).1

pub mul_assoc : (a b c : ℤ) → (a *ℤ b) *ℤ c ≡ a *ℤ (b *ℤ c)
mul_assoc a b c = same_in ((a *ℤ b) *ℤ c) (a *ℤ (b *ℤ c)) (simp (up_mul, down_mul) (omega arith))

pub mul_add : (a b c : ℤ) → a *ℤ (b +ℤ c) ≡ a *ℤ b +ℤ a *ℤ c
mul_add a b c =
    let s = sum_is_lem b c in
    let t = simp (up_mul, down_mul) at (sum_is_lem (a *ℤ b) (a *ℤ c)) in
    let u = ap (λ (n : ℕ). up a * n) s in
    let v = ap (λ (n : ℕ). down a * n) s in
    same_in (a *ℤ (b +ℤ c)) (a *ℤ b +ℤ a *ℤ c) (simp (up_mul, down_mul) (omega arith))

pub up_neg : (a : ℤ) → up (neg_ℤ a) ≡ down a
up_neg a = (neg_is a).0

pub down_neg : (a : ℤ) → down (neg_ℤ a) ≡ up a
down_neg a = (neg_is a).1

pub neg_mul : (a b : ℤ) → neg_ℤ a *ℤ b ≡ neg_ℤ (a *ℤ b)
neg_mul a b = same_in (neg_ℤ a *ℤ b) (neg_ℤ (a *ℤ b)) (simp (up_neg, down_neg, up_mul, down_mul) (omega arith))

pub add_mul : (a b c : ℤ) → (a +ℤ b) *ℤ c ≡ a *ℤ c +ℤ b *ℤ c
add_mul a b c = *ℤ_comm (a +ℤ b) c ∙ mul_add c a b ∙ ap₂ (λ (x y : ℤ). x +ℤ y) (*ℤ_comm c a) (*ℤ_comm c b)

-- A text that begins with another, where more was appended.
use Rattle.std.proofs.Common.{◌≡◌, ℕ, List, ◌++◌, ap, ◌∙◌}
use Rattle.std.proofs.lemmas.List.{append_assoc}
use Rattle.scad_base.specs.Appends.{BeginsWith}

pub begins : {a b : List ℕ} (x : List ℕ) → b ≡ a ++ x → BeginsWith a b
begins x e = record { rest = x; is = e }

pub begins_more : {a b c : List ℕ} (x : List ℕ) → BeginsWith a b → c ≡ b ++ x → BeginsWith a c
begins_more {a} x p e = record {
  rest = p.rest ++ x;
  is = e ∙ ap (λ (ys : List ℕ). ys ++ x) p.is ∙ append_assoc a p.rest x;
}

pub begins_still : {a b c : List ℕ} → BeginsWith a b → c ≡ b → BeginsWith a c
begins_still p e = record { rest = p.rest; is = e ∙ p.is }

pub begins_on : {a b c : List ℕ} → BeginsWith a b → BeginsWith b c → BeginsWith a c
begins_on p q = begins_more q.rest p q.is

-- what is appended to an appended text
pub behind : {b c : List ℕ} (a x y : List ℕ) → b ≡ a ++ x → c ≡ b ++ y → c ≡ a ++ (x ++ y)
behind a x y p q = q ∙ ap (λ (zs : List ℕ). zs ++ y) p ∙ append_assoc a x y

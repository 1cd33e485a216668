-- Points in blocks of 32 neighbours.
use Rattle.std.proofs.Common.{◌≡◌, ℕ, zero, suc, ◌+◌, ◌*◌, ◌/◌, ◌%◌, ◌<◌, ◌≤◌, min, List, [], ◌∷◌, ◌++◌, length, get_or, sym, ap, ◌∙◌, arith, subst, All}
use lib.IntN.{pos}
use lib.Signed.{◌<ℤ◌}
use Rattle.std.proofs.lemmas.List.{get_or_append_left, get_or_push, get_or_default, length_push}
use Rattle.std.proofs.lemmas.List.Elements.{All-push}
use Rattle.scad_geom.specs.declared.point3.Pt3.{Pt3}
use Rattle.scad_hull.specs.declared.block.Block.{Block}
use Rattle.scad_hull.specs.declared.turning.Normal.{Normal}
use Rattle.scad_hull.specs.Space.{depth_of}
use Rattle.scad_hull.specs.Blocks.{IsWithin, IsPartOf, IsSmallBlock, AreBlocks}
use Rattle.scad_hull.proofs.Boxes.{still_within}

-- the points below a place lie in blocks
abbrev pub AreUpTo : List Pt3 → List Block → ℕ → Type 0
AreUpTo ps bs i = (k : ℕ) (d : Pt3) (e : Block) → k < i → IsWithin (get_or bs (k / 32) e) (get_or ps k d)

-- those from one place on below another lie in a box
abbrev pub IsRound : List Pt3 → Block → ℕ → ℕ → Type 0
IsRound ps b i j = (k : ℕ) (d : Pt3) → i ≤ k → k < j → IsWithin b (get_or ps k d)

earlier_or_on : {P : Type 0} (k i : ℕ) → (k < i → P) → (i ≤ k → P) → P
earlier_or_on k zero f g = g (omega arith)
earlier_or_on zero (suc i) f g = f (omega arith)
earlier_or_on (suc k) (suc i) f g = earlier_or_on k i (λ h. f (omega arith)) (λ h. g (omega arith))

pub none_yet : (ps : List Pt3) (bs : List Block) → AreUpTo ps bs 0
none_yet ps bs k d e h = absurd (omega arith)

-- the box of the block from i on is put to the others
pub one_more : (ps : List Pt3) (bs more : List Block) (b : Block) (i j : ℕ) → more ≡ bs ++ b ∷ []
    → i ≡ min (32 * length bs) (length ps) → i < length ps → j ≡ min (i + 32) (length ps)
    → IsRound ps b i j → AreUpTo ps bs i → AreUpTo ps more j
one_more ps bs more b i j is at inside to round upto k d e h =
    subst (λ cs. IsWithin (get_or cs (k / 32) e) (get_or ps k d)) (sym is)
    (earlier_or_on k i
    (λ l. subst (λ c. IsWithin c (get_or ps k d)) (sym (get_or_append_left bs (b ∷ []) e (k / 32) (omega arith)))
    (upto k d e l))
    (λ o. subst (λ c. IsWithin c (get_or ps k d)) (sym (get_or_push bs b e (k / 32) (omega arith))) (round k d o h)))

pub still_small : (bs more : List Block) (b : Block) → more ≡ bs ++ b ∷ [] → All IsSmallBlock bs
    → IsSmallBlock b → All IsSmallBlock more
still_small bs more b is h k = subst (λ cs. All IsSmallBlock cs) (sym is) (All-push IsSmallBlock bs b h k)

pub next_start : (ps : List Pt3) (bs more : List Block) (b : Block) (i j : ℕ) → more ≡ bs ++ b ∷ []
    → i ≡ min (32 * length bs) (length ps) → i < length ps → j ≡ min (i + 32) (length ps)
    → j ≡ min (32 * length more) (length ps)
next_start ps bs more b i j is at inside to =
    let size : length more ≡ length bs + 1 = ap length is ∙ length_push bs b in
    omega arith

pub all_blocks : (ps : List Pt3) (bs : List Block) (i : ℕ) → i ≡ min (32 * length bs) (length ps)
    → length ps ≤ i → All IsSmallBlock bs → AreUpTo ps bs i → AreBlocks ps bs
all_blocks ps bs i at h small upto = record {
  all = omega arith;
  small = small;
  within = λ k d e l. upto k d e (omega arith);
}

-- the points of a block lie inside of a plane where its box does
pub inner_points : (ps : List Pt3) (bs : List Block) → AreBlocks ps bs
    → (n : Normal) (a : Pt3) (i j : ℕ) (e : Block)
    → i % 32 ≡ 0 → ((p : Pt3) → IsWithin (get_or bs (i / 32) e) p → pos 0 <ℤ depth_of n a p)
    → j ≡ min (i + 32) (length ps)
    → (k : ℕ) (d : Pt3) → i ≤ k → k < j → pos 0 <ℤ depth_of n a (get_or ps k d)
inner_points ps bs blocks n a i j e start inner to k d h l =
    let same : k / 32 ≡ i / 32 = omega arith in
    let inside : k < length ps = omega arith in
    inner (get_or ps k d)
    (subst (λ c. IsWithin c (get_or ps k d)) (ap (λ m. get_or bs m e) same) (blocks.within k d e inside))

-- a box grown round one more point
pub more_round : (ps : List Pt3) (b c : Block) (i j : ℕ) (e : Pt3) → j < length ps → IsPartOf b c
    → IsWithin c (get_or ps j e) → IsRound ps b i j → IsRound ps c i (j + 1)
more_round ps b c i j e inside part within round k d h l =
    earlier_or_on k j (λ o. still_within b c (get_or ps k d) part (round k d h o))
    (λ o. subst (IsWithin c) (get_or_default ps j e d inside ∙ ap (λ m. get_or ps m d) (same o)) within)
  where
    same : j ≤ k → j ≡ k
    same o = omega arith

-- A cursor goes from bundle to bundle.
use Rattle.std.proofs.Common.{◌≡◌, ℕ, zero, suc, ◌+◌, ◌^◌, ◌<◌, ◌≤◌, List, [], ◌∷◌, ◌++◌, length, get_or, drop, inl, inr, refl, sym, ap, ◌∙◌, arith, subst, length-append}
use Rattle.std.specs.List.{AllByRecursion, AllZip, concat}
use Rattle.std.proofs.lemmas.Bool.{cases_lt}
use Rattle.std.proofs.lemmas.List.{at_drop_more}
use Rattle.std.proofs.lemmas.List.Elements.{All-from_recursion}
use Rattle.scad_geom.specs.declared.level.LeafEdge.{LeafEdge}
use Rattle.scad_geom.specs.declared.shape.Shape.{Shape}
use Rattle.scad_geom.proofs.Order.{back}
use Rattle.slice_border.specs.Beside.{AreMembers}
use Rattle.slice_outlines.specs.declared.mark.Mark.{Mark}
use Rattle.slice_outlines.specs.declared.cursor.Cursor.{Cursor}
use Rattle.slice_outlines.specs.Marks.{IsNamed, AreThere}
use Rattle.slice_border.specs.Keeping.{Tells, AreSmall}
use Rattle.slice_outlines.specs.Cursor.{StandsOn}
use Rattle.slice_border.proofs.Tallying.{are_small}

-- ---- sizes
concat_drop : (n : ℕ) (bs : List (List ℕ)) → length (concat (drop n bs)) ≤ length (concat bs)
concat_drop zero bs = omega arith
concat_drop (suc n) [] = omega arith
concat_drop (suc n) (b ∷ bs) =
    let h : length (concat (drop n bs)) ≤ length (concat bs) = concat_drop n bs in
    omega (arith, h, length-append b (concat bs))

concat_at : (bs : List (List ℕ)) (n : ℕ) (d : List ℕ) → n < length bs → length (get_or bs n d) ≤ length (concat bs)
concat_at [] n d h = absurd (omega arith)
concat_at (b ∷ bs) zero d h = omega (arith, length-append b (concat bs))
concat_at (b ∷ bs) (suc n) d h =
    let k : length (get_or bs n d) ≤ length (concat bs) = concat_at bs n d (omega arith) in
    omega (arith, k, length-append b (concat bs))

-- a bundle is small enough for the tally of a cursor
pub small_at : (es : List LeafEdge) (shape : Shape) (bs : List (List ℕ)) (ks : List ℕ) (i : ℕ) (c : Cursor)
    → length es < 2 ^ 32 → AreMembers es bs → i < length bs → ks ≡ get_or bs i [] → StandsOn es shape bs c
    → AreSmall es ks c.tally
small_at es shape bs ks i c few m l e s =
    let a : length (concat (drop c.at bs)) ≤ length (concat bs) = concat_drop c.at bs in
    let b : length (get_or bs i []) ≤ length (concat bs) = concat_at bs i [] l in
    let k : length ks ≡ length (get_or bs i []) = ap length e in
    are_small es shape (concat (drop c.at bs)) ks c.tally s.tells (omega (arith, a, b, k, m.few, few))

-- ---- steps
pub stands_left : (es : List LeafEdge) (shape : Shape) (bs : List (List ℕ)) (ks : List ℕ) (c d : Cursor)
    → d.at + 1 ≡ c.at → d.at < length bs → ks ≡ get_or bs d.at []
    → ((js : List ℕ) → Tells es shape js c.tally → Tells es shape (ks ++ js) d.tally)
    → StandsOn es shape bs c → StandsOn es shape bs d
stands_left es shape bs ks c d at l e f s =
    let whole : ks ++ concat (drop c.at bs) ≡ concat (drop d.at bs) =
    ap (λ (b : List ℕ). b ++ concat (drop c.at bs)) e
    ∙ ap (λ (n : ℕ). get_or bs d.at [] ++ concat (drop n bs)) (sym at)
    ∙ sym (at_drop_more concat bs d.at [] l) in
    record {
      there = omega (arith, l);
      tells = subst (λ (js : List ℕ). Tells es shape js d.tally) whole (f (concat (drop c.at bs)) s.tells);
    }

pub stands_right : (es : List LeafEdge) (shape : Shape) (bs : List (List ℕ)) (ks : List ℕ) (c d : Cursor)
    → d.at ≡ c.at + 1 → c.at < length bs → ks ≡ get_or bs c.at []
    → ((js : List ℕ) → Tells es shape (ks ++ js) c.tally → Tells es shape js d.tally)
    → StandsOn es shape bs c → StandsOn es shape bs d
stands_right es shape bs ks c d at l e f s =
    let whole : concat (drop c.at bs) ≡ ks ++ concat (drop (c.at + 1) bs) =
    at_drop_more concat bs c.at [] l ∙ ap (λ (b : List ℕ). b ++ concat (drop (c.at + 1) bs)) (sym e) in
    record {
      there = omega (arith, l, at);
      tells = subst (λ (n : ℕ). Tells es shape (concat (drop n bs)) d.tally) (sym at)
          (f (concat (drop (c.at + 1) bs)) (subst (λ (js : List ℕ). Tells es shape js c.tally) whole s.tells));
    }

-- ---- names
names_in : (es : List LeafEdge) (ms : List Mark) (bs : List (List ℕ)) → AllZip (λ m b. IsNamed m.name b) ms bs
    → AllByRecursion (λ k. k < length es) (concat bs) → AllByRecursion (λ m. m.name < length es) ms
names_in es [] [] z h = tt
names_in es [] (b ∷ bs) z h = absurd z
names_in es (m ∷ ms) [] z h = absurd z
names_in es (m ∷ ms) ([] ∷ bs) z h = absurd z.0
names_in es (m ∷ ms) ((k ∷ ks) ∷ bs) z h = (
  subst (λ (n : ℕ). n < length es) (sym z.0) h.0,
  names_in es ms bs z.1 (back (λ k. k < length es) ks
      (concat bs) h.1),
)

pub names_there : (es : List LeafEdge) (ms : List Mark) (bs : List (List ℕ)) → AllZip (λ m b. IsNamed m.name b) ms bs
    → AreMembers es bs → AreThere es ms
names_there es ms bs z m = All-from_recursion (λ m. m.name < length es) ms (names_in es ms bs z m.there)

pub named_size : (ms : List Mark) (bs : List (List ℕ)) → AllZip (λ m b. IsNamed m.name b) ms bs
    → length ms ≡ length bs
named_size [] [] z = refl
named_size [] (b ∷ bs) z = absurd z
named_size (m ∷ ms) [] z = absurd z
named_size (m ∷ ms) (b ∷ bs) z = ap suc (named_size ms bs z.1)

-- to the left, then to the right, each as far as a place
pub arrives : (place from mid to : ℕ) → (from ≤ place → mid ≡ from) → (place ≤ from → mid ≡ place)
    → (place ≤ mid → to ≡ mid) → (mid ≤ place → to ≡ place) → to ≡ place
arrives place from mid to a b c d = elim (cases_lt from place) [
  | inl h ↦
      let e : mid ≡ from = a (omega (arith, h)) in
      d (omega (arith, e, h))
  | inr h ↦
      let e : mid ≡ place = b h in
      d (omega (arith, e))
]

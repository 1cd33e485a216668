-- The shape's values beside bundles, by the headings of the edges to the right.
use Rattle.std.proofs.Common.{◌≡◌, ℕ, zero, suc, ◌+◌, ◌-◌, ◌<◌, ◌≤◌, inl, inr, Bool, false, List, [], ◌∷◌, ◌++◌, length, get_or, take, drop, refl, sym, ap, ap₂, ◌∙◌, arith, subst, length-append, ◌^◌}
use Rattle.std.specs.List.{AllByRecursion, concat}
use Rattle.std.proofs.lemmas.List.{drop_more, take-append-drop, at_drop_more}
use Rattle.scad_geom.specs.declared.level.Level.{Level}
use Rattle.scad_geom.specs.declared.level.LeafEdge.{LeafEdge}
use Rattle.scad_geom.specs.declared.shape.Shape.{Shape}
use Rattle.scad_geom.specs.Heights.{AreNeighbours}
use Rattle.scad_geom.proofs.Order.{front, back}
use Rattle.slice_bundles.specs.Bundles.{edge_at, AreBundles}
use Rattle.slice_pieces.specs.declared.piece.Piece.{Piece}
use Rattle.slice_border.specs.Pieces.{spot_on, piece_between, bundle_piece, slab_pieces}
use Rattle.slice_border.specs.Beside.{left_value, RisesFirst, AreMembers}
use Rattle.slice_bool.specs.LeftValues.{AreLeftValues, piece_of}
use Rattle.slice_border.proofs.Passing.{IsLive, live_bundles}
use Rattle.slice_border.proofs.Middle.{value_right, value_left}
use Rattle.std.proofs.lemmas.Bool.{cases_lt}
use Rattle.slice_border.specs.declared.tally.Tally.{Tally}
use Rattle.slice_border.specs.Keeping.{Tells, AreSmall}
use Rattle.slice_border.proofs.BundleValues.{left_is, all_of_bundle, rises_first, outside_right}
use Rattle.slice_border.proofs.Tallying.{are_small}

pub rises_at : (es : List LeafEdge) (l u : Level) (bs : List (List ℕ)) (j : ℕ) (d : List ℕ) → j < length bs
    → AreBundles es l u bs → RisesFirst es (get_or bs j d)
rises_at es l u bs j d h b = rises_first es l u (get_or bs j d) (all_of_bundle (IsLive es l u) bs j d h
    (live_bundles es l u bs b))

-- ---- what bundles add
-- of one bundle or of all that lie from a place on, there are few
dropped_length : (bs : List (List ℕ)) (j : ℕ) → length (concat (drop j bs)) ≤ length (concat bs)
dropped_length [] zero = omega arith
dropped_length [] (suc j) = omega arith
dropped_length (b ∷ bs) zero = omega arith
dropped_length (b ∷ bs) (suc j) = let r = dropped_length bs j in let l = length-append b (concat bs) in omega arith

bundle_length : (bs : List (List ℕ)) (j : ℕ) (d : List ℕ) → j < length bs
    → length (get_or bs j d) ≤ length (concat bs)
bundle_length [] j d h = absurd (omega arith)
bundle_length (b ∷ bs) zero d h = let l = length-append b (concat bs) in omega arith
bundle_length (b ∷ bs) (suc j) d h =
    let r : length (get_or bs j d) ≤ length (concat bs) = bundle_length bs j d (omega arith) in
    let l = length-append b (concat bs) in
    omega arith

pub is_small : (es : List LeafEdge) (shape : Shape) (bs : List (List ℕ)) (from j : ℕ) (d : List ℕ) (t : Tally)
    → j < length bs → AreMembers es bs → length es < 2 ^ 32 → Tells es shape (concat (drop from bs)) t
    → AreSmall es (get_or bs j d) t
is_small es shape bs from j d t there m few h =
    let a = dropped_length bs from in
    let b = bundle_length bs j d there in
    are_small es shape (concat (drop from bs)) (get_or bs j d) t h (omega (arith, a, b, m.few, few))

-- the next bundle to the left, before those to its right
pub bundle_on : (bs : List (List ℕ)) (i : ℕ) (d : List ℕ) → i < length bs
    → get_or bs (length bs - 1 - i) d ++ concat (drop (length bs - i) bs) ≡ concat (drop (length bs - (i + 1)) bs)
bundle_on bs i d h =
    let j : ℕ = length bs - 1 - i in
    let p : length bs - (i + 1) ≡ j = omega arith in
    let q : length bs - i ≡ j + 1 = omega arith in
    ap (λ (k : ℕ). get_or bs j d ++ concat (drop k bs)) q ∙ sym (at_drop_more concat bs j d (omega arith))
    ∙ ap (λ (k : ℕ). concat (drop k bs)) (sym p)

pub drop_all : (bs : List (List ℕ)) → drop (length bs) bs ≡ []
drop_all [] = refl
drop_all (b ∷ bs) = drop_all bs

pub all_dropped : (bs : List (List ℕ)) → drop (length bs - 0) bs ≡ []
all_dropped bs = let q : length bs - 0 ≡ length bs = omega arith in rw q (drop_all bs)

at_end : (vs : List Bool) (v : Bool) (k : ℕ) → length vs ≡ k → get_or (vs ++ (v ∷ [])) k false ≡ v
at_end [] v zero l = refl
at_end [] v (suc k) l = absurd (omega arith)
at_end (w ∷ vs) v zero l = absurd (omega arith)
at_end (w ∷ vs) v (suc k) l = at_end vs v k (omega arith)

before_end : (vs : List Bool) (v : Bool) (k : ℕ) → k < length vs
    → get_or (vs ++ (v ∷ [])) k false ≡ get_or vs k false
before_end [] v k l = absurd (omega arith)
before_end (w ∷ vs) v zero l = refl
before_end (w ∷ vs) v (suc k) l = before_end vs v k (omega arith)

pub one_more : (P : ℕ → Bool) (vs : List Bool) (v : Bool) (i : ℕ) → length vs ≡ i + 1
    → ((k : ℕ) → k ≤ i → get_or vs k false ≡ P k) → v ≡ P (i + 1) → (k : ℕ) → k ≤ i + 1
    → get_or (vs ++ (v ∷ [])) k false ≡ P k
one_more P vs v i l h e k b = elim (cases_lt i k) [
  | inr q ↦ before_end vs v k (omega arith) ∙ h k q
  | inl q ↦ let r : i + 1 ≡ k = omega arith in at_end vs v k (l ∙ r) ∙ e ∙ ap P r
]

-- ---- the pieces
piece_is : (es : List LeafEdge) (shape : Shape) (l u : Level) → AreNeighbours es l u
    → (before rest : List (List ℕ))
    (b : List ℕ) → AreBundles es l u (before ++ (b ∷ rest))
    → bundle_piece es shape l u b ≡ piece_of es l u (left_value es shape (b ∷ rest)) (left_value es shape rest) b
piece_is es shape l u n before rest [] h = refl
piece_is es shape l u n before rest (k ∷ ks) h =
    let lk : IsLive es l u k = (front (IsLive es l u) (k ∷ ks) (concat rest)
    (later before (live_bundles es l u (before ++ ((k ∷ ks) ∷ rest)) h))).0 in
    ap₂ (λ (v w : Bool). piece_between v w (spot_on (edge_at es k) l) (spot_on (edge_at es k) u) k)
    (value_left es l u n k lk shape ks before rest h ∙ sym (left_is es shape ((k ∷ ks) ∷ rest)))
    (value_right es l u n k lk shape ks before rest h ∙ sym (left_is es shape rest))
  where
    later : (before : List (List ℕ)) → AllByRecursion (IsLive es l u) (concat (before ++ ((k ∷ ks) ∷ rest)))
        → AllByRecursion (IsLive es l u) ((k ∷ ks) ++ concat rest)
    later [] a = a
    later (b ∷ before) a = later before (back (IsLive es l u) b (concat (before ++ ((k ∷ ks) ∷ rest))) a)

pub piece_at : (es : List LeafEdge) (shape : Shape) (l u : Level) → AreNeighbours es l u → (bs : List (List ℕ))
    → AreBundles es l u bs → (i : ℕ) (d : List ℕ) → i < length bs
    → slab_pieces es shape l u (drop i bs) ≡ piece_of es l u (left_value es shape (drop i bs))
    (left_value es shape (drop (i + 1) bs)) (get_or bs i d) ++ slab_pieces es shape l u (drop (i + 1) bs)
piece_at es shape l u n bs b i d h =
    let m : drop i bs ≡ get_or bs i d ∷ drop (i + 1) bs = drop_more bs i d h in
    let whole : bs ≡ take i bs ++ (get_or bs i d ∷ drop (i + 1) bs) = sym (take-append-drop i bs) ∙ ap
    (λ (r : List (List ℕ)). take i bs ++ r) m in
    let p = piece_is es shape l u n (take i bs) (drop (i + 1) bs) (get_or bs i d) (subst (AreBundles es l u) whole b) in
    ap (slab_pieces es shape l u) m
    ∙ ap (λ (ps : List Piece). ps ++ slab_pieces es shape l u (drop (i + 1) bs))
    (p ∙ ap (λ (cs : List (List ℕ)). piece_of es l u (left_value es shape cs)
    (left_value es shape (drop (i + 1) bs)) (get_or bs i d)) (sym m))

pub no_bundle : (es : List LeafEdge) (shape : Shape) (l u : Level) (bs : List (List ℕ)) (i : ℕ) → length bs ≤ i
    → slab_pieces es shape l u (drop i bs) ≡ []
no_bundle es shape l u [] i h = none i
  where
    none : (i : ℕ) → slab_pieces es shape l u (drop i []) ≡ []
    none zero = refl
    none (suc i) = refl
no_bundle es shape l u (b ∷ bs) zero h = absurd (omega arith)
no_bundle es shape l u (b ∷ bs) (suc i) h = no_bundle es shape l u bs i (omega arith)

-- the values on both sides of a bundle
pub value_beside : (es : List LeafEdge) (shape : Shape) (bs : List (List ℕ)) (vs : List Bool) (i k : ℕ)
    → AreLeftValues es shape bs vs → k ≤ length bs → length bs - k ≡ i
    → get_or vs k false ≡ left_value es shape
    (drop i bs)
value_beside es shape bs vs i k h b e = h.each k b ∙ ap (λ (j : ℕ). left_value es shape (drop j bs)) e

pub any_default : (vs : List Bool) (k : ℕ) (d e : Bool) → k < length vs → get_or vs k d ≡ get_or vs k e
any_default [] k d e h = absurd (omega arith)
any_default (v ∷ vs) zero d e h = refl
any_default (v ∷ vs) (suc k) d e h = any_default vs k d e (omega arith)

pub first_value : (es : List LeafEdge) (shape : Shape) (bs : List (List ℕ)) (vs : List Bool) (k : ℕ)
    → vs ≡ false ∷ [] → k ≤ 0 → get_or vs k false ≡ left_value es shape (drop (length bs - k) bs)
first_value es shape bs vs zero e h = ap (λ (vs : List Bool). get_or vs zero false) e ∙ sym
    (ap (left_value es shape) (all_dropped bs) ∙ outside_right es shape)
first_value es shape bs vs (suc k) e h = absurd (omega arith)

pub length_more : (vs ws : List Bool) (v : Bool) (n : ℕ) → ws ≡ vs ++ (v ∷ []) → length vs ≡ n
    → length ws ≡ n + 1
length_more vs ws v n e h = let l = length-append vs (v ∷ []) in let m = ap length e in omega arith

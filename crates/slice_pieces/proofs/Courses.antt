-- Which way pieces run: pieces of one name that follow one another run one way, so they come back to no start.
use Rattle.std.proofs.Common.{◌≡◌, ℕ, zero, suc, ◌<◌, ◌⊎◌, inl, inr, Bool, true, false, true≢false, List, [], ◌∷◌, All, length, get_or, refl, sym, ap, ◌∙◌, subst, arith}
use lib.IntN.{pos}
use lib.Signed.{◌<ℤ◌}
use Rattle.std.specs.Prelude.{Contains}
use Rattle.std.proofs.lemmas.Int.{ints}
use Rattle.std.proofs.lemmas.Bool.{cases_lt}
use Rattle.std.proofs.lemmas.List.{get_or_default}
use Rattle.std.proofs.lemmas.List.Elements.{All-contains, All-get_or, All-from_recursion}
use Rattle.std.proofs.lemmas.List.Sorted.{Contains-permutation, IsPermutation-sym}
use Rattle.scad_geom.specs.declared.level.Level.{Level}
use Rattle.scad_geom.specs.Point.{Point, is_same_point}
use Rattle.scad_geom.proofs.Points.{same_height, same_across}
use Rattle.winding_laws.specs.Nearness.{IsProper}
use Rattle.winding_laws.proofs.Sameness.{are_same, same_by, are_same_turned}
use Rattle.slice_pieces.specs.declared.piece.Piece.{Piece}
use Rattle.slice_pieces.specs.Spots.{point_of, is_same_spot}
use Rattle.winding_laws.specs.Approach.{AreLevel}
use Rattle.slice_pieces.specs.Inside.{IsBelow, IsLeftOf, IsBetween, IsInside}
use Rattle.slice_pieces.specs.Pieces.{way_of, IsPieceWithin}
use Rattle.slice_pieces.specs.Naming.{LiesAlong, HasLength, AreApart, AreApartByName, AllPairs, AreNamed}
use Rattle.slice_pieces.specs.Merging.{joined, MeetAlone}
use Rattle.slice_pieces.proofs.GoingOn.{pieces_go_on}
use Rattle.slice_pieces.proofs.Balance.{proper_within}
use Rattle.scad_geom.specs.declared.point.Edge.{Edge}
use Rattle.scad_geom.proofs.Heights.{lower_chain, lower_same, same_lower, same_chain}

-- ---- the order of points: by height, then from left to right
abbrev pub IsBefore : Point → Point → Type 0
IsBefore a b = IsBelow a b ⊎ (AreLevel a b × IsLeftOf a b)

abbrev height : Point → Level
height p = record { n = p.y; d = p.d }

abbrev across : Point → Level
across p = record { n = p.x; d = p.d }

module _ (a b c : Point) (da : pos 0 <ℤ a.d) (db : pos 0 <ℤ b.d) (dc : pos 0 <ℤ c.d) where
  before_through : IsBefore a b → IsBefore b c → IsBefore a c
  before_through (inl h) (inl k) = inl (lower_chain (height a) (height b) (height c) da db dc h k)
  before_through (inl h) (inr k) = inl (lower_same (height a) (height b) (height c) da db dc h k.0)
  before_through (inr h) (inl k) = inl (same_lower (height a) (height b) (height c) da db dc h.0 k)
  before_through (inr h) (inr k) = inr (
    same_chain (height a) (height b) (height c) da db dc h.0 k.0,
    lower_chain (across a) (across b) (across c) da db dc h.1 k.1,
  )

  before_same : IsBefore a b → is_same_point b c ≡ true → IsBefore a c
  before_same (inl h) e = inl (lower_same (height a) (height b) (height c) da db dc h (same_height b c e))
  before_same (inr h) e = inr (
    same_chain (height a) (height b) (height c) da db dc h.0 (same_height b c e),
    lower_same (across a) (across b) (across c) da db dc h.1 (same_across b c e),
  )

  same_before : is_same_point a b ≡ true → IsBefore b c → IsBefore a c
  same_before e (inl k) = inl (same_lower (height a) (height b) (height c) da db dc (same_height a b e) k)
  same_before e (inr k) = inr (
    same_chain (height a) (height b) (height c) da db dc (same_height a b e) k.0,
    same_lower (across a) (across b) (across c) da db dc (same_across a b e) k.1,
  )

not_itself : (a : Point) → IsBefore a a → ⊥
not_itself a (inl h) = omega (arith, ints)
not_itself a (inr h) = let k = h.1 in omega (arith, ints)

pub turn_same : (a b : Point) → is_same_point a b ≡ true → is_same_point b a ≡ true
turn_same a b h = same_by b a (are_same_turned a b (are_same a b h))

-- ---- which way a piece runs: on, or back
abbrev pub Runs : Bool → Piece → Type 0
Runs true q = IsBefore (point_of q.from) (point_of q.to)
Runs false q = IsBefore (point_of q.to) (point_of q.from)

both_ways : (q : Piece) → IsProper (way_of q) → Runs true q → Runs false q → ⊥
both_ways q p h k = not_itself (point_of q.from)
    (before_through (point_of q.from) (point_of q.to) (point_of q.from) p.from p.to p.from h k)

one_way : (b c : Bool) (q : Piece) → IsProper (way_of q) → Runs b q → Runs c q → b ≡ c
one_way true true q p h k = refl
one_way true false q p h k = absurd (both_ways q p h k)
one_way false true q p h k = absurd (both_ways q p k h)
one_way false false q p h k = refl

joined_runs : (b : Bool) (f s : Piece) → IsProper (way_of f) → IsProper (way_of s)
    → is_same_spot f.to s.from ≡ true → Runs b f → Runs b s → Runs b (joined f s)
joined_runs true f s p r m h k =
    before_through (point_of f.from) (point_of f.to) (point_of s.to) p.from p.to r.to h
    (same_before (point_of f.to) (point_of s.from) (point_of s.to) p.to r.from r.to m k)
joined_runs false f s p r m h k =
    before_through (point_of s.to) (point_of s.from) (point_of f.from) r.to r.from p.from k
    (same_before (point_of s.from) (point_of f.to) (point_of f.from) r.from p.to p.from
    (turn_same (point_of f.to) (point_of s.from) m) h)

no_round : (b : Bool) (q : Piece) → IsProper (way_of q) → is_same_spot q.to q.from ≡ true → Runs b q → ⊥
no_round true q p e h = not_itself (point_of q.from)
    (before_same (point_of q.from) (point_of q.to) (point_of q.from) p.from p.to p.from h e)
no_round false q p e h = not_itself (point_of q.to)
    (before_same (point_of q.to) (point_of q.from) (point_of q.to) p.to p.from p.to h
    (turn_same (point_of q.to) (point_of q.from) e))

-- ---- members of a list
pub is_first : (x : Piece) (xs : List Piece) → Contains (x ∷ xs) x
is_first x xs = (zero, omega arith, refl)

pub is_later : (x y : Piece) (xs : List Piece) → Contains xs y → Contains (x ∷ xs) y
is_later x y xs h = (suc h.0, (let k = h.1 in omega arith), h.2)

pub first_or_later : (x y : Piece) (xs : List Piece) → Contains (x ∷ xs) y → (x ≡ y) ⊎ Contains xs y
first_or_later x y xs h = by_place h.0 h.1 h.2
  where
    by_place : (k : ℕ) → k < length (x ∷ xs) → get_or (x ∷ xs) k y ≡ y → (x ≡ y) ⊎ Contains xs y
    by_place zero l e = inl e
    by_place (suc k) l e = inr (k, omega arith, e)

-- ---- pieces of which those of one name that follow one another run one way
abbrev pub OneCourse : Piece → Piece → Type 0
OneCourse q r = (b : Bool) × Runs b q × Runs b r

pub record KeepCourse (pieces : List Piece) : Type 0 where
  pub proper : (q : Piece) → Contains pieces q → IsProper (way_of q)
  pub course : (q r : Piece) → Contains pieces q → Contains pieces r → q.edge ≡ r.edge
      → is_same_spot q.to r.from ≡ true → OneCourse q r

module _ (old : List Piece) (f s : Piece) (others : List Piece) (m : MeetAlone old f s others) (h : KeepCourse old) where
  abbrev two : List Piece
  two = f ∷ (s ∷ others)

  pub has : (q : Piece) → Contains two q → Contains old q
  has q c = Contains-permutation two old q (IsPermutation-sym old two m.two) c

  pub has_f : Contains old f
  has_f = has f (is_first f (s ∷ others))

  pub has_s : Contains old s
  has_s = has s (is_later f s (s ∷ others) (is_first s others))

  pub has_other : (q : Piece) → Contains others q → Contains old q
  has_other q c = has q (is_later f q (s ∷ others) (is_later s q others c))

  pf : IsProper (way_of f)
  pf = h.proper f has_f

  ps : IsProper (way_of s)
  ps = h.proper s has_s

  own : OneCourse f s
  own = h.course f s has_f has_s m.name m.meet

  -- they don't come back to the start
  pub no_way_back : is_same_spot s.to f.from ≡ true → ⊥
  no_way_back e = no_round own.0 (joined f s) (record { from = pf.from; to = ps.to }) e
      (joined_runs own.0 f s pf ps m.meet own.1 own.2)

  kept_proper : (q : Piece) → Contains (joined f s ∷ others) q → IsProper (way_of q)
  kept_proper q c = by_case (first_or_later (joined f s) q others c)
    where
      by_case : (joined f s ≡ q) ⊎ Contains others q → IsProper (way_of q)
      by_case (inl e) = subst (λ (x : Piece). IsProper (way_of x)) e (record { from = pf.from; to = ps.to })
      by_case (inr k) = h.proper q (has_other q k)

  from_joined : (r : Piece) → Contains others r → f.edge ≡ r.edge → is_same_spot s.to r.from ≡ true
      → OneCourse (joined f s) r
  from_joined r c n e =
      let on = h.course s r has_s (has_other r c) (sym m.name ∙ n) e in
      let same = one_way own.0 on.0 s ps own.2 on.1 in
      (own.0, joined_runs own.0 f s pf ps m.meet own.1 own.2, subst (λ (b : Bool). Runs b r) (sym same) on.2)

  to_joined : (q : Piece) → Contains others q → q.edge ≡ f.edge → is_same_spot q.to f.from ≡ true
      → OneCourse q (joined f s)
  to_joined q c n e =
      let on = h.course q f (has_other q c) has_f n e in
      let same = one_way own.0 on.0 f pf own.1 on.2 in
      (own.0, subst (λ (b : Bool). Runs b q) (sym same) on.1, joined_runs own.0 f s pf ps m.meet own.1 own.2)

  kept_course : (q r : Piece) → Contains (joined f s ∷ others) q → Contains (joined f s ∷ others) r
      → q.edge ≡ r.edge → is_same_spot q.to r.from ≡ true → OneCourse q r
  kept_course q r c d n e = by_cases (first_or_later (joined f s) q others c) (first_or_later (joined f s) r others d)
    where
      by_cases : (joined f s ≡ q) ⊎ Contains others q → (joined f s ≡ r) ⊎ Contains others r → OneCourse q r
      by_cases (inl x) (inl y) = absurd (no_way_back
          (subst (λ (p : Piece). is_same_spot s.to p.from ≡ true) (sym y)
          (subst (λ (p : Piece). is_same_spot p.to r.from ≡ true) (sym x) e)))
      by_cases (inl x) (inr l) =
          subst (λ (p : Piece). OneCourse p r) x
          (from_joined r l (subst (λ (p : Piece). p.edge ≡ r.edge) (sym x) n)
          (subst (λ (p : Piece). is_same_spot p.to r.from ≡ true) (sym x) e))
      by_cases (inr k) (inl y) =
          subst (λ (p : Piece). OneCourse q p) y
          (to_joined q k (subst (λ (p : Piece). q.edge ≡ p.edge) (sym y) n)
          (subst (λ (p : Piece). is_same_spot q.to p.from ≡ true) (sym y) e))
      by_cases (inr k) (inr l) = h.course q r (has_other q k) (has_other r l) n e

  pub kept : KeepCourse (joined f s ∷ others)
  kept = record { proper = kept_proper; course = kept_course }

-- ---- named pieces do
pair_at : (R : Piece → Piece → Type 0) (qs : List Piece) (k m : ℕ) (d : Piece) → AllPairs R qs → k < m
    → m < length qs → R (get_or qs k d) (get_or qs m d)
pair_at R [] k m d h l n = absurd (omega arith)
pair_at R (q ∷ qs) zero zero d h l n = absurd (omega arith)
pair_at R (q ∷ qs) zero (suc m) d h l n = All-get_or (R q) qs m d (omega arith) (All-from_recursion (R q) qs h.0)
pair_at R (q ∷ qs) (suc k) zero d h l n = absurd (omega arith)
pair_at R (q ∷ qs) (suc k) (suc m) d h l n = pair_at R qs k m d h.1 (omega arith) (omega arith)

course_inside : (q r : Piece) → IsProper (way_of q) → IsProper (way_of r) → is_same_spot q.to r.from ≡ true
    → IsInside (point_of q.from) (point_of r.to) (point_of q.to) → OneCourse q r
course_inside q r p t e i = by_case i.between
  where
    on : IsBefore (point_of q.from) (point_of q.to) → IsBefore (point_of q.to) (point_of r.to) → OneCourse q r
    on h k = (
      true,
      h,
      same_before (point_of r.from) (point_of q.to) (point_of r.to) t.from p.to t.to
          (turn_same (point_of q.to) (point_of r.from) e) k,
    )

    back : IsBefore (point_of r.to) (point_of q.to) → IsBefore (point_of q.to) (point_of q.from) → OneCourse q r
    back h k = (false, k, before_same (point_of r.to) (point_of q.to) (point_of r.from) t.to p.to t.from h e)

    by_case : IsBetween IsBelow (point_of q.from) (point_of q.to) (point_of r.to)
        ⊎ (AreLevel (point_of q.from) (point_of q.to) × AreLevel (point_of q.to) (point_of r.to)
        × IsBetween IsLeftOf (point_of q.from) (point_of q.to) (point_of r.to))
        → OneCourse q r
    by_case (inl (inl h)) = on (inl h.0) (inl h.1)
    by_case (inl (inr h)) = back (inl h.0) (inl h.1)
    by_case (inr h) = elim h.2 as (λ _. OneCourse q r) [
      | inl k ↦ on (inr (h.0, k.0)) (inr (h.1, k.1))
      | inr k ↦ back (inr (sym h.1, k.0)) (inr (sym h.0, k.1))
    ]

pub named_keep_course : (limit count : ℕ) (edge : ℕ → Edge) (pieces : List Piece)
    → All (IsPieceWithin limit) pieces → AreNamed count edge pieces → KeepCourse pieces
named_keep_course limit count edge pieces within named = record {
  proper = λ q c. proper_within limit q (All-contains (IsPieceWithin limit) pieces q within c);
  course = λ q r c d n e.
      let wq = All-contains (IsPieceWithin limit) pieces q within c in
      let wr = All-contains (IsPieceWithin limit) pieces r within d in
      let lq = All-contains HasLength pieces q named.lengths c in
      let lr = All-contains HasLength pieces r named.lengths d in
      let sq = All-contains (λ p. LiesAlong (edge p.edge) p) pieces q named.lines c in
      let sr = subst (λ (k : ℕ). LiesAlong (edge k) r) (sym n) (All-contains (λ p. LiesAlong (edge p.edge) p) pieces r named.lines d) in
      course_inside q r (proper_within limit q wq) (proper_within limit r wr) e
      (pieces_go_on limit (edge q.edge) q r wq wr sq sr lq lr (apart q r c d n e lq) e);
}
  where
    itself : (q r : Piece) → HasLength q → q ≡ r → is_same_spot q.to r.from ≡ true → ⊥
    itself q r l x e = true≢false (sym (turn_same (point_of q.to) (point_of q.from)
        (subst (λ (p : Piece). is_same_spot q.to p.from ≡ true) (sym x) e)) ∙ l)

    by_places : (q r : Piece) (c : Contains pieces q) (d : Contains pieces r) → c.0 < d.0 → AreApartByName q r
    by_places q r c d l =
        let there : get_or pieces d.0 q ≡ r = get_or_default pieces d.0 q r d.1 ∙ d.2 in
        subst (λ (p : Piece). AreApartByName p r) c.2
        (subst (AreApartByName (get_or pieces c.0 q)) there (pair_at AreApartByName pieces c.0 d.0 q named.apart l d.1))

    apart : (q r : Piece) → Contains pieces q → Contains pieces r → q.edge ≡ r.edge
        → is_same_spot q.to r.from ≡ true → HasLength q → AreApart q r
    apart q r c d n e l = elim (cases_lt c.0 d.0) as (λ _. AreApart q r) [
      | inl x ↦ by_places q r c d x n
      | inr x ↦ elim (cases_lt d.0 c.0) as (λ _. AreApart q r) [
        | inl y ↦ λ p above h k. by_places r q d c y (sym n) p above k h
        | inr y ↦
            let one : d.0 ≡ c.0 = omega arith in
            let at : get_or pieces c.0 q ≡ r = sym (ap (λ (k : ℕ). get_or pieces k q) one) ∙ get_or_default pieces d.0 q r d.1 ∙ d.2 in
            absurd (itself q r l (sym c.2 ∙ at) e)
      ]
    ]

-- Pieces can be merged, whatever the pieces.
use Rattle.std.proofs.Common.{◌≡◌, ℕ, zero, suc, ◌≤◌, Bool, true, false, true≢false, ◌⊎◌, inl, inr}
use Rattle.std.proofs.Common.{List, [], ◌∷◌, All, length, refl, sym, ◌∙◌, arith}
use Rattle.std.specs.Prelude.{IsPermutation}
use Rattle.std.proofs.lemmas.List.Elements.{All-nil, All-cons, All-head}
use Rattle.std.proofs.lemmas.List.Sorted.{All-permutation, IsPermutation-refl, IsPermutation-sym, IsPermutation-trans}
use Rattle.std.proofs.lemmas.List.Sorted.{IsPermutation-cons, IsPermutation-middle, length_permutation}
use Rattle.scad_geom.specs.Balance.{starts_at, ends_at}
use Rattle.winding_laws.proofs.Sameness.{same_itself}
use Rattle.slice_pieces.specs.declared.piece.Spot.{Spot}
use Rattle.slice_pieces.specs.declared.piece.Piece.{Piece}
use Rattle.slice_pieces.specs.Spots.{point_of, is_same_spot}
use Rattle.slice_pieces.specs.Pieces.{ways_of}
use Rattle.slice_pieces.specs.Merging.{joined, MeetAlone, NoneMeetAlone, AreMerged, all_joined, two_join}
use Rattle.slice_pieces.specs.Joining.{GoesOn, IsPassedOnce, IsStuck}
use Rattle.slice_pieces.proofs.ChainEnds.{none_meet_alone}
use Rattle.std.proofs.lemmas.Bool.{cases_eq}

-- ---- one of a list that a fact holds of, where a search decides it
record HasOne {A : Type 0} (P : A → Type 0) (xs : List A) : Type 0 where
  one : A
  others : List A
  holds : P one
  taken : IsPermutation xs (one ∷ others)

module _ {A : Type 0} (P N : A → Type 0) (decide : (x : A) → P x ⊎ N x) where
  behind : (x : A) (xs : List A) → HasOne P xs → HasOne P (x ∷ xs)
  behind x xs h = record {
    one = h.one;
    others = x ∷ h.others;
    holds = h.holds;
    taken = IsPermutation-trans (x ∷ xs) (x ∷ (h.one ∷ h.others)) (h.one ∷ (x ∷ h.others))
        (IsPermutation-cons x xs (h.one ∷ h.others) h.taken) (IsPermutation-middle (x ∷ []) h.one h.others);
  }

  one_of : (xs : List A) → HasOne P xs ⊎ All N xs
  one_of [] = inr (All-nil N)
  one_of (x ∷ xs) = by_cases (decide x) (one_of xs)
    where
      by_cases : P x ⊎ N x → HasOne P xs ⊎ All N xs → HasOne P (x ∷ xs) ⊎ All N (x ∷ xs)
      by_cases (inl p) r = inl (record { one = x; others = xs; holds = p; taken = IsPermutation-refl (x ∷ xs) })
      by_cases (inr n) (inl h) = inl (behind x xs h)
      by_cases (inr n) (inr none) = inr (All-cons N x xs n none)

-- ---- a piece goes on from another or not, and a spot is passed once or not
module _ (q r : Piece) where
  goes_on_or_not : GoesOn q r ⊎ (GoesOn q r → ⊥)
  goes_on_or_not = by_tests (cases_eq q.edge r.edge) (is_same_spot q.to r.from) (is_same_spot q.to r.to) refl refl
    where
      by_tests : (q.edge ≡ r.edge) ⊎ (q.edge ≡ r.edge → ⊥) → (b c : Bool) → is_same_spot q.to r.from ≡ b
          → is_same_spot q.to r.to ≡ c → GoesOn q r ⊎ (GoesOn q r → ⊥)
      by_tests (inr n) b c h k = inr (λ g. n g.name)
      by_tests (inl e) false c h k = inr (λ g. true≢false (sym g.meet ∙ h))
      by_tests (inl e) true true h k = inr (λ g. true≢false (sym k ∙ g.away))
      by_tests (inl e) true false h k = inl (record { name = e; meet = h; away = k })

module _ (pieces : List Piece) (s : Spot) where
  abbrev ending : ℕ
  ending = ends_at (point_of s) (ways_of pieces)

  abbrev starting : ℕ
  starting = starts_at (point_of s) (ways_of pieces)

  passed_or_not : IsPassedOnce pieces s ⊎ (IsPassedOnce pieces s → ⊥)
  passed_or_not = by_cases (cases_eq ending 1) (cases_eq starting 1)
    where
      by_cases : (ending ≡ 1) ⊎ (ending ≡ 1 → ⊥) → (starting ≡ 1) ⊎ (starting ≡ 1 → ⊥)
          → IsPassedOnce pieces s ⊎ (IsPassedOnce pieces s → ⊥)
      by_cases (inr n) c = inr (λ p. n p.one_ends)
      by_cases (inl e) (inr n) = inr (λ p. n p.one_starts)
      by_cases (inl e) (inl f) = inl (record { one_ends = e; one_starts = f })

-- ---- two meet alone or none do
record HasMeeting (pieces : List Piece) : Type 0 where
  first : Piece
  second : Piece
  others : List Piece
  meet : MeetAlone pieces first second others

-- a piece that isn't stuck
record IsLoose (pieces : List Piece) (q : Piece) : Type 0 where
  passed : IsPassedOnce pieces q.to
  on : HasOne (GoesOn q) pieces

abbrev Off : Piece → Piece → Type 0
Off q r = GoesOn q r → ⊥

next_of : (q : Piece) (pieces : List Piece) → HasOne (GoesOn q) pieces ⊎ All (Off q) pieces
next_of q pieces = one_of (GoesOn q) (Off q) (goes_on_or_not q) pieces

module _ (pieces : List Piece) where
  loose_or_stuck : (q : Piece) → IsLoose pieces q ⊎ IsStuck pieces q
  loose_or_stuck q = by_cases (passed_or_not pieces q.to) (next_of q pieces)
    where
      by_cases : IsPassedOnce pieces q.to ⊎ (IsPassedOnce pieces q.to → ⊥)
          → HasOne (GoesOn q) pieces ⊎ All (Off q) pieces → IsLoose pieces q ⊎ IsStuck pieces q
      by_cases (inr n) r = inr (λ p. absurd (n p))
      by_cases (inl p) (inr none) = inr (λ p. none)
      by_cases (inl p) (inl h) = inl (record { passed = p; on = h })

  module _ (h : HasOne (IsLoose pieces) pieces) where
    abbrev loose : Piece
    loose = h.one

    meet_alone : (n : HasOne (GoesOn loose) h.others) → MeetAlone pieces loose n.one n.others
    meet_alone n = record {
      two = IsPermutation-trans pieces (loose ∷ h.others) (loose ∷ (n.one ∷ n.others)) h.taken
          (IsPermutation-cons loose h.others (n.one ∷ n.others) n.taken);
      name = n.holds.name;
      meet = n.holds.meet;
      one_ends = h.holds.passed.one_ends;
      one_starts = h.holds.passed.one_starts;
    }

    -- none goes on from itself, so one of the others does
    not_from_itself : Off loose loose
    not_from_itself g = true≢false (sym (same_itself (point_of loose.to)) ∙ g.away)

    some_other : All (Off loose) h.others → ⊥
    some_other none =
        let n : HasOne (GoesOn loose) pieces = h.holds.on in
        let off : All (Off loose) (loose ∷ h.others) = All-cons (Off loose) loose h.others not_from_itself none in
        let back : IsPermutation (loose ∷ h.others) pieces = IsPermutation-sym pieces (loose ∷ h.others) h.taken in
        let all : All (Off loose) pieces = All-permutation (Off loose) (loose ∷ h.others) pieces back off in
        All-head (Off loose) n.one n.others (All-permutation (Off loose) pieces (n.one ∷ n.others) n.taken all) n.holds

    meeting : HasMeeting pieces
    meeting = by_cases (next_of loose h.others)
      where
        by_cases : HasOne (GoesOn loose) h.others ⊎ All (Off loose) h.others → HasMeeting pieces
        by_cases (inl n) = record { first = loose; second = n.one; others = n.others; meet = meet_alone n }
        by_cases (inr none) = absurd (some_other none)

  meeting_or_none : HasMeeting pieces ⊎ NoneMeetAlone pieces
  meeting_or_none = by_cases (one_of (IsLoose pieces) (IsStuck pieces) loose_or_stuck pieces)
    where
      by_cases : HasOne (IsLoose pieces) pieces ⊎ All (IsStuck pieces) pieces → HasMeeting pieces ⊎ NoneMeetAlone pieces
      by_cases (inl h) = inl (meeting h)
      by_cases (inr all) = inr (none_meet_alone pieces all)

-- ---- one joining after another
pub record HasMerged (pieces : List Piece) : Type 0 where
  pub merged : List Piece
  pub are_merged : AreMerged pieces merged

as_they_are : (pieces : List Piece) → NoneMeetAlone pieces → HasMerged pieces
as_they_are pieces none = record { merged = pieces; are_merged = all_joined none (IsPermutation-refl pieces) }

merging : (n : ℕ) (pieces : List Piece) → length pieces ≤ n → HasMerged pieces
merging zero pieces l = by_cases (meeting_or_none pieces)
  where
    by_cases : HasMeeting pieces ⊎ NoneMeetAlone pieces → HasMerged pieces
    by_cases (inr none) = as_they_are pieces none
    by_cases (inl h) =
        let size = length_permutation pieces (h.first ∷ (h.second ∷ h.others)) h.meet.two in
        absurd (omega arith)
merging (suc n) pieces l = by_cases (meeting_or_none pieces) (merging n)
  where
    by_cases : HasMeeting pieces ⊎ NoneMeetAlone pieces → ((rest : List Piece) → length rest ≤ n → HasMerged rest)
        → HasMerged pieces
    by_cases (inr none) on = as_they_are pieces none
    by_cases (inl h) on =
        let size = length_permutation pieces (h.first ∷ (h.second ∷ h.others)) h.meet.two in
        let fewer : List Piece = joined h.first h.second ∷ h.others in
        let rest : HasMerged fewer = on fewer (omega arith) in
        record { merged = rest.merged; are_merged = two_join h.first h.second h.others h.meet rest.are_merged }

pub pieces_merged : (pieces : List Piece) → HasMerged pieces
pieces_merged pieces = merging (length pieces) pieces (omega arith)

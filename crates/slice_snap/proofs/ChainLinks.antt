-- Chains of pieces are joined one to another; where those of all pieces were, the wholes are the merged pieces.
use Rattle.std.proofs.Common.{◌≡◌, ◌⊎◌, inl, inr, ℕ, zero, suc, ◌+◌, ◌<◌, ◌≤◌, Bool, true, false, true≢false, List, [], ◌∷◌, ◌++◌, length, get_or, set, take, cond, All, refl, sym, ap, ap₂, ◌∙◌, subst, arith, append-nil}
use lib.IntN.{pos}
use lib.Signed.{◌<ℤ◌}
use Rattle.std.specs.Prelude.{IsPermutation}
use Rattle.std.proofs.lemmas.Bool.{cases_lt}
use Rattle.std.proofs.lemmas.List.{get_or_default, get_or-set_same, get_or-set_other, length-set, length-take-le, take_more}
use Rattle.std.proofs.lemmas.List.Elements.{All-nil, All-cons, All-get_or, All-from_get_or, All-contains_itself}
use Rattle.std.proofs.lemmas.List.Sorted.{All-permutation, IsPermutation-refl, IsPermutation-sym, IsPermutation-trans, IsPermutation-cons, IsPermutation-middle}
use Rattle.scad_geom.specs.Limits.{coordinate_limit}
use Rattle.scad_geom.specs.Point.{Point, is_same_point}
use Rattle.scad_geom.specs.Segment.{Segment}
use Rattle.scad_geom.specs.Balance.{starts_at, ends_at}
use Rattle.scad_geom.proofs.Balance.{once, starts-cons, ends-cons}
use Rattle.winding_laws.proofs.Sameness.{same_itself}
use Rattle.slice_pieces.specs.declared.piece.Spot.{Spot}
use Rattle.slice_pieces.specs.declared.piece.Piece.{Piece}
use Rattle.slice_snap.specs.declared.chains.Chains.{Chains}
use Rattle.slice_pieces.specs.Spots.{point_of, is_same_spot, IsSpotWithin}
use Rattle.slice_pieces.specs.Pieces.{way_of, ways_of, IsPieceWithin}
use Rattle.slice_pieces.specs.Merging.{joined, MeetAlone, AreMerged, all_joined, two_join}
use Rattle.slice_pieces.specs.Joining.{GoesOn, IsPassedOnce, IsStuck}
use Rattle.slice_snap.specs.Chains.{kept, wholes_of, no_piece, piece_at, gone_at, place_at, IsChain, IsLast, AreJoined, AreChained, IsLinked, AreAlone}
use Rattle.slice_pieces.proofs.SameSpots.{divisor_above}
use Rattle.slice_pieces.proofs.ChainEnds.{starts_permuted, ends_permuted, fewer_starts, fewer_ends, point_alike, stays_stuck, none_meet_alone}
use Rattle.slice_pieces.proofs.Pairs.{permuted_merged}
use Rattle.slice_snap.proofs.Pairs.{kept_within}
use Rattle.slice_pieces.proofs.TwoPairs.{two_starts}

-- ---- the pieces that aren't gone
all_kept : (P : Piece → Type 0) (gs : List Bool) (qs : List Piece)
    → ((k : ℕ) → k < length qs → gone_at gs k ≡ false → P (piece_at qs k)) → All P (kept gs qs)
all_kept P [] qs h = All-from_get_or P qs no_piece (λ k l. h k l refl)
all_kept P (g ∷ gs) [] h = All-nil P
all_kept P (true ∷ gs) (q ∷ qs) h = all_kept P gs qs (λ k l f. h (suc k) (omega arith) f)
all_kept P (false ∷ gs) (q ∷ qs) h = All-cons P q (kept gs qs) (h zero (omega arith) refl)
    (all_kept P gs qs (λ k l f. h (suc k) (omega arith) f))

none_gone : (gs : List Bool) (qs : List Piece) → ((k : ℕ) → gone_at gs k ≡ false) → kept gs qs ≡ qs
none_gone [] qs h = refl
none_gone (g ∷ gs) [] h = refl
none_gone (true ∷ gs) (q ∷ qs) h = absurd (true≢false (h zero))
none_gone (false ∷ gs) (q ∷ qs) h = ap (λ (rs : List Piece). q ∷ rs) (none_gone gs qs (λ k. h (suc k)))

one_out : (gs : List Bool) (qs : List Piece) (k : ℕ) → k < length gs → k < length qs → gone_at gs k ≡ false
    → IsPermutation (kept gs qs) (piece_at qs k ∷ kept (set gs k true) qs)
one_out [] qs k l m f = absurd (omega arith)
one_out (g ∷ gs) [] k l m f = absurd (omega arith)
one_out (true ∷ gs) (q ∷ qs) zero l m f = absurd (true≢false f)
one_out (false ∷ gs) (q ∷ qs) zero l m f = IsPermutation-refl (q ∷ kept gs qs)
one_out (true ∷ gs) (q ∷ qs) (suc k) l m f = one_out gs qs k (omega arith) (omega arith) f
one_out (false ∷ gs) (q ∷ qs) (suc k) l m f =
    let r : Piece = piece_at qs k in
    let rest : List Piece = kept (set gs k true) qs in
    IsPermutation-trans (q ∷ kept gs qs) (q ∷ (r ∷ rest)) (r ∷ (q ∷ rest))
    (IsPermutation-cons q (kept gs qs) (r ∷ rest) (one_out gs qs k (omega arith) (omega arith) f))
    (IsPermutation-middle (q ∷ []) r rest)

-- it doesn't matter what stands where a piece is gone
kept_set : (gs : List Bool) (qs : List Piece) (k : ℕ) (x : Piece) → gone_at gs k ≡ true
    → kept gs (set qs k x) ≡ kept gs qs
kept_set [] qs k x f = absurd (true≢false (sym f))
kept_set (g ∷ gs) [] k x f = refl
kept_set (true ∷ gs) (q ∷ qs) zero x f = refl
kept_set (false ∷ gs) (q ∷ qs) zero x f = absurd (true≢false (sym f))
kept_set (true ∷ gs) (q ∷ qs) (suc k) x f = kept_set gs qs k x f
kept_set (false ∷ gs) (q ∷ qs) (suc k) x f = ap (λ (rs : List Piece). q ∷ rs) (kept_set gs qs k x f)

-- ---- counts
at_least_one : (m n : ℕ) (b : Bool) → m ≡ once b + n → b ≡ true → 1 ≤ m
at_least_one m n true h e = omega arith
at_least_one m n false h e = absurd (true≢false (sym e))

none_left : (m n : ℕ) (b : Bool) → m ≡ once b + n → b ≡ true → m ≡ 1 → n ≡ 0
none_left m n true h e o = omega arith
none_left m n false h e o = absurd (true≢false (sym e))

still_fewer : (m n k : ℕ) (b : Bool) → m ≡ once b + n → m ≤ k → n ≤ k
still_fewer m n k true h l = omega arith
still_fewer m n k false h l = omega arith

starts_alike : (p q : Point) → pos 0 <ℤ p.d → pos 0 <ℤ q.d → is_same_point p q ≡ true
    → (ss : List Segment) → starts_at p ss ≡ starts_at q ss
starts_alike p q dp dq h [] = refl
starts_alike p q dp dq h (x ∷ ss) =
    starts-cons p x ss
    ∙ ap₂ (λ (b : Bool) (n : ℕ). once b + n) (point_alike p q x.from dp dq h) (starts_alike p q dp dq h ss)
    ∙ sym (starts-cons q x ss)

-- where a piece goes on depends on its end and its name
stuck_alike : (left : List Piece) (q r : Piece) → q.to ≡ r.to → q.edge ≡ r.edge → IsStuck left q
    → IsStuck left r
stuck_alike left q r end name h once_passed =
    let back : IsPassedOnce left q.to = subst (IsPassedOnce left) (sym end) once_passed in
    λ k d l g. h back k d l (record {
      name = name ∙ g.name;
      meet = subst (λ (s : Spot). is_same_spot s (get_or left k d).from ≡ true) (sym end) g.meet;
      away = subst (λ (s : Spot). is_same_spot s (get_or left k d).to ≡ false) (sym end) g.away;
    })

not_passed : (left : List Piece) (q : Piece) → ends_at (point_of q.to) (ways_of left) ≡ 0 → IsStuck left q
not_passed left q none h = absurd (let one = h.one_ends in omega arith)

not_started : (left : List Piece) (q : Piece) → starts_at (point_of q.to) (ways_of left) ≡ 0 → IsStuck left q
not_started left q none h = absurd (let one = h.one_starts in omega arith)

-- ---- one mark more
marked : (gs : List Bool) (next k : ℕ) → gone_at (set gs next true) k ≡ false → gone_at gs k ≡ false
marked [] next k f = f
marked (g ∷ gs) zero zero f = absurd (true≢false f)
marked (g ∷ gs) zero (suc k) f = f
marked (g ∷ gs) (suc next) zero f = f
marked (g ∷ gs) (suc next) (suc k) f = marked gs next k f

same_or_not : (m n : ℕ) → (m ≡ n) ⊎ (m ≡ n → ⊥)
same_or_not m n = by_place (cases_lt m n) (cases_lt n m)
  where
    by_place : (m < n) ⊎ (n ≤ m) → (n < m) ⊎ (m ≤ n) → (m ≡ n) ⊎ (m ≡ n → ⊥)
    by_place (inl l) o = inr (λ e. omega arith)
    by_place (inr l) (inl o) = inr (λ e. omega arith)
    by_place (inr l) (inr o) = inl (omega arith)

-- ---- at first
pub alone : (pieces : List Piece) (c : Chains) → All (IsPieceWithin coordinate_limit) pieces → AreAlone pieces c
    → AreChained pieces c 0
alone pieces c within h =
    let same : wholes_of c ≡ pieces = none_gone c.gone.items c.wholes.items h.kept ∙ h.wholes in
    record {
      lengths = h.lengths;
      chains = λ k l f. record {
        there = subst (λ (n : ℕ). n < length pieces) (sym (h.last k l)) l;
        from = ap (λ (qs : List Piece). (piece_at qs k).from) h.wholes;
        to = ap (λ (qs : List Piece). (piece_at qs k).to) h.wholes
            ∙ ap (λ (n : ℕ). (piece_at pieces n).to) (sym (h.last k l));
        first_name = ap (λ (qs : List Piece). (piece_at qs k).edge) h.wholes;
        last_name = ap (λ (qs : List Piece). (piece_at qs k).edge) h.wholes
            ∙ ap (λ (n : ℕ). (piece_at pieces n).edge) (sym (h.last k l));
      };
      lasts = λ t a l. record {
        there = subst (λ (n : ℕ). n < length pieces) (sym (h.first t l)) l;
        kept = h.kept (place_at c.first.items t);
        back = ap (place_at c.last.items) (h.first t l) ∙ h.last t l;
      };
      joined = subst (AreJoined pieces) (sym same) (record {
        on = λ merged a. a;
        within = within;
        starts = λ p. omega arith;
        ends = λ p. omega arith;
        stuck = λ q w s. s;
      });
      gone = λ j l f. absurd (true≢false (sym f ∙ h.kept j));
      stuck = λ k l. absurd (omega arith);
    }

-- ---- one more piece
module _ (pieces : List Piece) (c : Chains) (i : ℕ) (d : AreChained pieces c i) (inside : i < length pieces) where
  abbrev q : Piece
  q = piece_at pieces i

  -- a piece that goes on nowhere is passed
  pub passed_by : IsStuck (wholes_of c) q → AreChained pieces c (i + 1)
  passed_by stuck = record {
    lengths = d.lengths;
    chains = d.chains;
    lasts = λ t a l. d.lasts t (omega arith) l;
    joined = d.joined;
    gone = d.gone;
    stuck = λ k l. by_place k l (cases_lt k i);
  }
    where
      by_place : (k : ℕ) → k < i + 1 → (k < i) ⊎ (i ≤ k) → IsStuck (wholes_of c) (piece_at pieces k)
      by_place k l (inl b) = d.stuck k b
      by_place k l (inr a) = let same : i ≡ k = omega arith in subst (λ (n : ℕ). IsStuck (wholes_of c) (piece_at pieces n)) same stuck

  pub stuck_before : IsPieceWithin coordinate_limit q → IsStuck pieces q → AreChained pieces c (i + 1)
  stuck_before w h = passed_by (d.joined.stuck q w.to h)

  module _ (first next : ℕ) (begins : first ≡ place_at c.first.items i) (there : next < length pieces)
      (on : GoesOn q (piece_at pieces next)) (once_passed : IsPassedOnce pieces q.to) (within : All (IsPieceWithin coordinate_limit) pieces) where
    abbrev left : List Piece
    left = wholes_of c

    abbrev r : Piece
    r = piece_at pieces next

    own : IsPieceWithin coordinate_limit q
    own = All-get_or (IsPieceWithin coordinate_limit) pieces i no_piece inside within

    other : IsPieceWithin coordinate_limit r
    other = All-get_or (IsPieceWithin coordinate_limit) pieces next no_piece there within

    dq : pos 0 <ℤ (point_of q.to).d
    dq = divisor_above coordinate_limit q.to own.to

    dr : pos 0 <ℤ (point_of r.from).d
    dr = divisor_above coordinate_limit r.from other.from

    -- the one that goes on was joined to another
    pub when_gone : gone_at c.gone.items next ≡ true → AreChained pieces c (i + 1)
    when_gone f = passed_by (not_started left q
        (starts_alike (point_of q.to) (point_of r.from) dq dr on.meet (ways_of left) ∙ d.gone next there f))

    module _ (free : gone_at c.gone.items next ≡ false) where
      ends_chain : IsLast (length pieces) c i
      ends_chain = d.lasts i (omega arith) inside

      first_there : first < length pieces
      first_there = subst (λ (n : ℕ). n < length pieces) (sym begins) ends_chain.there

      first_free : gone_at c.gone.items first ≡ false
      first_free = ap (gone_at c.gone.items) begins ∙ ends_chain.kept

      last_is : place_at c.last.items first ≡ i
      last_is = ap (place_at c.last.items) begins ∙ ends_chain.back

      chain : IsChain pieces c first
      chain = d.chains first first_there first_free

      more : IsChain pieces c next
      more = d.chains next there free

      abbrev f : Piece
      f = piece_at c.wholes.items first

      abbrev s : Piece
      s = piece_at c.wholes.items next

      ends_as : f.to ≡ q.to
      ends_as = chain.to ∙ ap (λ (n : ℕ). (piece_at pieces n).to) last_is

      named_as : f.edge ≡ q.edge
      named_as = chain.last_name ∙ ap (λ (n : ℕ). (piece_at pieces n).edge) last_is

      abbrev rest : List Piece
      rest = kept (set c.gone.items next true) c.wholes.items

      next_out : IsPermutation left (s ∷ rest)
      next_out = one_out c.gone.items c.wholes.items next (omega (arith, d.lengths.gone))
          (omega (arith, d.lengths.wholes)) free

      starts_there : is_same_point (point_of q.to) (point_of s.from) ≡ true
      starts_there = ap (λ (t : Spot). is_same_point (point_of q.to) (point_of t)) more.from ∙ on.meet

      one_starts : starts_at (point_of q.to) (ways_of left) ≡ 1
      one_starts =
          let some = at_least_one (starts_at (point_of q.to) (ways_of left)) (starts_at (point_of q.to) (ways_of rest)) (is_same_point (point_of q.to) (point_of s.from))
          (starts_permuted (point_of q.to) left (s ∷ rest) next_out ∙ starts-cons (point_of q.to) (way_of s) (ways_of rest)) starts_there in
          omega (arith, d.joined.starts (point_of q.to), once_passed.one_starts)

      -- it would go on with itself
      round_by : first ≡ next → AreChained pieces c (i + 1)
      round_by same = passed_by stuck
        where
          ends_here : s.to ≡ q.to
          ends_here = ap (λ (n : ℕ). (piece_at c.wholes.items n).to) (sym same) ∙ ends_as

          not_it : GoesOn q s → ⊥
          not_it g = true≢false (sym (ap (is_same_spot q.to) ends_here ∙ same_itself (point_of q.to)) ∙ g.away)

          one : starts_at (point_of q.to) (ways_of (s ∷ rest)) ≡ 1
          one = sym (starts_permuted (point_of q.to) left (s ∷ rest) next_out) ∙ one_starts

          stuck : IsStuck left q
          stuck h = All-permutation (λ p. GoesOn q p → ⊥) (s ∷ rest) left
              (IsPermutation-sym left (s ∷ rest) next_out)
              (All-cons (λ p. GoesOn q p → ⊥) s rest not_it
              (λ k e l g. two_starts (point_of q.to) s (get_or rest k e) rest one starts_there
              (All-contains_itself rest k e l) g.meet))

      -- ---- the two chains become one
      module _ (apart : first ≡ next → ⊥) (new : Chains) (l : IsLinked c first next new) where
        abbrev others : List Piece
        others = kept (set (set c.gone.items next true) first true) c.wholes.items

        still_free : gone_at (set c.gone.items next true) first ≡ false
        still_free = get_or-set_other c.gone.items next first true false apart ∙ first_free

        first_out : IsPermutation rest (f ∷ others)
        first_out =
            one_out (set c.gone.items next true) c.wholes.items first
            (omega (arith, d.lengths.gone, length-set c.gone.items next true, first_there))
            (omega (arith, d.lengths.wholes, first_there)) still_free

        two : IsPermutation left (f ∷ (s ∷ others))
        two =
            IsPermutation-trans left (s ∷ (f ∷ others)) (f ∷ (s ∷ others))
            (IsPermutation-trans left (s ∷ rest) (s ∷ (f ∷ others)) next_out
            (IsPermutation-cons s rest (f ∷ others) first_out))
            (IsPermutation-middle (s ∷ []) f others)

        one_ends : ends_at (point_of q.to) (ways_of left) ≡ 1
        one_ends =
            let here : is_same_point (point_of q.to) (point_of f.to) ≡ true = ap (λ (t : Spot). is_same_point (point_of q.to) (point_of t)) ends_as ∙ same_itself (point_of q.to) in
            let some = at_least_one (ends_at (point_of q.to) (ways_of left)) (ends_at (point_of q.to) (ways_of (s ∷ others))) (is_same_point (point_of q.to) (point_of f.to))
            (ends_permuted (point_of q.to) left (f ∷ (s ∷ others)) two ∙ ends-cons (point_of q.to) (way_of f) (ways_of (s ∷ others))) here in
            omega (arith, d.joined.ends (point_of q.to), once_passed.one_ends)

        meet : MeetAlone left f s others
        meet = record {
          two = two;
          name = named_as ∙ on.name ∙ sym more.first_name;
          meet = ap₂ is_same_spot ends_as more.from ∙ on.meet;
          one_ends = ap (λ (t : Spot). ends_at (point_of t) (ways_of left)) ends_as ∙ one_ends;
          one_starts = ap (λ (t : Spot). starts_at (point_of t) (ways_of left)) ends_as ∙ one_starts;
        }

        abbrev now : List Piece
        now = wholes_of new

        replaced : IsPermutation now (joined f s ∷ others)
        replaced =
            let gs : List Bool = set c.gone.items next true in
            let qs : List Piece = set c.wholes.items first (joined f s) in
            let out : IsPermutation (kept gs qs) (piece_at qs first ∷ kept (set gs first true) qs) =
            one_out gs qs first (omega (arith, d.lengths.gone, length-set c.gone.items next true, first_there))
            (omega (arith, d.lengths.wholes, first_there, length-set c.wholes.items first (joined f s))) still_free in
            let whole : piece_at qs first ≡ joined f s = get_or-set_same c.wholes.items first (joined f s) no_piece (omega (arith, d.lengths.wholes, first_there)) in
            let marked : gone_at (set gs first true) first ≡ true =
            get_or-set_same gs first true false (omega (arith, d.lengths.gone, length-set c.gone.items next true, first_there)) in
            subst (λ (hs : List Bool). IsPermutation (kept hs new.wholes.items) (joined f s ∷ others)) (sym l.gone)
            (subst (λ (ps : List Piece). IsPermutation (kept gs ps) (joined f s ∷ others)) (sym l.wholes)
            (subst (λ (ps : List Piece). IsPermutation (kept gs qs) (joined f s ∷ ps))
            (kept_set (set gs first true) c.wholes.items first (joined f s) marked)
            (subst (λ (p : Piece). IsPermutation (kept gs qs) (p ∷ kept (set gs first true) qs)) whole out)))

        df : pos 0 <ℤ (point_of f.to).d
        df = subst (λ (t : Spot). pos 0 <ℤ (point_of t).d) (sym ends_as) dq

        ds : pos 0 <ℤ (point_of s.from).d
        ds = subst (λ (t : Spot). pos 0 <ℤ (point_of t).d) (sym more.from) dr

        starts_fewer : (p : Point) → starts_at p (ways_of left) ≡ once (is_same_point p (point_of s.from))
            + starts_at p (ways_of now)
        starts_fewer p = fewer_starts left now f s others meet replaced p

        ends_fewer : (p : Point) → ends_at p (ways_of left) ≡ once (is_same_point p (point_of f.to))
            + ends_at p (ways_of now)
        ends_fewer p = fewer_ends left now f s others meet replaced p

        still_stuck : (t : Piece) → IsSpotWithin coordinate_limit t.to → IsStuck left t → IsStuck now t
        still_stuck t w h = stays_stuck left now f s others meet replaced t (divisor_above coordinate_limit t.to w) df
            ds h

        now_joined : AreJoined pieces now
        now_joined = record {
          on = λ merged a. d.joined.on merged
              (two_join f s others meet (permuted_merged now (joined f s ∷ others) merged replaced a));
          within = kept_within left now f s others meet replaced d.joined.within;
          starts = λ p. still_fewer (starts_at p (ways_of left)) (starts_at p (ways_of now))
              (starts_at p (ways_of pieces)) (is_same_point p (point_of s.from)) (starts_fewer p) (d.joined.starts p);
          ends = λ p. still_fewer (ends_at p (ways_of left)) (ends_at p (ways_of now)) (ends_at p (ways_of pieces))
              (is_same_point p (point_of f.to)) (ends_fewer p) (d.joined.ends p);
          stuck = λ t w h. still_stuck t w (d.joined.stuck t w h);
        }

        -- ---- what stands where
        abbrev last : ℕ
        last = place_at c.last.items next

        whole_elsewhere : (h : ℕ) → (first ≡ h → ⊥)
            → piece_at new.wholes.items h ≡ piece_at c.wholes.items h
        whole_elsewhere h away = ap (λ (ps : List Piece). piece_at ps h) l.wholes
            ∙ get_or-set_other c.wholes.items first h (joined f s) no_piece (λ e. away (sym e))

        whole_here : piece_at new.wholes.items first ≡ joined f s
        whole_here = ap (λ (ps : List Piece). piece_at ps first) l.wholes
            ∙ get_or-set_same c.wholes.items first (joined f s) no_piece
            (omega (arith, d.lengths.wholes, first_there))

        last_elsewhere : (h : ℕ) → (first ≡ h → ⊥) → place_at new.last.items h ≡ place_at c.last.items h
        last_elsewhere h away = ap (λ (ns : List ℕ). place_at ns h) l.last
            ∙ get_or-set_other c.last.items first h last 0 (λ e. away (sym e))

        last_here : place_at new.last.items first ≡ last
        last_here = ap (λ (ns : List ℕ). place_at ns first) l.last
            ∙ get_or-set_same c.last.items first last 0 (omega (arith, d.lengths.last, first_there))

        first_elsewhere : (t : ℕ) → (last ≡ t → ⊥) → place_at new.first.items t ≡ place_at c.first.items t
        first_elsewhere t away = ap (λ (ns : List ℕ). place_at ns t) l.first
            ∙ get_or-set_other c.first.items last t first 0 (λ e. away (sym e))

        first_here : place_at new.first.items last ≡ first
        first_here = ap (λ (ns : List ℕ). place_at ns last) l.first
            ∙ get_or-set_same c.first.items last first 0 (omega (arith, d.lengths.first, more.there))

        gone_now : (h : ℕ) → gone_at new.gone.items h ≡ gone_at (set c.gone.items next true) h
        gone_now h = ap (λ (gs : List Bool). gone_at gs h) l.gone

        now_chain : (h : ℕ) → h < length pieces → gone_at new.gone.items h ≡ false → IsChain pieces new h
        now_chain h m free_now = by_place (same_or_not first h)
          where
            old : IsChain pieces c h
            old = d.chains h m (marked c.gone.items next h (sym (gone_now h) ∙ free_now))

            here : IsChain pieces new first
            here = record {
              there = subst (λ (n : ℕ). n < length pieces) (sym last_here) more.there;
              from = ap (λ (p : Piece). p.from) whole_here ∙ chain.from;
              to = ap (λ (p : Piece). p.to) whole_here ∙ more.to
                  ∙ ap (λ (n : ℕ). (piece_at pieces n).to) (sym last_here);
              first_name = ap (λ (p : Piece). p.edge) whole_here ∙ chain.first_name;
              last_name = ap (λ (p : Piece). p.edge) whole_here ∙ (named_as ∙ on.name ∙ sym more.first_name)
                  ∙ more.last_name ∙ ap (λ (n : ℕ). (piece_at pieces n).edge) (sym last_here);
            }

            by_place : (first ≡ h) ⊎ (first ≡ h → ⊥) → IsChain pieces new h
            by_place (inl e) = subst (IsChain pieces new) e here
            by_place (inr away) = record {
              there = subst (λ (n : ℕ). n < length pieces) (sym (last_elsewhere h away)) old.there;
              from = ap (λ (p : Piece). p.from) (whole_elsewhere h away) ∙ old.from;
              to = ap (λ (p : Piece). p.to) (whole_elsewhere h away) ∙ old.to
                  ∙ ap (λ (n : ℕ). (piece_at pieces n).to) (sym (last_elsewhere h away));
              first_name = ap (λ (p : Piece). p.edge) (whole_elsewhere h away) ∙ old.first_name;
              last_name = ap (λ (p : Piece). p.edge) (whole_elsewhere h away) ∙ old.last_name
                  ∙ ap (λ (n : ℕ). (piece_at pieces n).edge) (sym (last_elsewhere h away));
            }

        now_last : (t : ℕ) → i + 1 ≤ t → t < length pieces → IsLast (length pieces) new t
        now_last t a m = by_place (same_or_not last t)
          where
            old : IsLast (length pieces) c t
            old = d.lasts t (omega arith) m

            h : ℕ
            h = place_at c.first.items t

            by_place : (last ≡ t) ⊎ (last ≡ t → ⊥) → IsLast (length pieces) new t
            by_place (inl e) = subst (IsLast (length pieces) new) e (record {
              there = subst (λ (n : ℕ). n < length pieces) (sym first_here) first_there;
              kept = ap (gone_at new.gone.items) first_here ∙ gone_now first ∙ still_free;
              back = ap (place_at new.last.items) first_here ∙ last_here;
            })
            by_place (inr away) =
                let same : place_at new.first.items t ≡ place_at c.first.items t = first_elsewhere t away in
                let not_next : place_at c.first.items t ≡ next → ⊥ = λ e. away (ap (place_at c.last.items) (sym e) ∙ old.back) in
                let not_first : first ≡ place_at c.first.items t → ⊥ = λ e. let u : i ≡ t = sym last_is ∙ ap (place_at c.last.items) e ∙ old.back in omega arith in
                record {
                  there = subst (λ (n : ℕ). n < length pieces) (sym same) old.there;
                  kept = ap (gone_at new.gone.items) same ∙ gone_now (place_at c.first.items t)
                      ∙ get_or-set_other c.gone.items next (place_at c.first.items t) true false not_next
                      ∙ old.kept;
                  back = ap (place_at new.last.items) same ∙ last_elsewhere (place_at c.first.items t) not_first
                      ∙ old.back;
                }

        now_gone : (j : ℕ) → j < length pieces → gone_at new.gone.items j ≡ true
            → starts_at (point_of (piece_at pieces j).from) (ways_of now) ≡ 0
        now_gone j m f_now = by_place (same_or_not next j)
          where
            here : starts_at (point_of r.from) (ways_of now) ≡ 0
            here =
                none_left (starts_at (point_of r.from) (ways_of left)) (starts_at (point_of r.from) (ways_of now))
                (is_same_point (point_of r.from) (point_of s.from))
                (starts_fewer (point_of r.from))
                (ap (λ (t : Spot). is_same_point (point_of r.from) (point_of t)) more.from
                ∙ same_itself (point_of r.from))
                (sym (starts_alike (point_of q.to) (point_of r.from) dq dr on.meet (ways_of left)) ∙ one_starts)

            elsewhere : (next ≡ j → ⊥) → starts_at (point_of (piece_at pieces j).from) (ways_of now) ≡ 0
            elsewhere away =
                let p : Point = point_of (piece_at pieces j).from in
                let was : gone_at c.gone.items j ≡ true = sym (get_or-set_other c.gone.items next j true false (λ e. away (sym e))) ∙ sym (gone_now j) ∙ f_now in
                let none : starts_at p (ways_of left) ≡ 0 = d.gone j m was in
                let few : starts_at p (ways_of now) ≤ 0 =
                still_fewer (starts_at p (ways_of left)) (starts_at p (ways_of now)) 0 (is_same_point p (point_of s.from)) (starts_fewer p) (omega arith) in
                omega arith

            by_place : (next ≡ j) ⊎ (next ≡ j → ⊥)
                → starts_at (point_of (piece_at pieces j).from) (ways_of now) ≡ 0
            by_place (inl e) = subst (λ (n : ℕ). starts_at (point_of (piece_at pieces n).from) (ways_of now) ≡ 0) e
                here
            by_place (inr away) = elsewhere away

        now_stuck : (k : ℕ) → k < i + 1 → IsStuck now (piece_at pieces k)
        now_stuck k m = by_place (cases_lt k i)
          where
            here : IsStuck now q
            here =
                not_passed now q
                (none_left (ends_at (point_of q.to) (ways_of left)) (ends_at (point_of q.to) (ways_of now))
                (is_same_point (point_of q.to) (point_of f.to))
                (ends_fewer (point_of q.to))
                (ap (λ (t : Spot). is_same_point (point_of q.to) (point_of t)) ends_as
                ∙ same_itself (point_of q.to)) one_ends)

            by_place : (k < i) ⊎ (i ≤ k) → IsStuck now (piece_at pieces k)
            by_place (inl b) =
                let w : IsPieceWithin coordinate_limit (piece_at pieces k) = All-get_or (IsPieceWithin coordinate_limit) pieces k no_piece (omega (arith, inside)) within in
                still_stuck (piece_at pieces k) w.to (d.stuck k b)
            by_place (inr a) = let same : i ≡ k = omega arith in subst (λ (n : ℕ). IsStuck now (piece_at pieces n)) same here

        pub linked : AreChained pieces new (i + 1)
        linked = record {
          lengths = record {
            wholes = ap (λ (ps : List Piece). length ps) l.wholes ∙ length-set c.wholes.items first (joined f s)
                ∙ d.lengths.wholes;
            gone = ap (λ (gs : List Bool). length gs) l.gone ∙ length-set c.gone.items next true ∙ d.lengths.gone;
            first = ap (λ (ns : List ℕ). length ns) l.first ∙ length-set c.first.items last first
                ∙ d.lengths.first;
            last = ap (λ (ns : List ℕ). length ns) l.last ∙ length-set c.last.items first last ∙ d.lengths.last;
          };
          chains = now_chain;
          lasts = now_last;
          joined = now_joined;
          gone = now_gone;
          stuck = now_stuck;
        }

    pub when_round : first ≡ next → AreChained pieces c (i + 1)
    when_round same =
        let of : IsLast (length pieces) c i = d.lasts i (omega arith) inside in
        round_by (ap (gone_at c.gone.items) (sym same ∙ begins) ∙ of.kept) same

-- ---- at last
pub all_merged : (pieces : List Piece) (c : Chains) (i : ℕ) → AreChained pieces c i → length pieces ≤ i
    → AreMerged pieces (wholes_of c)
all_merged pieces c i d all =
    let left : List Piece = wholes_of c in
    let stuck : All (IsStuck left) left =
    all_kept (IsStuck left) c.gone.items c.wholes.items
    (λ h l f.
    let chain : IsChain pieces c h = d.chains h (omega (arith, d.lengths.wholes)) f in
    let t : ℕ = place_at c.last.items h in
    stuck_alike left (piece_at pieces t) (piece_at c.wholes.items h) (sym chain.to) (sym chain.last_name) (d.stuck t (omega (arith, chain.there)))) in
    d.joined.on left (all_joined (none_meet_alone left stuck) (IsPermutation-refl left))

-- ---- the wholes one after another
pub one_more : (gs : List Bool) (qs : List Piece) (k : ℕ) → k < length gs → k < length qs
    → kept (take (k + 1) gs) (take (k + 1) qs) ≡ kept (take k gs) (take k qs)
    ++ cond (gone_at gs k) [] (piece_at qs k ∷ [])
one_more gs qs k l m =
    ap₂ kept (take_more gs k false l) (take_more qs k no_piece m)
    ∙ kept_append (take k gs) (take k qs) (gone_at gs k) (piece_at qs k)
    (length-take-le k gs (omega arith) ∙ sym (length-take-le k qs (omega arith)))
  where
    kept_append : (hs : List Bool) (ps : List Piece) (g : Bool) (q : Piece) → length hs ≡ length ps
        → kept (hs ++ (g ∷ [])) (ps ++ (q ∷ [])) ≡ kept hs ps ++ cond g [] (q ∷ [])
    kept_append [] [] true q h = refl
    kept_append [] [] false q h = refl
    kept_append [] (p ∷ ps) g q h = absurd (omega arith)
    kept_append (x ∷ hs) [] g q h = absurd (omega arith)
    kept_append (true ∷ hs) (p ∷ ps) g q h = kept_append hs ps g q (omega arith)
    kept_append (false ∷ hs) (p ∷ ps) g q h
        = ap (λ (rs : List Piece). p ∷ rs) (kept_append hs ps g q (omega arith))

pub one_pushed : (gs : List Bool) (qs so_far new : List Piece) (k : ℕ) (q : Piece) → k < length gs → k < length qs
    → so_far ≡ kept (take k gs) (take k qs)
    → gone_at gs k ≡ false → q ≡ get_or qs k q → new ≡ so_far ++ (q ∷ [])
    → new ≡ kept (take (k + 1) gs) (take (k + 1) qs)
one_pushed gs qs so_far new k q l m before free here pushed =
    pushed
    ∙ ap₂ (λ (ps : List Piece) (p : Piece). ps ++ (p ∷ [])) before (here ∙ get_or_default qs k q no_piece m)
    ∙ ap (λ (b : Bool). kept (take k gs) (take k qs) ++ cond b [] (piece_at qs k ∷ [])) (sym free)
    ∙ sym (one_more gs qs k l m)

pub none_pushed : (gs : List Bool) (qs so_far new : List Piece) (k : ℕ) → k < length gs → k < length qs
    → so_far ≡ kept (take k gs) (take k qs)
    → gone_at gs k ≡ true → new ≡ so_far → new ≡ kept (take (k + 1) gs) (take (k + 1) qs)
none_pushed gs qs so_far new k l m before gone same =
    same ∙ before
    ∙ sym (append-nil (kept (take k gs) (take k qs)))
    ∙ ap (λ (b : Bool). kept (take k gs) (take k qs) ++ cond b [] (piece_at qs k ∷ [])) (sym gone)
    ∙ sym (one_more gs qs k l m)

pub gone_read : (gs : List Bool) (k : ℕ) (g : Bool) → k < length gs → g ≡ get_or gs k g → gone_at gs k ≡ g
gone_read gs k g l h = sym (h ∙ get_or_default gs k g false l)

-- Merged pieces are one list of pieces, in whatever order: any two that meet alone may be joined first.
use Rattle.std.proofs.Common.{◌≡◌, ◌⊎◌, inl, inr, Bool, true, false, true≢false, List, ◌∷◌, refl, sym, ap, ◌∙◌, subst}
use Rattle.std.specs.Prelude.{Contains}
use Rattle.std.proofs.lemmas.List.Sorted.{IsPermutation-sym, IsPermutation-trans, IsPermutation-cons, Contains-permutation}
use Rattle.scad_geom.specs.Balance.{starts_at, ends_at}
use Rattle.winding_laws.proofs.Sameness.{same_itself}
use Rattle.slice_pieces.specs.declared.piece.Piece.{Piece}
use Rattle.slice_pieces.specs.Spots.{point_of, is_same_spot}
use Rattle.slice_pieces.specs.Pieces.{ways_of}
use Rattle.slice_pieces.specs.Merging.{joined, MeetAlone, AreMerged, all_joined, two_join}
use Rattle.slice_pieces.specs.Laws.{MergedAreOne}
use Rattle.slice_pieces.proofs.Pairs.{permuted_merged}
use Rattle.slice_pieces.proofs.Courses.{KeepCourse, first_or_later, is_first, kept, no_way_back, named_keep_course}
use Rattle.slice_pieces.proofs.TwoPairs.{Perm, rest_of, swap, third, out, two, where_g, one_pair, not_second, ends_f, starts_f, ends_g, starts_g}

-- ---- any pair that meets alone may be joined first
commute : (old merged : List Piece) → AreMerged old merged → KeepCourse old → (f s : Piece) (others : List Piece)
    → MeetAlone old f s others → AreMerged (joined f s ∷ others) merged
commute old merged (all_joined none perm) course f s others m = absurd (none f s others m)
commute old merged (two_join g t more n a) course f s others m =
    by_point (commute (joined g t ∷ more) merged a (kept old g t more n course)) (is_same_spot f.to g.to) refl
  where
    Later : Type 0
    Later = (f s : Piece) (others : List Piece) → MeetAlone (joined g t ∷ more) f s others
        → AreMerged (joined f s ∷ others) merged

    pair : Perm (g ∷ (t ∷ more)) (f ∷ (s ∷ others))
    pair = two old course f s others m g t more n

    -- t is f: a row of g, f, s
    row_before : Later → (apart : is_same_spot f.to g.to ≡ false) (rest : List Piece) → Perm others (g ∷ rest)
        → t ≡ f → AreMerged (joined f s ∷ others) merged
    row_before later apart rest o e =
        let front : Perm (g ∷ (f ∷ more)) (g ∷ (f ∷ (s ∷ rest))) =
        IsPermutation-trans (g ∷ (f ∷ more)) (f ∷ (s ∷ others)) (g ∷ (f ∷ (s ∷ rest)))
        (subst (λ (p : Piece). Perm (g ∷ (p ∷ more)) (f ∷ (s ∷ others))) e pair)
        (IsPermutation-trans (f ∷ (s ∷ others)) (f ∷ (s ∷ (g ∷ rest))) (g ∷ (f ∷ (s ∷ rest)))
        (IsPermutation-cons f (s ∷ others) (s ∷ (g ∷ rest)) (IsPermutation-cons s others (g ∷ rest) o)) (third f s g rest)) in
        let left : Perm more (s ∷ rest) = rest_of f more (s ∷ rest) (rest_of g (f ∷ more) (f ∷ (s ∷ rest)) front) in
        let now : MeetAlone (joined g t ∷ more) (joined g t) s rest = record {
          two = IsPermutation-cons (joined g t) more (s ∷ rest) left;
          name = n.name ∙ ap (λ (p : Piece). p.edge) e ∙ m.name;
          meet = subst (λ (p : Piece). is_same_spot p.to s.from ≡ true) (sym e) m.meet;
          one_ends = subst (λ (p : Piece). ends_at (point_of p.to) (ways_of (joined g t ∷ more)) ≡ 1) (sym e)
              (ends_f old course f s others m g t more n apart);
          one_starts = subst (λ (p : Piece). starts_at (point_of p.to) (ways_of (joined g t ∷ more)) ≡ 1) (sym e)
              (starts_f old course f s others m g t more n apart);
        } in
        two_join g (joined f s) rest
        (record {
          two = IsPermutation-trans (joined f s ∷ others) (joined f s ∷ (g ∷ rest)) (g ∷ (joined f s ∷ rest))
              (IsPermutation-cons (joined f s) others (g ∷ rest) o) (swap (joined f s) g rest);
          name = n.name ∙ ap (λ (p : Piece). p.edge) e;
          meet = subst (λ (p : Piece). is_same_spot g.to p.from ≡ true) e n.meet;
          one_ends = ends_g old course f s others m g t more n apart;
          one_starts = starts_g old course f s others m g t more n apart;
        })
        (later (joined g t) s rest now)

    -- g is s: a row of f, s, t
    row_behind : Later → (apart : is_same_spot f.to g.to ≡ false) (rest : List Piece) → Perm others (t ∷ rest)
        → g ≡ s → AreMerged (joined f s ∷ others) merged
    row_behind later apart rest o e =
        let front : Perm (s ∷ (t ∷ more)) (s ∷ (t ∷ (f ∷ rest))) =
        IsPermutation-trans (s ∷ (t ∷ more)) (f ∷ (s ∷ others)) (s ∷ (t ∷ (f ∷ rest)))
        (subst (λ (p : Piece). Perm (p ∷ (t ∷ more)) (f ∷ (s ∷ others))) e pair)
        (IsPermutation-trans (f ∷ (s ∷ others)) (s ∷ (f ∷ others)) (s ∷ (t ∷ (f ∷ rest)))
        (swap f s others)
        (IsPermutation-cons s (f ∷ others) (t ∷ (f ∷ rest))
        (IsPermutation-trans (f ∷ others) (f ∷ (t ∷ rest)) (t ∷ (f ∷ rest)) (IsPermutation-cons f others (t ∷ rest) o) (swap f t rest)))) in
        let left : Perm more (f ∷ rest) = rest_of t more (f ∷ rest) (rest_of s (t ∷ more) (t ∷ (f ∷ rest)) front) in
        let now : MeetAlone (joined g t ∷ more) f (joined g t) rest = record {
          two = IsPermutation-trans (joined g t ∷ more) (joined g t ∷ (f ∷ rest)) (f ∷ (joined g t ∷ rest))
              (IsPermutation-cons (joined g t) more (f ∷ rest) left) (swap (joined g t) f rest);
          name = m.name ∙ ap (λ (p : Piece). p.edge) (sym e);
          meet = subst (λ (p : Piece). is_same_spot f.to p.from ≡ true) (sym e) m.meet;
          one_ends = ends_f old course f s others m g t more n apart;
          one_starts = starts_f old course f s others m g t more n apart;
        } in
        two_join (joined f s) t rest
        (record {
          two = IsPermutation-cons (joined f s) others (t ∷ rest) o;
          name = m.name ∙ ap (λ (p : Piece). p.edge) (sym e) ∙ n.name;
          meet = subst (λ (p : Piece). is_same_spot p.to t.from ≡ true) e n.meet;
          one_ends = subst (λ (p : Piece). ends_at (point_of p.to) (ways_of (joined f s ∷ others)) ≡ 1) e
              (ends_g old course f s others m g t more n apart);
          one_starts = subst (λ (p : Piece). starts_at (point_of p.to) (ways_of (joined f s ∷ others)) ≡ 1) e
              (starts_g old course f s others m g t more n apart);
        })
        (later f (joined g t) rest now)

    -- four pieces
    two_pairs : Later → (apart : is_same_spot f.to g.to ≡ false) (rest : List Piece)
        → Perm others (g ∷ (t ∷ rest)) → AreMerged (joined f s ∷ others) merged
    two_pairs later apart rest o =
        let front : Perm (g ∷ (t ∷ more)) (g ∷ (t ∷ (f ∷ (s ∷ rest)))) =
        IsPermutation-trans (g ∷ (t ∷ more)) (f ∷ (s ∷ others)) (g ∷ (t ∷ (f ∷ (s ∷ rest)))) pair
        (IsPermutation-trans (f ∷ (s ∷ others)) (f ∷ (s ∷ (g ∷ (t ∷ rest))))
        (g ∷ (t ∷ (f ∷ (s ∷ rest))))
        (IsPermutation-cons f (s ∷ others) (s ∷ (g ∷ (t ∷ rest)))
        (IsPermutation-cons s others (g ∷ (t ∷ rest)) o))
        (IsPermutation-trans (f ∷ (s ∷ (g ∷ (t ∷ rest)))) (g ∷ (f ∷ (s ∷ (t ∷ rest))))
        (g ∷ (t ∷ (f ∷ (s ∷ rest)))) (third f s g (t ∷ rest))
        (IsPermutation-cons g (f ∷ (s ∷ (t ∷ rest))) (t ∷ (f ∷ (s ∷ rest))) (third f s t rest)))) in
        let left : Perm more (f ∷ (s ∷ rest)) = rest_of t more (f ∷ (s ∷ rest)) (rest_of g (t ∷ more) (t ∷ (f ∷ (s ∷ rest))) front) in
        let now : MeetAlone (joined g t ∷ more) f s (joined g t ∷ rest) = record {
          two = IsPermutation-trans (joined g t ∷ more) (joined g t ∷ (f ∷ (s ∷ rest)))
              (f ∷ (s ∷ (joined g t ∷ rest)))
              (IsPermutation-cons (joined g t) more (f ∷ (s ∷ rest)) left)
              (IsPermutation-sym (f ∷ (s ∷ (joined g t ∷ rest))) (joined g t ∷ (f ∷ (s ∷ rest)))
              (third f s (joined g t) rest));
          name = m.name;
          meet = m.meet;
          one_ends = ends_f old course f s others m g t more n apart;
          one_starts = starts_f old course f s others m g t more n apart;
        } in
        two_join g t (joined f s ∷ rest)
        (record {
          two = IsPermutation-trans (joined f s ∷ others) (joined f s ∷ (g ∷ (t ∷ rest)))
              (g ∷ (t ∷ (joined f s ∷ rest)))
              (IsPermutation-cons (joined f s) others (g ∷ (t ∷ rest)) o)
              (IsPermutation-sym (g ∷ (t ∷ (joined f s ∷ rest))) (joined f s ∷ (g ∷ (t ∷ rest)))
              (third g t (joined f s) rest));
          name = n.name;
          meet = n.meet;
          one_ends = ends_g old course f s others m g t more n apart;
          one_starts = starts_g old course f s others m g t more n apart;
        })
        (permuted_merged (joined f s ∷ (joined g t ∷ rest)) (joined g t ∷ (joined f s ∷ rest)) merged
        (swap (joined f s) (joined g t) rest) (later f s (joined g t ∷ rest) now))

    -- g is another than f and s: where is t
    by_t : Later → (apart : is_same_spot f.to g.to ≡ false) (rest : List Piece) → Perm others (g ∷ rest)
        → AreMerged (joined f s ∷ others) merged
    by_t later apart rest o = at (first_or_later f t (s ∷ rest)
        (Contains-permutation (t ∷ more) (f ∷ (s ∷ rest)) t behind (is_first t more)))
      where
        behind : Perm (t ∷ more) (f ∷ (s ∷ rest))
        behind = rest_of g (t ∷ more) (f ∷ (s ∷ rest))
            (IsPermutation-trans (g ∷ (t ∷ more)) (f ∷ (s ∷ others)) (g ∷ (f ∷ (s ∷ rest))) pair
            (IsPermutation-trans (f ∷ (s ∷ others)) (f ∷ (s ∷ (g ∷ rest))) (g ∷ (f ∷ (s ∷ rest)))
            (IsPermutation-cons f (s ∷ others) (s ∷ (g ∷ rest)) (IsPermutation-cons s others (g ∷ rest) o))
            (third f s g rest)))

        not_s : s ≡ t → ⊥
        not_s e = true≢false (sym (subst (λ (p : Piece). is_same_spot f.to p.from ≡ true) e m.meet)
            ∙ not_second old course f s others m g t more n apart)

        within : (s ≡ t) ⊎ Contains rest t → AreMerged (joined f s ∷ others) merged
        within (inl e) = absurd (not_s e)
        within (inr c) =
            let r = out t rest c in
            two_pairs later apart r.0 (IsPermutation-trans others (g ∷ rest) (g ∷ (t ∷ r.0)) o
            (IsPermutation-cons g rest (t ∷ r.0) r.1))

        at : (f ≡ t) ⊎ Contains (s ∷ rest) t → AreMerged (joined f s ∷ others) merged
        at (inl e) = row_before later apart rest o (sym e)
        at (inr c) = within (first_or_later s t rest c)

    -- g is s: t is another
    by_s : Later → (apart : is_same_spot f.to g.to ≡ false) → g ≡ s → AreMerged (joined f s ∷ others) merged
    by_s later apart e = at (first_or_later f t others
        (Contains-permutation (t ∷ more) (f ∷ others) t behind (is_first t more)))
      where
        behind : Perm (t ∷ more) (f ∷ others)
        behind = rest_of s (t ∷ more) (f ∷ others)
            (IsPermutation-trans (s ∷ (t ∷ more)) (f ∷ (s ∷ others)) (s ∷ (f ∷ others))
            (subst (λ (p : Piece). Perm (p ∷ (t ∷ more)) (f ∷ (s ∷ others))) e pair) (swap f s others))

        at : (f ≡ t) ⊎ Contains others t → AreMerged (joined f s ∷ others) merged
        at (inl x) =
            absurd (no_way_back old f s others m course
            (subst (λ (p : Piece). is_same_spot s.to p.from ≡ true) (sym x)
            (subst (λ (p : Piece). is_same_spot p.to t.from ≡ true) e n.meet)))
        at (inr c) = let r = out t others c in row_behind later apart r.0 r.1 e

    by_g : Later → (apart : is_same_spot f.to g.to ≡ false) → (g ≡ f) ⊎ ((g ≡ s) ⊎ Contains others g)
        → AreMerged (joined f s ∷ others) merged
    by_g later apart (inl e) = absurd (true≢false
        (sym (subst (λ (p : Piece). is_same_spot f.to p.to ≡ true) (sym e) (same_itself (point_of f.to))) ∙ apart))
    by_g later apart (inr (inl e)) = by_s later apart e
    by_g later apart (inr (inr c)) = let r = out g others c in by_t later apart r.0 r.1

    by_point : Later → (b : Bool) → is_same_spot f.to g.to ≡ b → AreMerged (joined f s ∷ others) merged
    by_point later true e = permuted_merged (joined g t ∷ more) (joined f s ∷ others) merged
        (one_pair old course f s others m g t more n e) a
    by_point later false e = by_g later e (where_g old course f s others m g t more n)

one_merging : (pieces merged : List Piece) → AreMerged pieces merged → KeepCourse pieces → (other : List Piece)
    → AreMerged pieces other → Perm merged other
one_merging pieces merged (all_joined none p) course other (all_joined bare q)
    = IsPermutation-trans merged pieces other (IsPermutation-sym pieces merged p) q
one_merging pieces merged (all_joined none p) course other (two_join f s others m a) = absurd (none f s others m)
one_merging pieces merged (two_join f s others m a) course other b =
    one_merging (joined f s ∷ others) merged a (kept pieces f s others m course) other
    (commute pieces other b course f s others m)

pub merged_are_one : MergedAreOne
merged_are_one limit count edge pieces others merged more within named p a b =
    one_merging pieces merged a (named_keep_course limit count edge pieces within named) more
    (permuted_merged others pieces more (IsPermutation-sym pieces others p) b)

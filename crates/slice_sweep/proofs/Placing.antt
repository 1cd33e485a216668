-- The places of a height, one after another.
use Rattle.std.proofs.Common.{◌≡◌, ℕ, ◌+◌, ◌<◌, ◌≤◌, List, [], ◌∷◌, ◌++◌, map, length, take, drop, refl, sym, ap, ◌∙◌, subst, append_assoc, arith}
use Rattle.std.specs.List.{AllByRecursion}
use Rattle.std.proofs.lemmas.List.{append-nil, drop_more, take_more, drop_all, take_all, take_at, drop_at, length-take-le, length-map, map-append}
use Rattle.std.proofs.lemmas.List.Elements.{All-from_recursion}
use Rattle.scad_base.proofs.Lists.{AllByRecursion-append}
use Rattle.scad_geom.specs.declared.level.Level.{Level}
use Rattle.scad_geom.specs.declared.level.LeafEdge.{LeafEdge}
use Rattle.slice_sweep.specs.declared.change.Change.{Change}
use Rattle.slice_sweep.specs.declared.strand.Strand.{Strand}
use Rattle.slice_sweep.specs.Chains.{Joins}
use Rattle.slice_sweep.specs.Changes.{all_above, Tell, AreChanges}
use Rattle.slice_sweep.specs.Changes.Tell.{none}
use Rattle.slice_sweep.specs.Strands.{bundles_of, LiesLeft, IsHeld, no_strand, strand_at}
use Rattle.slice_sweep.specs.Mending.{AreMendedTo}
use Rattle.slice_sweep.specs.Places.{Place, all_waiting, all_leaving, edge_of, came_from_below, group_of, groups_of, IsPlace, LiesBefore, place_of, StartsKeyless, ArePlacedTo}
use Rattle.slice_sweep.proofs.Lists.{chain_append, joins_more, joins_less}
use Rattle.slice_sweep.proofs.Mending.{head_rises}
use Rattle.slice_sweep.proofs.Telling.{tell_append, all_left, all_came, are_groups, some_alone}

pub bundles_append : (xs ys : List Strand) → bundles_of (xs ++ ys) ≡ bundles_of xs ++ bundles_of ys
bundles_append [] ys = refl
bundles_append (x ∷ xs) ys = ap (λ (bs : List (List ℕ)). x.bundle ∷ bs) (bundles_append xs ys)

waiting_push : (ps : List Place) (p : Place) → all_waiting (ps ++ (p ∷ [])) ≡ all_waiting ps ++ p.waiting
waiting_push [] p = append-nil p.waiting
waiting_push (q ∷ ps) p = ap (λ (bs : List (List ℕ)). q.waiting ++ bs) (waiting_push ps p)
    ∙ sym (append_assoc q.waiting (all_waiting ps) p.waiting)

leaving_push : (ps : List Place) (p : Place) → all_leaving (ps ++ (p ∷ [])) ≡ all_leaving ps ++ p.leaving
leaving_push [] p = append-nil p.leaving
leaving_push (q ∷ ps) p = ap (λ (bs : List (List ℕ)). q.leaving ++ bs) (leaving_push ps p)
    ∙ sym (append_assoc q.leaving (all_leaving ps) p.leaving)

-- one more place
module _ (es : List LeafEdge) (l : Level) where
  -- the next place stands where the first of those that wait does
  joins_next : (ps : List Place) (p : Place) (s : Strand) (ss : List Strand)
      → edge_of es p.waiting ≡ edge_of es (s.bundle ∷ []) → Joins (LiesBefore es l) ps (map place_of (s ∷ ss))
      → Joins (LiesBefore es l) ps (p ∷ [])
  joins_next [] p s ss e j = tt
  joins_next (q ∷ []) p s ss e j = rw e j
  joins_next (q ∷ (r ∷ ps)) p s ss e j = joins_next (r ∷ ps) p s ss e j

  pub placed_more : (n m : ℕ) (old L new : List Strand) (p : Place) (s : Strand) (ss : List Strand)
      → IsPlace es l p → drop n L ≡ s ∷ ss
      → edge_of es p.waiting ≡ edge_of es (s.bundle ∷ [])
      → bundles_of (drop n L) ≡ p.waiting ++ bundles_of (drop m new)
      → bundles_of (take m new) ≡ bundles_of (take n L) ++ p.leaving
      → Joins (LiesBefore es l) (p ∷ []) (map place_of (drop m new)) → n ≤ length L → (cs ds : List Change)
      → ArePlacedTo es l n old L cs → Tell n ds (group_of es l p ∷ []) → AllByRecursion (StartsKeyless es l) new
      → ArePlacedTo es l m old new (cs ++ ds)
  placed_more n m old L new p s ss is first same waits leaves before long cs ds a tells keyless = record {
    places = a.places ++ (p ∷ []);
    are = record {
      waiting_is = refl;
      leaving_is = leaves ∙ ap (λ (bs : List (List ℕ)). bs ++ p.leaving) a.are.leaving_is ∙ sym (leaving_push a.places p);
      each = AllByRecursion-append (IsPlace es l) a.places (p ∷ []) a.are.each (is, tt);
      from_left = chain_append (LiesBefore es l) a.places (p ∷ []) a.are.from_left tt
          (joins_next a.places p s ss same
          (subst (λ (xs : List Strand). Joins (LiesBefore es l) a.places (map place_of xs)) first a.beside));
    };
    old_is = a.old_is ∙ ap (λ (bs : List (List ℕ)). all_waiting a.places ++ bs) waits
        ∙ sym (append_assoc (all_waiting a.places) p.waiting (bundles_of (drop m new)))
        ∙ ap (λ (bs : List (List ℕ)). bs ++ bundles_of (drop m new)) (sym (waiting_push a.places p));
    beside = joins_more (LiesBefore es l) a.places p [] (map place_of (drop m new)) before;
    told = subst (Tell 0 (cs ++ ds)) (sym (map-append (group_of es l) a.places (p ∷ [])))
        (tell_append a.told n ds (group_of es l p ∷ []) (so_many a.places a.are.leaving_is) tells);
    keyless = keyless;
  }
    where
      so_many : (ps : List Place) → bundles_of (take n L) ≡ all_leaving ps
          → 0 + length (all_above (groups_of es l ps)) ≡ n
      so_many ps e = omega (
        arith,
        ap length e,
        ap length (all_left es l ps),
        length-map (take n L) (λ (t : Strand). t.bundle),
        length-take-le n L long,
      )

  alone_before : (s : Strand) (ss : List Strand) → Joins (LiesLeft es l) (s ∷ []) ss
      → Joins (LiesBefore es l) (place_of s ∷ []) (map place_of ss)
  alone_before s [] j = tt
  alone_before s (t ∷ ss) j = j

  -- a strand that stays as it is
  pub placed_stays : (u : Level) (n : ℕ) (old L : List Strand) → AreMendedTo es l u n L → n < length L
      → AreMendedTo es l u (n + 1) L → (cs ds : List Change) → ArePlacedTo es l n old L cs
      → Tell n ds (group_of es l (place_of (strand_at L n)) ∷ []) → ArePlacedTo es l (n + 1) old L (cs ++ ds)
  placed_stays u n old L m o next cs ds a tells =
      let s : Strand = strand_at L n in
      let held : IsHeld es l s = All-from_recursion (IsHeld es l) L m.held n no_strand o in
      let rest : drop n L ≡ s ∷ drop (n + 1) L = drop_more L n no_strand o in
      let rises = head_rises es l l l s.bundle held.bundle held.reach in
      placed_more n (n + 1) old L L (place_of s) s (drop (n + 1) L)
      (record {
        rises = rises;
        waiting = ((rises, refl), tt);
        leaving = ((rises, refl), tt);
        some = some_alone es l s.bundle;
      })
      rest refl (ap bundles_of rest)
      (ap bundles_of (take_more L n no_strand o) ∙ bundles_append (take n L) (s ∷ []))
      (alone_before s (drop (n + 1) L) (joins_less (LiesLeft es l) (take n L) s [] (drop (n + 1) L)
      (subst (λ (xs : List Strand). Joins (LiesLeft es l) xs (drop (n + 1) L)) (take_more L n no_strand o)
      (parts next.done next.rest next.is next.size next.beside))))
      (omega (arith, o)) cs ds a tells a.keyless
    where
      parts : (done rest : List Strand) → L ≡ done ++ rest → length done ≡ n + 1 → Joins (LiesLeft es l) done rest
          → Joins (LiesLeft es l) (take (n + 1) L) (drop (n + 1) L)
      parts done rest e z j = subst (λ (xs : List Strand). Joins (LiesLeft es l) xs (drop (n + 1) L))
          (sym (ap (take (n + 1)) e ∙ take_at done rest (n + 1) z))
          (subst (λ (xs : List Strand). Joins (LiesLeft es l) done xs)
          (sym (ap (drop (n + 1)) e ∙ drop_at done rest (n + 1) z)) j)

  pub none_placed : (L : List Strand) → AllByRecursion (StartsKeyless es l) L → ArePlacedTo es l 0 L L []
  none_placed L h = record {
    places = [];
    are = record { waiting_is = refl; leaving_is = refl; each = tt; from_left = tt };
    old_is = refl;
    beside = tt;
    told = none 0;
    keyless = h;
  }

  -- all leave their places in the end, and the changes tell of their groups
  pub all_placed : (n : ℕ) (old L : List Strand) (cs : List Change) → ArePlacedTo es l n old L cs → length L ≤ n
      → AreChanges es l (came_from_below es l (bundles_of old)) (bundles_of L) cs
  all_placed n old L cs a o =
      let rest : drop n L ≡ [] = drop_all n L o in
      let all : take n L ≡ L = take_all n L o in
      let whole : bundles_of old ≡ all_waiting a.places = a.old_is
      ∙ ap (λ (xs : List Strand). all_waiting a.places ++ bundles_of xs) rest ∙ append-nil (all_waiting a.places) in
      record {
        groups = groups_of es l a.places;
        are_groups = are_groups es l a.places a.are.each a.are.from_left;
        below_is = all_came es l a.places ∙ ap (came_from_below es l) (sym whole);
        above_is = all_left es l a.places ∙ sym a.are.leaving_is ∙ ap bundles_of all;
        told = a.told;
      }

-- What a level asks of a sweep that has come to it.
use Rattle.std.proofs.Common.{◌≡◌, ℕ, ◌^◌, ◌<◌, ◌≤◌, inl, inr, false, List, [], ◌∷◌, length, sym, ap, subst, arith, length-append}
use Rattle.std.specs.List.{concat}
use Rattle.scad_geom.specs.declared.level.Level.{Level}
use Rattle.scad_geom.specs.declared.level.LeafEdge.{LeafEdge}
use Rattle.scad_geom.specs.declared.shape.Shape.{Shape}
use Rattle.slice_sweep.specs.declared.change.Change.{Change}
use Rattle.slice_sweep.specs.Changes.{all_below, all_above, AreChanges}
use Rattle.slice_sweep.specs.Front.{bundles_in}
use Rattle.slice_border.specs.Beside.{AreMembers}
use Rattle.slice_border.proofs.BundleValues.{are_members}
use Rattle.sweep_laws.specs.Fronts.{Strand, bundles_of}
use Rattle.slice_outlines.specs.declared.mark.Mark.{Mark}
use Rattle.slice_outlines.specs.declared.sweep.Sweep.{Sweep}
use Rattle.slice_outlines.specs.Marks.{AreKept}
use Rattle.slice_outlines.specs.Cursor.{IsApartAt, CanShift}
use Rattle.slice_outlines.specs.Sweep.{HasSwept, IsFrontBelow}
use Rattle.slice_outlines.proofs.Placing.{AreNamed}
use Rattle.slice_outlines.proofs.Fitting.{fits_apart}

-- ---- marks that are kept
pub kept_named : (ms : List Mark) (ss : List Strand) → AreKept false ms ss → AreNamed ms (bundles_of ss)
kept_named [] [] k = tt
kept_named [] (s ∷ ss) k = absurd k
kept_named (m ∷ ms) [] k = absurd k
kept_named (m ∷ ms) (s ∷ ss) k = (k.0.name, kept_named ms ss k.1)

-- named bundles are no more than their edges
named_few : (ms : List Mark) (bs : List (List ℕ)) → AreNamed ms bs → length bs ≤ length (concat bs)
named_few [] [] z = omega arith
named_few [] (b ∷ bs) z = absurd z
named_few (m ∷ ms) [] z = absurd z
named_few (m ∷ ms) ([] ∷ bs) z = absurd z.0
named_few (m ∷ ms) ((k ∷ ks) ∷ bs) z =
    let rest = named_few ms bs z.1 in
    omega (arith, rest, length-append ks (concat bs))

-- ---- a sweep at a level
module _ (es : List LeafEdge) (shape : Shape) (levels : List Level) (m : Level) (later : List Level) (s : Sweep)
    (swept : HasSwept es shape levels (m ∷ later) s) where
  pub swept_members : AreMembers es (bundles_in s.front)
  swept_members = subst (AreMembers es) swept.bundles (by_front swept.front swept.below)
    where
      by_front : (front : List Strand) → IsFrontBelow es shape levels (m ∷ later) front
          → AreMembers es (bundles_of front)
      by_front front (inl e) =
          subst (λ (ss : List Strand). AreMembers es (bundles_of ss)) (sym e.0)
          (record { there = tt; few = omega arith })
      by_front front (inr f) = are_members es f.0 m (bundles_of front) f.2.bundles

  pub swept_named : AreNamed s.kept.marks.items (bundles_in s.front)
  swept_named = subst (AreNamed s.kept.marks.items) swept.bundles (kept_named s.kept.marks.items swept.front swept.kept)

  pub swept_few : length es < 2 ^ 32 → length (bundles_in s.front) < 2 ^ 32
  swept_few o =
      let few = swept_members.few in
      let named = named_few s.kept.marks.items (bundles_in s.front) swept_named in
      omega (arith, o, few, named)

-- ---- what changes tell
pub can_shift : (es : List LeafEdge) (l : Level) (ms : List Mark) (below above : List (List ℕ)) (cs : List Change)
    (n : ℕ) → AreChanges es l below above cs → AreNamed ms below → IsApartAt es l ms n → n ≤ length below
    → length below < 2 ^ 32 → length above < 2 ^ 32 → CanShift cs n
can_shift es l ms below above cs n c z a o few few' =
    let low : length (all_below c.groups) ≡ length below = ap length c.below_is in
    let up : length (all_above c.groups) ≡ length above = ap length c.above_is in
    record {
      groups = c.groups;
      told = c.told;
      fits = fits_apart es l c.groups ms n (subst (AreNamed ms) (sym c.below_is) z) c.are_groups.together
          (omega (arith, low, o)) a;
      few_below = omega (arith, low, few);
      few_above = omega (arith, up, few');
    }

-- The outline in its turn is pushed, or is refused.
use Rattle.std.proofs.Common.{◌≡◌, ℕ, ◌<◌, ◌≤◌, Bool, true, false, List, [], Ok, Err, ℤ, pos, unsigned_abs}
use Rattle.std.proofs.Common.{to_z, of_z, arith, refl, ap, ap₂, ◌∙◌, ◌++◌, ◌∷◌}
use Rattle.std.proofs.lemmas.Result.{err_from_is_err_and}
use Rattle.std.specs.Prelude.{if◌then◌else◌}
use Rattle.std.specs.List.{list_all}
use Rattle.scad_geom.specs.declared.point3.Pt3.{Pt3}
use Rattle.scad_geom.specs.PointRange.{is_in_range}
use Rattle.scad_geom.proofs.Casts.{handed}
use Rattle.scad_num.specs.Number.{one}
use Rattle.scad_cos.specs.Circle.{vertex_angle_of}
use Rattle.scad_cos.specs.Cosine.{cosine, sine}
use Rattle.scad_matrix.specs.declared.matrix.Matrix.{Matrix}
use Rattle.scad_shapes.specs.declared.fault.ShapeFault.{ShapeFault}
use Rattle.scad_shapes.specs.declared.fault.ShapeFault.TheVariants.{CoordinateRange, NotClosed, Memory}
use Rattle.scad_shapes.specs.Limits.{triangle_limit}
use Rattle.scad_base.specs.Memory.{UnlessMemory}
use Rattle.scad_shapes.specs.Faults.{is_memory}
use Rattle.scad_shapes.specs.Pushes.{Pushes, ring_in_range}
use Rattle.scad_shapes.specs.Rings.{ring_if_in_range}
use Rattle.scad_extrude.specs.Revolution.{turn_angle, turned_ring, turned_ring_at}
use Rattle.scad_extrude.proofs.turns.push_turn.Goals as goal
use Rattle.scad_extrude.proofs.turns.push_turn.Goals.{in-Ok, in-Err}
use mir.Syntax.{w64}

-- ---- the ring that was made is that of the turn
module _ (ring : List (ℤ × ℤ)) (m : Matrix) (j n : ℕ) (below : j < n) (few : n ≤ triangle_limit) {i k a : ℤ} (is_i : i
    ≡ pos j) (is_k : k ≡ pos n) (is_a : a
    ≡ pos (vertex_angle_of (unsigned_abs (to_z w64 (of_z w64 i))) (unsigned_abs (to_z w64 (of_z w64 k)))))
    (small : unsigned_abs a ≤ 360000) where
  same_angle : to_z w64 (of_z w64 a) ≡ turn_angle j n
  same_angle =
      handed w64 a (omega arith) (is_a
      ∙ ap₂ (λ (s t : ℤ). pos (vertex_angle_of (unsigned_abs s) (unsigned_abs t)))
      (handed w64 i (rw is_i (omega arith)) is_i) (handed w64 k (rw is_k (omega arith)) is_k))

  same_part : (f : ℤ → ℤ) {v r : ℤ} → v ≡ f (to_z w64 (of_z w64 a)) → unsigned_abs v ≤ one → r ≡ to_z w64 (of_z w64 v)
      → r ≡ f (turn_angle j n)
  same_part f {v} value within is = is ∙ handed w64 v (omega arith) (value ∙ ap f same_angle)

  same_ring : {v w x y : ℤ} → v ≡ cosine (to_z w64 (of_z w64 a)) → unsigned_abs v ≤ one → x ≡ to_z w64 (of_z w64 v)
      → w ≡ sine (to_z w64 (of_z w64 a)) → unsigned_abs w ≤ one → y ≡ to_z w64 (of_z w64 w)
      → turned_ring m x y ring ≡ turned_ring_at ring n m j
  same_ring cos_is cos_small x_is sin_is sin_small y_is =
      ap₂ (λ (s t : ℤ). turned_ring m s t ring) (same_part cosine cos_is cos_small x_is)
      (same_part sine sin_is sin_small y_is)

-- ---- a ring that is made is in range, and one that isn't made is out of range where memory isn't wanting
made_by : (b : Bool) (made ring : List Pt3) → Ok made ≡ (if b then Ok ring else Err CoordinateRange)
    → (made ≡ ring) × (b ≡ true)
made_by true made ring e = (cc, refl)
made_by false made ring e = absurd (cc)

refused_by : (b : Bool) (ring : List Pt3) → Err CoordinateRange ≡ (if b then Ok ring else Err CoordinateRange)
    → b ≡ false
refused_by true ring e = absurd (cc)
refused_by false ring e = refl

never_by : (b : Bool) (ring : List Pt3) → Err NotClosed ≡ (if b then Ok ring else Err CoordinateRange) → ⊥
never_by true ring e = absurd (cc)
never_by false ring e = absurd (cc)

pushed : {same : List Pt3} (old new : List (List Pt3)) (made ring : List Pt3) → same ≡ ring
    → Ok made ≡ ring_if_in_range same → new ≡ old ++ made ∷ []
    → Pushes {A = Unit {0}} ring_in_range old ring new (Ok tt)
pushed old new made ring same is more =
    let parts = made_by (list_all is_in_range ring) made ring (is ∙ ap ring_if_in_range same) in
    (more ∙ ap (λ (x : List Pt3). old ++ x ∷ []) parts.0, parts.1)

refused : {same : List Pt3} (old : List (List Pt3)) (ring : List Pt3) (e : ShapeFault) → same ≡ ring
    → UnlessMemory {A = List Pt3} is_memory (Err e) (Err e ≡ ring_if_in_range same)
    → Pushes {A = Unit {0}} ring_in_range old ring old (Err e)
refused old ring CoordinateRange same is =
    refused_by (list_all is_in_range ring) ring (is ∙ ap ring_if_in_range same)
refused old ring NotClosed same is = never_by (list_all is_in_range ring) ring (is ∙ ap ring_if_in_range same)
refused old ring Memory same is = tt

pub returns-in_err-turn : goal.returns-in_err-turn
returns-in_err-turn c =
    let a = c.args in
    let same = same_ring a.ring.now a.m.now a.j a.n c.requires.below c.requires.few c.from.ensures c.from-2.ensures
    c.vertex_angle-angle.ensures.value c.vertex_angle-angle.ensures.within c.cos.ensures.value c.cos.ensures.small
    c.number.ensures c.sin.ensures.value c.sin.ensures.small c.number-2.ensures in
    let p = err_from_is_err_and c.from_residual.result c.from_residual.ensures.1 in
    rw (p.1, p.2) (refused a.out.now.items (turned_ring_at a.ring.now a.n a.m.now a.j) c.in_err-turn.field-0.0 same
    c.in_err-turn.ensures)

pub returns : goal.returns
returns c =
    let a = c.args in
    let same = same_ring a.ring.now a.m.now a.j a.n c.requires.below c.requires.few c.from.ensures c.from-2.ensures
    c.vertex_angle-angle.ensures.value c.vertex_angle-angle.ensures.within c.cos.ensures.value c.cos.ensures.small
    c.number.ensures c.sin.ensures.value c.sin.ensures.small c.number-2.ensures in
    elim c.match-push.branch [
      | in-Ok w ↦
          rw w.result-is (pushed a.out.now.items c.push.new.self.items c.in_ok-turn.turn
          (turned_ring_at a.ring.now a.n a.m.now a.j) same c.in_ok-turn.ensures w.in-Ok.ensures.items)
      | in-Err w ↦ rw w.result-is tt
    ]

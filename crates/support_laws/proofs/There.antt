-- Layers have stretches below higher ones, and a layer has support runs.
use Rattle.std.proofs.Common.{◌≡◌, ℕ, zero, suc, ◌+◌, ◌<◌, true, List, [], ◌∷◌, length, refl, subst, arith}
use Rattle.std.specs.Prelude.{drop, slice_index_or}
use Rattle.scad_geom.specs.declared.point.Pt.{Pt}
use Rattle.plan_support.specs.Rows.{Row, AreRowsOf}
use Rattle.plan_support.specs.Supports.{paths_of}
use Rattle.support_laws.specs.Supports.{IsOverhung, NeedsSupport, AreOverhung}
use Rattle.support_laws.specs.Laws.{HasOverhung, OverhungAreThere, SupportsAreThere}
use Rattle.support_laws.proofs.Extents.{extents}
use Rattle.support_laws.proofs.OnLines.{overhung_lines, needed_lines}
use Rattle.support_laws.proofs.SomeRows.{HasRows, some_rows}

module _ (spacing : ℕ) (spaced : 0 < spacing) where
  abbrev IsCover : List (List (List Pt)) → List Row → Type 0
  IsCover above rows = AreRowsOf (IsOverhung above spacing) 0 rows

  -- the lowest layer first: its cover, and those of the layers above it
  one_below : (o : List (List Pt)) (os : List (List (List Pt))) (rows : List Row) → IsCover os rows
      → (covers : List (List Row)) → AreOverhung os spacing covers → AreOverhung (o ∷ os) spacing (rows ∷ covers)
  one_below o os rows first covers others = record {
    as_many = let m = others.as_many in omega (arith, m);
    each = each;
  }
    where
      each : (n : ℕ) → n < length (o ∷ os)
          → IsCover (drop (n + 1) (o ∷ os)) (slice_index_or (rows ∷ covers) n [])
      each zero l = first
      each (suc n) l =
          let e : suc (n + 1) ≡ suc n + 1 = omega arith in
          subst (λ (m : ℕ). IsCover (drop m (o ∷ os)) (slice_index_or covers n [])) e
          (others.each n (omega (arith, l)))

  overhung : (all : List (List (List Pt))) → HasOverhung all spacing
  overhung [] = record {
    covers = [];
    are_overhung = record { as_many = refl; each = λ n l. absurd (omega (arith, l)) };
  }
  overhung (o ∷ os) =
      let r : HasRows (IsOverhung os spacing) 0 =
      some_rows (IsOverhung os spacing) spacing (extents os) 0 (overhung_lines os spacing) spaced in
      let c : HasOverhung os spacing = overhung os in
      record {
        covers = r.rows ∷ c.covers;
        are_overhung = one_below o os r.rows r.are_rows c.covers c.are_overhung;
      }

pub overhung_are_there : OverhungAreThere
overhung_are_there all spacing spaced = overhung spacing spaced all

pub supports_are_there : SupportsAreThere
supports_are_there above outlines spacing gap least spaced =
    let r : HasRows (NeedsSupport above outlines spacing gap) least =
    some_rows (NeedsSupport above outlines spacing gap) spacing (extents above) least
    (needed_lines above outlines spacing gap) spaced in
    record {
      paths = paths_of true r.rows;
      are_supports = record { rows = r.rows; are_rows = r.are_rows; paths_are = refl };
    }

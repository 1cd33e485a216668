-- What holds on support lines alone, is decided there, and doesn't hold far out.
use Rattle.std.proofs.Common.{◌≡◌, ℕ, true, List, ℤ}
use Rattle.std.specs.Prelude.{flat_map}
use Rattle.scad_geom.specs.declared.point.Pt.{Pt}
use Rattle.scad_geom.specs.Loop.{sides}
use Rattle.scad_geom.specs.Within.{IsWithin}
use Rattle.plan_infill.proofs.Beyond.{extent, extent_within}
use Rattle.plan_infill.specs.Multiple.{IsMultiple}
use Rattle.plan_support.specs.On.{is_on}
use Rattle.plan_support.specs.Rows.{Row, runs_at, AreRowsOf}
use Rattle.plan_support.specs.Spans.{point_at, IsSpanned}
use Rattle.support_laws.specs.Supports.{IsOverhung, NeedsSupport}
use Rattle.support_laws.proofs.Complete.{if_on, on_if}
use Rattle.plan_infill.proofs.Deciding.{IsDecided}
use Rattle.support_laws.proofs.LineDecision.{spanned_or_not, overhung_or_not, needed_or_not}
use Rattle.support_laws.proofs.Extents.{extents, extents_within, wound_within, below_within}

pub record IsOnLines (Holds : ℤ → ℤ → Type 0) (spacing n : ℕ) : Type 0 where
  pub line : (x y : ℤ) → Holds x y → IsMultiple spacing y
  pub decided : (y : ℤ) → IsMultiple spacing y → (x : ℤ) → IsDecided (Holds x y)
  pub within : (x y : ℤ) → Holds x y → IsWithin n (point_at x y)

-- rows with all its stretches cover exactly the points where it holds
pub rows_hold : (Holds : ℤ → ℤ → Type 0) (least : ℕ) (rows : List Row) → AreRowsOf Holds least rows → (x y : ℤ)
    → is_on (runs_at y rows) x ≡ true → Holds x y
rows_hold Holds least rows are x y o = if_on (λ z. Holds z y) least (runs_at y rows) (are.each y) x o

pub held_on : (Holds : ℤ → ℤ → Type 0) (spacing n : ℕ) → IsOnLines Holds spacing n → (rows : List Row)
    → AreRowsOf Holds 0 rows → (x y : ℤ) → Holds x y → is_on (runs_at y rows) x ≡ true
held_on Holds spacing n on rows are x y h =
    on_if (λ z. Holds z y) (on.decided y (on.line x y h)) n (λ z k. (on.within z y k).x) (runs_at y rows) (are.each y)
    x h

-- ---- of what is asked here
pub spanned_lines : (outlines : List (List Pt)) (spacing : ℕ)
    → IsOnLines (IsSpanned outlines spacing) spacing (extent (flat_map sides outlines))
spanned_lines outlines spacing = record {
  line = λ x y h. h.line;
  decided = λ y m x. spanned_or_not outlines spacing y m x;
  within = λ x y h. wound_within (extent (flat_map sides outlines)) outlines (extent_within (flat_map sides outlines))
      x y h.wound;
}

pub overhung_lines : (above : List (List (List Pt))) (spacing : ℕ)
    → IsOnLines (IsOverhung above spacing) spacing (extents above)
overhung_lines above spacing = record {
  line = λ x y h. h.line;
  decided = λ y m x. overhung_or_not above spacing y m x;
  within = λ x y h. below_within (extents above) above (extents_within above) x y h.below;
}

pub needed_lines : (above : List (List (List Pt))) (outlines : List (List Pt)) (spacing gap : ℕ)
    → IsOnLines (NeedsSupport above outlines spacing gap) spacing (extents above)
needed_lines above outlines spacing gap = record {
  line = λ x y h. h.overhung.line;
  decided = λ y m x. needed_or_not above outlines spacing gap y m x;
  within = λ x y h. below_within (extents above) above (extents_within above) x y h.overhung.below;
}

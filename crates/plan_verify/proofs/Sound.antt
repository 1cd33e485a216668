-- What the index of a layer decides of a move.
use Rattle.std.proofs.Common.{◌≡◌, ℕ, ◌-◌, ◌/◌, ◌^◌, ◌<◌, ◌≤◌, List, length, ap, sym, subst, ◌∙◌, arith, ℤ, pos}
use Rattle.std.specs.Prelude.{All, flat_map}
use Rattle.std.specs.List.{Any}
use Rattle.scad_geom.specs.declared.point.Edge.{Edge}
use Rattle.scad_geom.specs.declared.half.Half.TheVariants.{Whole}
use Rattle.scad_geom.specs.Half.{meant}
use Rattle.scad_geom.specs.Limits.{coordinate_limit}
use Rattle.scad_geom.specs.Within.{IsEdgeWithin}
use Rattle.scad_geom.specs.Segment.{segments}
use Rattle.scad_geom.specs.Winding.{wind}
use Rattle.scad_geom.specs.Balance.{IsBalanced}
use Rattle.scad_geom.specs.Loop.{sides}
use Rattle.plan_sides.proofs.Closure.{sides_balanced}
use Rattle.scad_ring.specs.Octagon.{reach}
use Rattle.cli_read.specs.declared.layers.CliLayer.{CliLayer}
use Rattle.plan_verify.specs.declared.field.Field.{Field}
use Rattle.plan_verify.specs.declared.trial.Trial.{Trial}
use Rattle.plan_verify.specs.Stays.{KeepsClear}
use Rattle.plan_verify.specs.Index.{sides_in, IsBoxed}
use Rattle.plan_verify.specs.Trial.{ComesNear, IsApart}
use Rattle.plan_verify.specs.Fields.{IsSound, IsFieldOf}
use Rattle.plan_verify.proofs.Clearance.{kept_if, not_kept_near, not_kept_out}

pub field_is : (layer : CliLayer) (f : Field) (es : List Edge) → f.z ≡ layer.z → sides_in f.sides ≡ es
    → es ≡ flat_map sides layer.loops → IsBoxed f.sides
    → All (IsEdgeWithin coordinate_limit) (flat_map sides layer.loops) → length es < 2 ^ 63 → IsFieldOf layer f
field_is layer f es height are all boxed within few =
    let same = are ∙ all in
    let count = ap (λ (fs : List Edge). length fs) are in
    record {
      z = height;
      sides = same;
      sound = record {
        boxed = boxed;
        within = subst (λ (fs : List Edge). All (IsEdgeWithin coordinate_limit) fs) (sym same) within;
        few = omega (arith, count, few);
        outlines = layer.loops;
        closed = same;
      };
    }

balanced : (f : Field) → IsSound f → IsBalanced (segments (sides_in f.sides))
balanced f sound = subst (λ (es : List Edge). IsBalanced (segments es)) (sym sound.closed)
    (sides_balanced sound.outlines)

reach_two : (c : ℕ) → 2 ≤ c → 2 ≤ reach c
reach_two c h = omega (arith, h)

module _ (f : Field) (line : Edge) (width : ℕ) (t : Trial) (sound : IsSound f) (least : 100 ≤ width) (is_line : t.line ≡ line)
    (s : t.s ≡ width / 2 - 1) (u : t.u ≡ reach (width / 2) - 2) where
  winds_alike : wind (meant Whole t.line.a) (segments (sides_in f.sides))
      ≡ wind (meant Whole line.a) (segments (sides_in f.sides))
  winds_alike = ap (λ (l : Edge). wind (meant Whole l.a) (segments (sides_in f.sides))) is_line

  pub keeps_where : (z : ℤ) → All (IsApart t) (sides_in f.sides)
      → z ≡ wind (meant Whole line.a) (segments (sides_in f.sides)) → (z ≡ pos 0 → ⊥)
      → KeepsClear (sides_in f.sides) (width / 2) line
  keeps_where z all is some = subst (λ (l : Edge). KeepsClear (sides_in f.sides) (width / 2) l) is_line
      (kept_if (sides_in f.sides) (width / 2) t.s t.u t.line (omega (arith, least))
      (reach_two (width / 2) (omega (arith, least))) s u (balanced f sound) all
      (λ e. some (is ∙ sym winds_alike ∙ e)))

  pub near_fails : Any (ComesNear t) (sides_in f.sides) → KeepsClear (sides_in f.sides) (width / 2) line → ⊥
  near_fails near keeps = not_kept_near (sides_in f.sides) (width / 2) t.s t.u t.line (omega (arith, least))
      (reach_two (width / 2) (omega (arith, least))) s u near
      (subst (λ (l : Edge). KeepsClear (sides_in f.sides) (width / 2) l) (sym is_line) keeps)

pub out_fails : (es : List Edge) (line : Edge) (c : ℕ) (z : ℤ) → z ≡ wind (meant Whole line.a) (segments es)
    → z ≡ pos 0 → KeepsClear es c line → ⊥
out_fails es line c z is none keeps = not_kept_out es c line (sym is ∙ none) keeps

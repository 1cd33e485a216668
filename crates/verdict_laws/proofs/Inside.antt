-- What a print says of a move by the number of its layer, the judgement asks of it by its height.
use Rattle.std.proofs.Common.{◌≡◌, ℕ, zero, suc, ◌+◌, ◌*◌, ◌/◌, List, [], ◌∷◌, flat_map, sym, ap, ◌∙◌, arith}
use Rattle.std.specs.Prelude.{pos, IsSomeAnd, slice_get}
use Rattle.std.specs.List.{Any}
use Rattle.scad_geom.specs.declared.point.Pt.{Pt}
use Rattle.scad_geom.specs.declared.point.Edge.{Edge}
use Rattle.scad_geom.specs.Loop.{sides}
use Rattle.scad_words.specs.declared.settings.Settings.{Settings}
use Rattle.plan_walls.specs.Clearance as plan
use Rattle.slice_work.specs.Part.{Layout}
use Rattle.gcode_text.specs.declared.machine.Move.{Move}
use Rattle.plan_verify.specs.Stays.{KeepsClear, IsInLayer, Stays}
use Rattle.print_laws.specs.Print.{all_outlines, written_from, written, StaysInside}
use Rattle.verdict_laws.proofs.Deciding.{any_here, any_there}

kept_clear : (outlines : List (List Pt)) (c : ℕ) (e : Edge) → plan.KeepsClear outlines c e
    → KeepsClear (flat_map sides outlines) c e
kept_clear outlines c e k q positive on =
    let kept = k q positive on in record { clear = kept.clear; inside = kept.inside }

module _ (width h : ℕ) (m : Move) where
  abbrev seen : Edge
  seen = record { a = record { x = m.from.x; y = m.from.y }; b = record { x = m.to.x; y = m.to.y } }

  in_written : (i : ℕ) (ls : List Layout) (k : ℕ)
      → IsSomeAnd (slice_get (all_outlines ls) k) (λ o. plan.KeepsClear o (width / 2) seen)
      → m.from.z ≡ pos (((i + k) + 1) * h) → Any (IsInLayer width m) (written_from h i ls)
  in_written i [] k clear z = absurd clear
  in_written i (l ∷ ls) zero clear z =
      let same : h * (i + 1) ≡ ((i + 0) + 1) * h = grind arith in
      any_here (IsInLayer width m) _ (written_from h (i + 1) ls)
      (record { height = ap pos same ∙ sym z; clear = kept_clear l.outlines (width / 2) seen clear })
  in_written i (l ∷ ls) (suc k) clear z =
      let next : i + suc k ≡ (i + 1) + k = omega arith in
      any_there (IsInLayer width m) _ (written_from h (i + 1) ls)
      (in_written (i + 1) ls k clear (z ∙ ap (λ (n : ℕ). pos ((n + 1) * h)) next))

pub stays : (s : Settings) (layers : List Layout) (m : Move) → StaysInside s (all_outlines layers) m
    → Stays (written s.layer_height layers) s.line_width m
stays s layers m p =
    let first : p.layer ≡ 0 + p.layer = omega arith in
    record {
      level = p.from ∙ sym p.to;
      layer = in_written s.line_width s.layer_height m 0 layers p.layer p.clear
          (p.from ∙ ap (λ (n : ℕ). pos ((n + 1) * s.layer_height)) first);
    }

-- By its own outlines the first move along a support of a print goes outside.
use Rattle.std.proofs.Common.{◌≡◌, ◌⊎◌, inl, inr, ℕ, zero, suc, ◌+◌, ◌*◌, ◌/◌, ◌<◌, ◌≤◌, Bool, true, false, List, [], ◌∷◌, ◌++◌, length, flat_map, refl, sym, ap, ◌∙◌, subst, arith, Option, Some, None, Ok, Err}
use Rattle.std.specs.Prelude.{pos, IsSomeAnd, slice_get}
use Rattle.std.specs.List.{Any, AllByRecursion}
use Rattle.std.proofs.Math.Nat.{mul-div_cancel}
use Rattle.std.proofs.lemmas.Int.{ints}
use Rattle.std.proofs.lemmas.List.Elements.{All-nil, All-cons, recursion_from_All}
use Rattle.scad_geom.specs.declared.point.Pt.{Pt}
use Rattle.scad_geom.specs.declared.point.Edge.{Edge}
use Rattle.scad_geom.specs.Loop.{sides}
use Rattle.scad_geom.specs.Point.{whole}
use Rattle.scad_words.specs.declared.settings.Settings.{Settings}
use Rattle.plan_layer.specs.Clearance.{PlansKeepClear}
use Rattle.support_laws.specs.Apart as support
use Rattle.slice_work.specs.Part.{Layout, hatches_of}
use Rattle.cli_text.specs.Cli.{Layer}
use Rattle.cli_read.specs.Laws.{TextsSayOneList}
use Rattle.gcode_text.specs.declared.machine.Move.{Move}
use Rattle.plan_verify.specs.Stays.{KeepsClear, IsInLayer, Stays}
use Rattle.plan_verify.specs.declared.verdict.Verdict.TheVariants.{Outside}
use Rattle.plan_verify.specs.declared.verdict.VerifyFault.TheVariants.{Memory}
use Rattle.plan_verify.specs.Verdict as told
use Rattle.plan_verify.specs.Verdict.{Told, IsFirstOut}
use Rattle.print_laws.specs.Print.{all_outlines, written_from, written, extruding, PathSide}
use Rattle.print_laws.specs.Print.{StandsOutside, KeepsPlace, KeepPlaces}
use Rattle.print_laws.specs.Laws.{PlansArePrintable}
use Rattle.print_laws.proofs.Supports.{SupportLaws}
use Rattle.print_laws.proofs.Wound.{starts_on}
use Rattle.verdict_laws.specs.Laws.{VerdictsAreOpinions}
use Rattle.verdict_laws.specs.OwnOutlines.{SupportsGoOutside, PrintsAreAnsweredOutside}
use Rattle.verdict_laws.proofs.Extruding.{moves_in}
use Rattle.verdict_laws.proofs.Inside.{stays}
use Rattle.verdict_laws.proofs.OwnOutlines.{told_moves, told_extruding, by_written, answered_so}

-- ---- a move along a support is in no layer
-- an edge doesn't keep both apart from outlines and clear inside of them
not_both : (outlines : List (List Pt)) (gap c : ℕ) (e : Edge) → support.KeepsApart outlines gap e
    → KeepsClear (flat_map sides outlines) c e → ⊥
not_both outlines gap c e apart clear =
    (clear (whole e.a) (omega (arith, ints)) (starts_on e.a e.b)).inside (apart.free e.a (starts_on e.a e.b)).outside

-- the item of a list that has something is the first, or one of the others
any_either : {X : Type 0} (P : X → Type 0) (x : X) (xs : List X) → Any P (x ∷ xs) → P x ⊎ Any P xs
any_either P x xs (zero, y, l, e, p) = inl (subst P (sym e) p)
any_either P x xs (suc k, y, l, e, p) = inr (k, y, omega (arith, l), e, p)

module _ (width h : ℕ) (m : Move) where
  abbrev seen : Edge
  seen = record { a = record { x = m.from.x; y = m.from.y }; b = record { x = m.to.x; y = m.to.y } }

  -- what keeps clear in a layer that is written keeps clear of the outlines of a layer at its height
  abbrev IsAt : ℕ → List Layout → Type 0
  IsAt i ls = (k : ℕ) × (m.from.z ≡ pos (((i + k) + 1) * h))
      × IsSomeAnd (slice_get (all_outlines ls) k) (λ o. KeepsClear (flat_map sides o) (width / 2) seen)

  in_written : (i : ℕ) (ls : List Layout) → Any (IsInLayer width m) (written_from h i ls) → IsAt i ls
  in_written i [] (k, y, l, e, p) = absurd (omega (arith, l))
  in_written i (l ∷ ls) any =
      by_item (in_written (i + 1) ls) (any_either (IsInLayer width m) first (written_from h (i + 1) ls) any)
    where
      first : Layer
      first = record { z = h * (i + 1); loops = l.outlines; hatches = hatches_of (Ok l) }

      by_item : (Any (IsInLayer width m) (written_from h (i + 1) ls) → IsAt (i + 1) ls)
          → IsInLayer width m first ⊎ Any (IsInLayer width m) (written_from h (i + 1) ls) → IsAt i (l ∷ ls)
      by_item rest (inl here) =
          let same : h * (i + 1) ≡ ((i + 0) + 1) * h = grind arith in
          (0, sym here.height ∙ ap pos same, here.clear)
      by_item rest (inr there) =
          let found = rest there in
          let next : (i + 1) + found.0 ≡ i + suc found.0 = omega arith in
          (suc found.0, found.1 ∙ ap (λ (n : ℕ). pos ((n + 1) * h)) next, found.2)

-- layers of one height are one
same_layer : (h n k : ℕ) → 1 ≤ h → pos ((n + 1) * h) ≡ pos ((k + 1) * h) → n ≡ k
same_layer h n k some same =
    let products : (n + 1) * h ≡ (k + 1) * h = omega (arith, ints, same) in
    let positive : 0 < h = omega (arith, some) in
    let quotients : n + 1 ≡ k + 1 =
    sym (mul-div_cancel (n + 1) {n = h} positive) ∙ ap (λ (m : ℕ). m / h) products ∙ mul-div_cancel (k + 1) {n = h} positive
    in
    omega (arith, quotients)

apart_or_clear : (gap c : ℕ) (e : Edge) (o : Option (List (List Pt)))
    → IsSomeAnd o (λ outlines. support.KeepsApart outlines gap e)
    → IsSomeAnd o (λ outlines. KeepsClear (flat_map sides outlines) c e) → ⊥
apart_or_clear gap c e None apart clear = apart
apart_or_clear gap c e (Some outlines) apart clear = not_both outlines gap c e apart clear

leaves : (s : Settings) (layers : List Layout) (m : Move) → 1 ≤ s.layer_height → StandsOutside s (all_outlines layers) m
    → Stays (written s.layer_height layers) s.line_width m → ⊥
leaves s layers m some p stays =
    let found = in_written s.line_width s.layer_height m 0 layers stays.layer in
    let first : 0 + found.0 ≡ found.0 = omega arith in
    let one : found.0 ≡ p.layer =
    same_layer s.layer_height found.0 p.layer some
    (ap (λ (n : ℕ). pos ((n + 1) * s.layer_height)) (sym first) ∙ sym found.1 ∙ p.from)
    in
    apart_or_clear s.support_gap (s.line_width / 2) (seen s.line_width s.layer_height m)
    (slice_get (all_outlines layers) p.layer) p.apart
    (subst (λ (n : ℕ). IsSomeAnd (slice_get (all_outlines layers) n)
    (λ o. KeepsClear (flat_map sides o) (s.line_width / 2) (seen s.line_width s.layer_height m))) one found.2)

-- ---- the first of them is the first that goes outside
module _ (s : Settings) (layers : List Layout) (some : 1 ≤ s.layer_height) where
  abbrev StaysIn : Move → Type 0
  StaysIn m = Stays (written s.layer_height layers) s.line_width m

  abbrev GoesOut : List Told → ℕ → Type 0
  GoesOut ts number = (line : ℕ) × IsFirstOut StaysIn ts number line

  behind_one : (t : Told) (ts : List Told) (n : ℕ) → StaysIn t.move → GoesOut ts n → GoesOut (t ∷ ts) (suc n)
  behind_one t ts n does (l, f) = (
    l,
    record {
      before = t ∷ f.before;
      out = f.out;
      behind = f.behind;
      are = ap (λ (ts : List Told). t ∷ ts) f.are;
      all = All-cons (λ told. StaysIn told.move) t f.before does f.all;
      fails = f.fails;
      number = let n_is = f.number in omega (arith, n_is);
      line = f.line;
    },
  )

  first_out : (before : List PathSide) (first : PathSide) (behind : List PathSide) (ts : List Told)
      → AllByRecursion (λ side. side.support ≡ false) before → first.support ≡ true
      → KeepPlaces s (all_outlines layers) (before ++ first ∷ behind) (moves_in ts) → GoesOut ts (length before + 1)
  first_out [] first behind [] others is kept = absurd kept
  first_out [] first behind (t ∷ ts) others is kept = (
    t.line,
    record {
      before = [];
      out = t;
      behind = ts;
      are = refl;
      all = All-nil (λ told. StaysIn told.move);
      fails = leaves s layers t.move some
          (subst (λ (b : Bool). KeepsPlace b s (all_outlines layers) t.move) is kept.0);
      number = refl;
      line = refl;
    },
  )
  first_out (side ∷ before) first behind [] others is kept = absurd kept
  first_out (side ∷ before) first behind (t ∷ ts) others is kept =
      let next : suc (length before + 1) ≡ length (side ∷ before) + 1 = omega arith in
      subst (λ (n : ℕ). GoesOut (t ∷ ts) n) next
      (behind_one t ts (length before + 1)
      (stays s layers t.move (subst (λ (b : Bool). KeepsPlace b s (all_outlines layers) t.move) others.0 kept.0))
      (first_out before first behind ts others.1 is kept.1))

-- ---- the laws
pub supports_go_outside : SupportLaws → PlansKeepClear → PlansArePrintable → TextsSayOneList → SupportsGoOutside
supports_go_outside laws clear printable one s tree cli gcode print layers number solids range short reads supports =
    (out.0, by_written one s tree cli gcode print layers (Ok (Outside number out.0)) reads (ms.0, ms.1, out.1))
  where
    ms : (ts : List Told) × (told.program_moves gcode ≡ Ok ts) × (moves_in ts ≡ print.program.moves)
    ms = told_moves laws clear printable s tree cli gcode print solids range short

    kept : KeepPlaces s (all_outlines print.layers) (supports.before ++ supports.first ∷ supports.behind)
        (moves_in (told.extruding ms.0))
    kept =
        subst (λ (moves : List Move). KeepPlaces s (all_outlines print.layers)
        (supports.before ++ supports.first ∷ supports.behind) moves)
        (sym (told_extruding laws clear printable s tree cli gcode print solids range short))
        (subst (λ (sides : List PathSide). KeepPlaces s (all_outlines print.layers) sides
        (extruding print.program.moves)) supports.are print.program.kept)

    some : 1 ≤ s.layer_height
    some = let least = range.layer_height.least in omega (arith, least)

    out : GoesOut s print.layers some (told.extruding ms.0) number
    out =
        subst (λ (n : ℕ). GoesOut s print.layers some (told.extruding ms.0) n) (sym supports.is_number)
        (first_out s print.layers some supports.before supports.first supports.behind (told.extruding ms.0)
        (recursion_from_All (λ (side : PathSide). side.support ≡ false) supports.before supports.others) supports.is kept)

pub prints_are_answered_outside : VerdictsAreOpinions → SupportsGoOutside → PrintsAreAnsweredOutside
prints_are_answered_outside answered outside s tree cli gcode print layers number verdict solids range short reads supports
    judged =
    let out = outside s tree cli gcode print layers number solids range short reads supports in
    by_cases out.0 (answered_so (Outside number out.0) verdict
    (answered layers s.line_width gcode verdict (Ok (Outside number out.0)) judged out.1))
  where
    by_cases : (line : ℕ) → (verdict ≡ Err Memory) ⊎ (verdict ≡ Ok (Outside number line))
        → (verdict ≡ Err Memory) ⊎ ((line : ℕ) × (verdict ≡ Ok (Outside number line)))
    by_cases line (inl none) = inl none
    by_cases line (inr is) = inr (line, is)

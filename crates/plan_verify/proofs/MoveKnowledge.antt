-- What is known of the moves of the lines that were read, as one line more is read.
use Rattle.std.proofs.Common.{◌≡◌, ℕ, ◌+◌, ◌≤◌, Bool, true, false, cond, [], ◌∷◌, ◌++◌, List, length, refl, ap, sym, subst, ◌∙◌, arith, append_assoc, Option, Some, None, Result, Ok, Err}
use Rattle.std.specs.Prelude.{MatchOption, is_some, min, ◌^◌, ◌-◌}
use Rattle.std.proofs.lemmas.List.{append-nil, length-append}
use Rattle.std.proofs.lemmas.List.Elements.{All-nil, All-cons, All-append, filter-append}
use Rattle.scad_base.specs.Results.{and_then}
use Rattle.gcode_text.specs.declared.fault.GFault.{GFault}
use Rattle.gcode_text.specs.declared.machine.Move.{Move}
use Rattle.gcode_text.specs.Reading.{lines}
use Rattle.gcode_text.specs.Machine.{State, After, start, limited, line_step}
use Rattle.plan_verify.specs.declared.judgement.Out.{Out}
use Rattle.plan_verify.specs.declared.judgement.Judgement.{Judgement}
use Rattle.plan_verify.specs.declared.verdict.Verdict.{Verdict}
use Rattle.plan_verify.specs.declared.verdict.VerifyFault.{VerifyFault}
use Rattle.plan_verify.specs.Verdict.{Told, onto, moves_told, program_moves, extruding, AllDo, IsFirstOut, IsJudgedBy, IsVerdictBy, refusal_of}
use Rattle.plan_verify.specs.Judgement.{first_out, added, verdict_of, verdict_of', IsAdded, WithMove, passed, late, did, failed}
use Rattle.plan_verify.proofs.Axes.{IsPlaceWithin, step_within, step_lines, start_within}

abbrev pub prefix : List Told → Result (List Told) GFault → Result (List Told) GFault
prefix moves rest = and_then rest (λ more. Ok (moves ++ more))

prefix_on : (a b : List Told) (r : Result (List Told) GFault) → prefix a (prefix b r) ≡ prefix (a ++ b) r
prefix_on a b (Ok moves) = ap Ok (sym (append_assoc a b moves))
prefix_on a b (Err fault) = refl

prefix_nothing : (r : Result (List Told) GFault) → r ≡ prefix [] r
prefix_nothing (Ok moves) = refl
prefix_nothing (Err fault) = refl

onto_prefix : (line : ℕ) (move : Option Move) (r : Result (List Told) GFault)
    → and_then r (λ moves. Ok (onto line move moves)) ≡ prefix (onto line move []) r
onto_prefix line None (Ok moves) = refl
onto_prefix line None (Err fault) = refl
onto_prefix line (Some move) (Ok moves) = refl
onto_prefix line (Some move) (Err fault) = refl

-- the moves of a line and of what stands behind it
abbrev then_told : List (List ℕ) → After → Result (List Told) GFault
then_told rest after = and_then (moves_told after.state rest) (λ moves. Ok (onto after.state.lines after.move moves))

line_more : (s : State) (text : List ℕ) (rest : List (List ℕ)) (after : After)
    → line_step limited s text ≡ Ok after
    → moves_told s (text ∷ rest) ≡ prefix (onto after.state.lines after.move []) (moves_told after.state rest)
unfolding moves_told
line_more s text rest after e = ap (λ (r : Result After GFault). and_then r (then_told rest)) e
    ∙ onto_prefix after.state.lines after.move (moves_told after.state rest)

line_refused : (s : State) (text : List ℕ) (rest : List (List ℕ)) (fault : GFault)
    → line_step limited s text ≡ Err fault → moves_told s (text ∷ rest) ≡ Err fault
unfolding moves_told
line_refused s text rest fault e = ap (λ (r : Result After GFault). and_then r (then_told rest)) e

no_more : (s : State) → moves_told s [] ≡ Ok []
unfolding moves_told
no_more s = refl

-- what stands behind a line, where anything does
pub some_left : {X : Type 0} (o : Option X) (view : X → List ℕ) (text front : List ℕ)
    → MatchOption o (lines text ≡ front ∷ []) (λ rest. lines text ≡ front ∷ lines (view rest))
    → (left : List (List ℕ)) × (lines text ≡ front ∷ left)
some_left None view text front h = ([], h)
some_left (Some rest) view text front h = (lines (view rest), h)

-- ---- the judgement of moves
abbrev pub OutIs : (Move → Type 0) → List Told → Option Out → Type 0
OutIs Does moves None = AllDo Does moves
OutIs Does moves (Some out) = IsFirstOut Does moves out.number out.line

pub record IsJudged (Does : Move → Type 0) (moves : List Told) (j : Judgement) : Type 0 where
  pub count : j.moves ≡ length moves
  pub out : OutIs Does moves j.out

module _ (Does : Move → Type 0) where
  longer : (moves : List Told) (t : Told) (number line : ℕ) → IsFirstOut Does moves number line
      → IsFirstOut Does (moves ++ t ∷ []) number line
  longer moves t number line f = record {
    before = f.before;
    out = f.out;
    behind = f.behind ++ t ∷ [];
    are = ap (λ (ms : List Told). ms ++ t ∷ []) f.are ∙ append_assoc f.before (f.out ∷ f.behind) (t ∷ []);
    all = f.all;
    fails = f.fails;
    number = f.number;
    line = f.line;
  }

  one_more : (moves : List Told) (t : Told) → length (moves ++ t ∷ []) ≡ length moves + 1
  one_more moves t = length-append moves (t ∷ [])

  late_is : (moves : List Told) (t : Told) (out : Option Out) → is_some out ≡ true → OutIs Does moves out
      → OutIs Does (moves ++ t ∷ []) out
  late_is moves t None e o = absurd (cc)
  late_is moves t (Some out) e o = longer moves t out.number out.line o

  did_is : (moves : List Told) (t : Told) (out : Option Out) → out ≡ None → Does t.move → OutIs Does moves out
      → OutIs Does (moves ++ t ∷ []) out
  did_is moves t None e d o = All-append (λ told. Does told.move) moves (t ∷ []) o
      (All-cons (λ told. Does told.move) t [] d (All-nil (λ told. Does told.move)))
  did_is moves t (Some out) e d o = absurd (cc)

  failed_is : (moves : List Told) (t : Told) (out : Option Out) (count : ℕ) → count ≡ length moves
      → out ≡ None
      → (Does t.move → ⊥) → OutIs Does moves out
      → OutIs Does (moves ++ t ∷ []) (first_out out (count + 1) t.line)
  failed_is moves t None count c e d o = record {
    before = moves;
    out = t;
    behind = [];
    are = refl;
    all = o;
    fails = d;
    number = ap (λ (n : ℕ). n + 1) c;
    line = refl;
  }
  failed_is moves t (Some out) count c e d o = absurd (cc)

  -- the moves that extrude, with one move more
  abbrev with_told : List Told → Told → List Told
  with_told moves t = extruding (moves ++ t ∷ [])

  told_extrudes : (moves : List Told) (t : Told) → t.move.extruding ≡ true
      → with_told moves t ≡ extruding moves ++ t ∷ []
  told_extrudes moves t e =
      filter-append (λ told. told.move.extruding) moves (t ∷ [])
      ∙ ap (λ (b : Bool). extruding moves ++ cond b (t ∷ []) []) e

  told_travels : (moves : List Told) (t : Told) → t.move.extruding ≡ false → with_told moves t ≡ extruding moves
  told_travels moves t e =
      filter-append (λ told. told.move.extruding) moves (t ∷ [])
      ∙ ap (λ (b : Bool). extruding moves ++ cond b (t ∷ []) []) e ∙ append-nil (extruding moves)

  not_true : (b : Bool) → (b ≡ true → ⊥) → b ≡ false
  not_true true h = absurd (h refl)
  not_true false h = refl

  judged_on : (moves : List Told) (t : Told) (j i : Judgement) → IsJudged Does (extruding moves) j
      → IsAdded Does j t.line t.move i → IsJudged Does (with_told moves t) i
  judged_on moves t j i o (passed n) =
      subst (λ (ms : List Told). IsJudged Does ms j) (sym (told_travels moves t (not_true t.move.extruding n))) o
  judged_on moves t j i o (late e s) =
      subst (λ (ms : List Told). IsJudged Does ms (added j true t.line)) (sym (told_extrudes moves t e)) (record {
        count = ap (λ (n : ℕ). n + 1) o.count ∙ sym (one_more (extruding moves) t);
        out = late_is (extruding moves) t j.out s o.out;
      })
  judged_on moves t j i o (did e s d) =
      subst (λ (ms : List Told). IsJudged Does ms (added j true t.line)) (sym (told_extrudes moves t e)) (record {
        count = ap (λ (n : ℕ). n + 1) o.count ∙ sym (one_more (extruding moves) t);
        out = did_is (extruding moves) t j.out s d o.out;
      })
  judged_on moves t j i o (failed e s d) =
      subst (λ (ms : List Told). IsJudged Does ms (added j false t.line)) (sym (told_extrudes moves t e)) (record {
        count = ap (λ (n : ℕ). n + 1) o.count ∙ sym (one_more (extruding moves) t);
        out = failed_is (extruding moves) t j.out j.moves o.count s d o.out;
      })

  -- ---- what is known between lines
  pub record IsRead (program : List ℕ) (s : State) (rest : List (List ℕ)) (line : ℕ) (j : Judgement) : Type 0 where
    pub moves : List Told
    pub told : program_moves program ≡ prefix moves (moves_told s rest)
    pub judged : IsJudged Does (extruding moves) j
    pub counted : line ≡ s.lines
    pub within : IsPlaceWithin s.at

  pub read_nothing : (program : List ℕ) → IsRead program start (lines program) 0 (record { moves = 0; out = None })
  read_nothing program = record {
    moves = [];
    told = prefix_nothing (program_moves program);
    judged = record { count = refl; out = All-nil (λ told. Does told.move) };
    counted = refl;
    within = start_within;
  }

  pub read_first : (program : List ℕ) (s : State) (j : Judgement) → s ≡ start
      → j ≡ record { moves = 0; out = None } → IsRead program s (lines program) 0 j
  read_first program s j at none = subst (λ (t : State). IsRead program t (lines program) 0 j) (sym at)
      (subst (λ (k : Judgement). IsRead program start (lines program) 0 k) (sym none) (read_nothing program))

  added_few : (j i : Judgement) (line : ℕ) (m : Move) → IsAdded Does j line m i → i.moves ≤ j.moves + 1
  added_few j i line m (passed n) = omega arith
  added_few j i line m (late e s) = omega arith
  added_few j i line m (did e s d) = omega arith
  added_few j i line m (failed e s d) = omega arith

  pub with_few : (move : Option Move) (line : ℕ) (j i : Judgement) → WithMove Does move line j i
      → i.moves ≤ j.moves + 1
  with_few None line j i e = let f = ap (λ (k : Judgement). k.moves) e in omega (arith, f)
  with_few (Some m) line j i o = added_few j i line m o

  judged_with : (moves : List Told) (move : Option Move) (line : ℕ) (j i : Judgement)
      → IsJudged Does (extruding moves) j
      → WithMove Does move line j i → IsJudged Does (extruding (moves ++ onto line move [])) i
  judged_with moves None line j i o e =
      subst (λ (ms : List Told). IsJudged Does (extruding ms) i) (sym (append-nil moves))
      (subst (λ (k : Judgement). IsJudged Does (extruding moves) k) (sym e) o)
  judged_with moves (Some m) line j i o e = judged_on moves (record { line = line; move = m }) j i o e

  pub read_line : (program front : List ℕ) (rest left : List (List ℕ)) (s : State) (after : After) (line next : ℕ)
      (j i : Judgement) → IsRead program s rest line j → rest ≡ front ∷ left
      → line_step limited s front ≡ Ok after → next ≡ min (line + 1) (2 ^ 32 - 1)
      → WithMove Does after.move next j i → IsRead program after.state left next i
  read_line program front rest left s after line next j i r split step number o =
      let at : next ≡ after.state.lines =
      number ∙ ap (λ (n : ℕ). min (n + 1) (2 ^ 32 - 1)) r.counted ∙ sym (step_lines s front after step) in
      record {
        moves = r.moves ++ onto after.state.lines after.move [];
        told = r.told ∙ ap (λ (ls : List (List ℕ)). prefix r.moves (moves_told s ls)) split
            ∙ ap (prefix r.moves) (line_more s front left after step)
            ∙ prefix_on r.moves (onto after.state.lines after.move []) (moves_told after.state left);
        judged = subst (λ (n : ℕ). IsJudged Does (extruding (r.moves ++ onto n after.move [])) i) at
            (judged_with r.moves after.move next j i r.judged o);
        counted = at;
        within = (step_within s front after r.within step).place;
      }

  pub read_refusal : (program front : List ℕ) (rest left : List (List ℕ)) (s : State) (fault : GFault) (line : ℕ)
      (j : Judgement) → IsRead program s rest line j → rest ≡ front ∷ left
      → line_step limited s front ≡ Err fault → program_moves program ≡ Err fault
  read_refusal program front rest left s fault line j r split step =
      r.told ∙ ap (λ (ls : List (List ℕ)). prefix r.moves (moves_told s ls)) split
      ∙ ap (prefix r.moves) (line_refused s front left fault step)

  pub refused_is : (program : List ℕ) (fault : GFault) (e : VerifyFault) → program_moves program ≡ Err fault
      → e ≡ refusal_of fault → IsVerdictBy Does program (Err e)
  refused_is program fault e told is known = (fault, told, is)

  judged_by : (moves : List Told) (count : ℕ) (out : Option Out) → count ≡ length moves → OutIs Does moves out
      → IsJudgedBy Does moves (verdict_of' count out)
  judged_by moves count None c o = (o, c)
  judged_by moves count (Some out) c o = o

  pub read_all : (program : List ℕ) (s : State) (line : ℕ) (j : Judgement) → IsRead program s [] line j
      → IsVerdictBy Does program (Ok (verdict_of j))
  read_all program s line j r = (
    r.moves,
    r.told ∙ ap (prefix r.moves) (no_more s) ∙ ap Ok (append-nil r.moves),
    judged_by (extruding r.moves) j.moves j.out r.judged.count r.judged.out,
  )

  pub read_end : (program : List ℕ) (s : State) (line : ℕ) (j : Judgement) (v : Verdict)
      → IsRead program s [] line j → v ≡ verdict_of j → IsVerdictBy Does program (Ok v)
  read_end program s line j v r is = subst (λ (u : Verdict). IsVerdictBy Does program (Ok u)) (sym is)
      (read_all program s line j r)

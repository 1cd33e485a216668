-- Right opinions are one, and what the judgement of a program answers is the opinion on it.
use Rattle.std.proofs.Common.{◌≡◌, ℕ, suc, ◌+◌, List, [], ◌∷◌, ◌++◌, length, Result, Ok, Err, refl, sym, ap, ap₂, ◌∙◌, subst}
use Rattle.std.proofs.lemmas.List.Elements.{recursion_from_All}
use Rattle.gcode_text.specs.declared.fault.GFault.{GFault}
use Rattle.gcode_text.specs.declared.machine.Move.{Move}
use Rattle.cli_text.specs.Cli.{Layer}
use Rattle.plan_verify.specs.declared.verdict.Verdict.{Verdict}
use Rattle.plan_verify.specs.declared.verdict.Verdict.TheVariants.{Inside, Outside}
use Rattle.plan_verify.specs.declared.verdict.VerifyFault.{VerifyFault}
use Rattle.plan_verify.specs.Stays.{Stays}
use Rattle.plan_verify.specs.Verdict.{Told, extruding, AllDo, IsFirstOut, IsJudgedBy, IsVerdict}
use Rattle.verdict_laws.specs.Opinion.{Opinion, IsOpinion, Opinions, IsWidth, AreRight, Answers}
use Rattle.std.specs.List.{AllByRecursion}

module _ (Does : Move → Type 0) where
  abbrev Each : List Told → Type 0
  Each moves = AllByRecursion (λ told. Does told.move) moves

  -- two fronts that do what they should, each with a move behind it that doesn't, are one
  one_front : (before other : List Told) (t u : Told) (behind rest : List Told) → Each before → Each other
      → (Does t.move → ⊥) → (Does u.move → ⊥) → before ++ t ∷ behind ≡ other ++ u ∷ rest
      → (length before ≡ length other) × (t ≡ u)
  one_front [] [] t u behind rest all others fails fails' same = (refl, ap (front t) same)
    where
      front : Told → List Told → Told
      front t [] = t
      front t (x ∷ xs) = x
  one_front [] (o ∷ os) t u behind rest all others fails fails' same =
      absurd (fails (subst (λ (x : Told). Does x.move) (sym (ap (front t) same)) others.0))
    where
      front : Told → List Told → Told
      front t [] = t
      front t (x ∷ xs) = x
  one_front (b ∷ bs) [] t u behind rest all others fails fails' same =
      absurd (fails' (subst (λ (x : Told). Does x.move) (ap (front u) same) all.0))
    where
      front : Told → List Told → Told
      front t [] = t
      front t (x ∷ xs) = x
  one_front (b ∷ bs) (o ∷ os) t u behind rest all others fails fails' same =
      let one = one_front bs os t u behind rest all.1 others.1 fails fails' (ap tail same) in
      (ap suc one.0, one.1)
    where
      tail : List Told → List Told
      tail [] = []
      tail (x ∷ xs) = xs

  -- where all do, none is the first that doesn't
  none_out : (moves : List Told) (n l : ℕ) → AllDo Does moves → IsFirstOut Does moves n l → ⊥
  none_out moves n l all f =
      f.fails (in_middle f.before f.out f.behind
      (subst Each f.are (recursion_from_All (λ told. Does told.move) moves all)))
    where
      in_middle : (before : List Told) (t : Told) (behind : List Told) → Each (before ++ t ∷ behind) → Does t.move
      in_middle [] t behind each = each.0
      in_middle (b ∷ bs) t behind each = in_middle bs t behind each.1

  judged_one : (moves : List Told) (a b : Verdict) → IsJudgedBy Does moves a → IsJudgedBy Does moves b → a ≡ b
  judged_one moves (Inside n) (Inside k) (all, is) (all', is') = ap Inside (is ∙ sym is')
  judged_one moves (Inside n) (Outside k l) (all, is) f = absurd (none_out moves k l all f)
  judged_one moves (Outside n l) (Inside k) f (all, is) = absurd (none_out moves n l all f)
  judged_one moves (Outside n l) (Outside k j) f g =
      let one = one_front f.before g.before f.out g.out f.behind g.behind
      (recursion_from_All (λ told. Does told.move) f.before f.all)
      (recursion_from_All (λ told. Does told.move) g.before g.all) f.fails g.fails (sym f.are ∙ g.are) in
      ap₂ Outside (f.number ∙ ap (λ (i : ℕ). i + 1) one.0 ∙ sym g.number)
      (f.line ∙ ap (λ (t : Told). t.line) one.1 ∙ sym g.line)

-- the moves of a program, where there are any
abbrev moves_in : List Told → Result (List Told) GFault → List Told
moves_in other (Ok moves) = moves
moves_in other (Err fault) = other

-- the fault of a program, where there is one
abbrev fault_in : GFault → Result (List Told) GFault → GFault
fault_in other (Ok moves) = other
fault_in other (Err fault) = fault

module _ (layers : List Layer) (width : ℕ) (program : List ℕ) where
  verdict_one : (a b : Verdict) → IsVerdict layers width program (Ok a) → IsVerdict layers width program (Ok b) → a ≡ b
  verdict_one a b (moves, is, judged) (others, are, judged') =
      let one : others ≡ moves = ap (moves_in moves) (sym are ∙ is) in
      judged_one (Stays layers width) (extruding moves) a b judged
      (subst (λ (ms : List Told). IsJudgedBy (Stays layers width) (extruding ms) b) one judged')

  opinion_one : (a b : Opinion) → IsOpinion layers width program a → IsOpinion layers width program b → a ≡ b
  opinion_one (Ok a) (Ok b) is_a is_b = ap Ok (verdict_one a b is_a is_b)
  opinion_one (Ok a) (Err g) (moves, is, judged) is_b =
      let other : Ok moves ≡ Err g = sym is ∙ is_b in let never : ⊥ = cc in absurd never
  opinion_one (Err f) (Ok b) is_a (moves, is, judged) =
      let other : Ok moves ≡ Err f = sym is ∙ is_a in let never : ⊥ = cc in absurd never
  opinion_one (Err f) (Err g) is_a is_b = ap Err (ap (fault_in f) (sym is_a ∙ is_b))

  -- what the judgement answers is the opinion, but for want of memory
  pub answers_opinion : (r : Result Verdict VerifyFault) (opinion : Opinion) → IsVerdict layers width program r
      → IsOpinion layers width program opinion → Answers r opinion
  answers_opinion (Ok verdict) opinion is right = opinion_one opinion (Ok verdict) right is
  answers_opinion (Err fault) opinion is right =
      λ known. let why = is known in (why.0, opinion_one opinion (Err why.0) right why.1, why.2)

pub opinions_are_one : (a b : Opinions) → AreRight a → AreRight b → (layers : List Layer) (width : ℕ)
    (program : List ℕ) → IsWidth width → a layers width program ≡ b layers width program
opinions_are_one a b of_a of_b layers width program is_width =
    opinion_one layers width program (a layers width program) (b layers width program)
    (of_a layers width program is_width) (of_b layers width program is_width)

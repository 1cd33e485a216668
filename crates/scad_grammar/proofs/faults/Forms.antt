-- A form is left out by the reader exactly where the grammar leaves it out.
use Rattle.std.proofs.Common.{◌≡◌, ℕ, List, [], ◌∷◌, ◌++◌, Some, refl, ap, sym, ◌∙◌, codes}
use Rattle.scad_fault.specs.declared.place.Place.{Place}
use Rattle.scad_lex.specs.declared.token.Token.{Token}
use Rattle.scad_lex.specs.declared.token.Sign.TheVariants.{Hash}
use Rattle.scad_lex.specs.declared.token.Key.TheVariants.{Function, Echo}
use Rattle.scad_grammar.specs.Tokens.{sign, key}
use Rattle.scad_grammar.specs.Statements.{Begins}
use Rattle.scad_grammar.specs.LeftOut.{IsLeftOut, left_include, left_use, left_mark, left_operator, left_function}
use Rattle.scad_grammar.specs.State.{State}
use Rattle.scad_grammar.specs.Move.{Move, go, left_out, stuck}
use Rattle.scad_grammar.specs.Machine.{step, start, reach}
use Rattle.scad_grammar.proofs.reader.Prefix.{reach_by, reached_begins, begins_reached, reached_next, goes_next}
use Rattle.scad_grammar.proofs.reader.Prefix.{stuck_begins_nothing}
use Rattle.scad_grammar.proofs.faults.Leaves.{Form, form_include, form_use, form_mark, form_operator, form_function}
use Rattle.scad_grammar.proofs.faults.Leaves.{no_stuck}
use Rattle.scad_grammar.proofs.faults.LeavesStatements.{left_form}
use Rattle.scad_grammar.proofs.faults.Pairs.{Pair, pair_include, pair_use, pair_mark, pair_operator, left_part}
use Rattle.scad_grammar.proofs.faults.Pairs.{told, told_only}
use Rattle.scad_grammar.proofs.faults.Standins.{paired, paired_function}
use Rattle.std.proofs.lemmas.Option.{none-some}

record Goes (m : Move) : Type 0 where
  next : State
  is : m ≡ go next

told_goes : (m : Move) (w : List ℕ) → told m w ≡ left_out w → Goes m
told_goes (go s) w h = record { next = s; is = refl }
told_goes (left_out v) w h = absurd (no_stuck h)
told_goes stuck w h = absurd (no_stuck h)

told_only_goes : (m x : Move) (w : List ℕ) → told_only m x w ≡ left_out w → Goes m × (x ≡ stuck)
told_only_goes (go s) stuck w h = (record { next = s; is = refl }, refl)
told_only_goes (go s) (go r) w h = absurd (no_stuck h)
told_only_goes (go s) (left_out v) w h = absurd (no_stuck h)
told_only_goes (left_out v) x w h = absurd (no_stuck h)
told_only_goes stuck x w h = absurd (no_stuck h)

left_part_is : (m : Move) (w : List ℕ) → left_part m ≡ left_out w → m ≡ left_out w
left_part_is (go s) w h = absurd (no_stuck h)
left_part_is (left_out v) w h = h
left_part_is stuck w h = absurd (no_stuck h)

-- the token for the place of a form that is left out may stand
stands_in : (before : List Token) (s : State) {t u : Token} {w : List ℕ} → Pair t u w → reach start before ≡ Some s →
    step s t ≡ left_out w → Begins (before ++ (u ∷ []))
stands_in before s {t = t} {u = u} {w = w} c h e =
    let g = told_goes (step s u) w (sym (paired s c) ∙ ap left_part e) in
    reached_begins (before ++ (u ∷ [])) g.next (goes_next before u s g.next h g.is)

function_stands : (before : List Token) (s : State) (at : Place) → reach start before ≡ Some s →
    step s (key Function at) ≡ left_out (codes "function") → IsLeftOut before (key Function at) (codes "function")
unfolding reach
function_stands before s at h e =
    let g = told_only_goes (step s (key Echo at)) (step s (sign Hash at)) (codes "function")
    (sym (paired_function s at) ∙ ap left_part e) in
    left_function
    (reached_begins (before ++ (key Echo at ∷ [])) g.0.next (goes_next before (key Echo at) s g.0.next h g.0.is))
    (stuck_begins_nothing before (sign Hash at) s stuck h g.1 refl)

left_by : (before : List Token) (s : State) {t : Token} {w : List ℕ} → Form t w → reach start before ≡ Some s →
    step s t ≡ left_out w → IsLeftOut before t w
left_by before s form_include h e = left_include (stands_in before s pair_include h e)
left_by before s form_use h e = left_use (stands_in before s pair_use h e)
left_by before s form_mark h e = left_mark (stands_in before s pair_mark h e)
left_by before s form_operator h e = left_operator (stands_in before s pair_operator h e)
left_by before s (form_function {at = at}) h e = function_stands before s at h e

pub left_is : (before : List Token) (t : Token) (s : State) (w : List ℕ) → reach start before ≡ Some s →
    step s t ≡ left_out w →
    IsLeftOut before t w
left_is before t s w h e = left_by before s (left_form s t w e) h e

-- a token that may stand moves the reader
goes_by : (m : Move) (s' : State) → reach_by m [] ≡ Some s' → Goes m
unfolding reach
goes_by (go next) s' h = record { next = next; is = refl }
goes_by (left_out w) s' h = absurd (none-some _ h)
goes_by stuck s' h = absurd (none-some _ h)

begins_goes : (before : List Token) (u : Token) (s : State) → reach start before ≡ Some s →
    Begins (before ++ (u ∷ [])) → Goes (step s u)
begins_goes before u s h b =
    let r = begins_reached (before ++ (u ∷ [])) b in
    goes_by (step s u) r.0 (sym (reached_next before u s (step s u) h refl) ∙ r.1)

pair_left : (before : List Token) (s : State) {t u : Token} {w : List ℕ} → Pair t u w → reach start before ≡ Some s →
    Begins (before ++ (u ∷ [])) → step s t ≡ left_out w
pair_left before s {t = t} {u = u} {w = w} c h b =
    let g = begins_goes before u s h b in
    left_part_is (step s t) w (paired s c ∙ ap (λ (m : Move). told m w) g.is)

-- a token with which nothing begins stops the reader
no_hash : {at : Place} {w : List ℕ} → Form (sign Hash at) w → ⊥
no_hash f = elim f [ ]

stops : (before : List Token) (at : Place) (s : State) → reach start before ≡ Some s →
    (Begins (before ++ (sign Hash at ∷ [])) → ⊥) → (m : Move) → step s (sign Hash at) ≡ m → m ≡ stuck
stops before at s h n (go next) e =
    absurd (n (reached_begins (before ++ (sign Hash at ∷ [])) next (goes_next before (sign Hash at) s next h e)))
stops before at s h n (left_out w) e = absurd (no_hash (left_form s (sign Hash at) w e))
stops before at s h n stuck e = refl

function_left : (before : List Token) (s : State) (at : Place) → reach start before ≡ Some s →
    Begins (before ++ (key Echo at ∷ [])) → (Begins (before ++ (sign Hash at ∷ [])) → ⊥) →
    step s (key Function at) ≡ left_out (codes "function")
function_left before s at h b n =
    let g = begins_goes before (key Echo at) s h b in
    left_part_is (step s (key Function at)) (codes "function")
    (paired_function s at
    ∙ (ap (λ (m : Move). told_only m (step s (sign Hash at)) (codes "function")) g.is
    ∙ ap (λ (m : Move). told_only (go g.next) m (codes "function"))
    (stops before at s h n (step s (sign Hash at)) refl)))

pub left_step : (before : List Token) (t : Token) (s : State) (w : List ℕ) → reach start before ≡ Some s →
    IsLeftOut before t w →
    step s t ≡ left_out w
left_step before t s w h (left_include b) = pair_left before s pair_include h b
left_step before t s w h (left_use b) = pair_left before s pair_use h b
left_step before t s w h (left_mark b) = pair_left before s pair_mark h b
left_step before t s w h (left_operator b) = pair_left before s pair_operator h b
left_step before t s w h (left_function {at = at} b n) = function_left before s at h b n

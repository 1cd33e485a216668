-- The turns of the loop over the elements of a vector.
use Rattle.std.proofs.Common.{◌≡◌, ℕ, zero, suc, ◌<◌, ◌≤◌, Bool, true, false, List, [], ◌∷◌, Option, Ok, Err, length}
use Rattle.std.proofs.Common.{refl, sym, ap, subst, ◌∙◌, ◌++◌, arith}
use Rattle.std.specs.Prelude.{if◌then◌else◌}
use Rattle.std.proofs.lemmas.Bool.{cond-true, cond-false}
use Rattle.scad_fault.specs.declared.place.Place.{Place}
use Rattle.scad_lex.specs.declared.token.Token.{Token}
use Rattle.scad_lex.specs.declared.token.Sign.TheVariants.{Comma, Colon, CloseSquare}
use Rattle.scad_ast.specs.Tree.{Expression, Elements, Element, vector}
use Rattle.scad_grammar.specs.Tokens.{is_sign, begins_with}
use Rattle.scad_grammar.specs.Lists.{with_element}
use Rattle.scad_grammar.specs.Machine.{Refusal, syntax_at}
use Rattle.scad_grammar.specs.Steps.{range_start}
use Rattle.scad_grammar.specs.Rules.{Read, then_read, Rules, elem_of, elements_of, more_elements, range_by}
use Rattle.scad_ast.specs.Tree.{no_elements}
use Rattle.scad_ast.specs.View.{elements, element_of}
use Rattle.scad_ast.specs.declared.expression.Elem.{Elem}
use Rattle.scad_parse.specs.declared.reader.Reader.{Reader}
use Rattle.scad_parse.specs.Reading.{below, behind, place_of, comma_or, no_value}
use Rattle.scad_parse.specs.Standing.{Standing, Reads, Turn, Given, standing, nothing_read, lacks, stands_at, passed}
use Rattle.scad_parse.proofs.loops.Going.{Going, going_begins, going_on, going_ends, fewer_to_come, more_sign}
use Rattle.scad_parse.proofs.loops.Going.{last_sign, stands_sign, turn_passed}
use Rattle.scad_parse.proofs.loops.Pushes.{elements_push}
use Rattle.scad_parse.proofs.rules.Steps.{follows}
use Rattle.scad_parse.proofs.loops.Turns.{Goes, less, goes_on, stops, leaves, comma_leaves, fewer, to_come}

-- what a list of elements goes on with, behind one that no `:` follows
abbrev pub behind_element : Place → Option Rules → Place → ℕ → Elements → Element → List Token → Read Expression
behind_element end lower at n all el us = then_read (comma_or (is_sign CloseSquare) end no_value us)
    (λ _ vs. elements_of end lower n at (with_element all el) vs)

abbrev pub ranged : Place → Option Rules → Place → Elements → Element → List Token → Read Expression
ranged end lower at all el us = range_by end lower at (place_of end us) (range_start all el) (behind us)

more_colon : (end : Place) (lower : Option Rules) (at : Place) (n : ℕ) (all : Elements) (el : Element)
    (us : List Token) → begins_with Colon us ≡ true →
    more_elements end lower (elements_of end lower n at (with_element all el)) at all el us
    ≡ ranged end lower at all el us
more_colon end lower at n all el [] h = absurd (cc)
more_colon end lower at n all el (t ∷ us) h = cond-true _ _ _ h

more_comma : (end : Place) (lower : Option Rules) (at : Place) (n : ℕ) (all : Elements) (el : Element)
    (us : List Token) → begins_with Colon us ≡ false →
    more_elements end lower (elements_of end lower n at (with_element all el)) at all el us
    ≡ behind_element end lower at n all el us
unfolding elements_of
more_comma end lower at n all el [] h = refl
more_comma end lower at n all el (t ∷ us) h =
    cond-false _ _ _ h ∙ by n (is_sign Comma t) (is_sign CloseSquare t) refl
  where
    by : (n : ℕ) (comma ends : Bool) → is_sign CloseSquare t ≡ ends →
        (if comma then elements_of end lower n at (with_element all el) us
        else (if ends then Ok (vector at (with_element all el), us) else Err (syntax_at t.at)))
        ≡ then_read
        (if comma then Ok (no_value, us) else (if ends then Ok (no_value, t ∷ us) else Err (syntax_at t.at)))
        (λ _ vs. elements_of end lower n at (with_element all el) vs)
    by n true ends e = refl
    by zero false true e = sym (cond-true _ _ _ e)
    by (suc n) false true e = sym (cond-true _ _ _ e)
    by n false false e = refl

module _ (end : Place) (lower : Option Rules) (at : Place) where
  pub elements_turn : (all : Elements) (ts : List Token) → begins_with CloseSquare ts ≡ false → (n : ℕ) →
      length ts ≤ n → elements_of end lower n at all ts
      ≡ then_read (elem_of end lower ts)
      (λ el us. more_elements end lower (elements_of end lower (less n) at (with_element all el)) at all el us)
  unfolding elements_of elem_of
  elements_turn all [] h zero enough = refl
  elements_turn all [] h (suc n) enough = refl
  elements_turn all (t ∷ ts) h zero enough = absurd (let no : ⊥ = omega (arith, enough) in no)
  elements_turn all (t ∷ ts) h (suc n) enough = cond-false _ _ _ h

  elements_last : (all : Elements) (ts : List Token) → begins_with CloseSquare ts ≡ true → (n : ℕ) →
      length ts ≤ n → elements_of end lower n at all ts ≡ Ok (vector at all, behind ts)
  unfolding elements_of
  elements_last all [] h n enough = absurd (cc)
  elements_last all (t ∷ ts) h zero enough = cond-true _ _ _ h
  elements_last all (t ∷ ts) h (suc n) enough = cond-true _ _ _ h

-- elements of a vector that stands there, so far
abbrev pub elements_at : Place → ℕ → Place → ℕ → Elements → List Token → Read Expression
elements_at end room at n all ts = elements_of end (below end room) n at all ts

-- an element and what stands behind it take tokens
pub elements_fewer : (end : Place) (room : ℕ) (ts us vs : List Token) (el : Element) →
    elem_of end (below end room) ts ≡ Ok (el, us) →
    comma_or (is_sign CloseSquare) end no_value us ≡ Ok (no_value, vs) → length vs < length ts
elements_fewer end room ts us vs el read comma =
    leaves (length ts) _ no_value vs comma (comma_leaves (is_sign CloseSquare) end no_value us (length ts)
    (leaves (length ts) _ el us read ((fewer end room).elem ts)))

module _ (end : Place) (room : ℕ) (at : Place) (whole : Read Expression) (all : Elements) (ts : List Token)
    (more : begins_with CloseSquare ts ≡ false) (g : Goes (elements_at end room at) whole all ts) where
  read_turn : (r : Read Element) (n : ℕ) → length ts ≤ n → elem_of end (below end room) ts ≡ r →
      elements_at end room at n all ts ≡ then_read r (λ el us.
      more_elements end (below end room) (elements_of end (below end room) (less n) at (with_element all el)) at all
      el us)
  read_turn r n enough read =
      elements_turn end (below end room) at all ts more n enough
      ∙ ap (λ r. then_read r (λ el us. more_elements end (below end room)
      (elements_of end (below end room) (less n) at (with_element all el)) at all el us)) read

  pub elements_go : (us vs : List Token) (el : Element) → elem_of end (below end room) ts ≡ Ok (el, us) →
      begins_with Colon us ≡ false → comma_or (is_sign CloseSquare) end no_value us ≡ Ok (no_value, vs) →
      Goes (elements_at end room at) whole (with_element all el) vs
  elements_go us vs el read colon comma =
      goes_on (elements_at end room at) whole all (with_element all el) ts vs
      (λ n enough. read_turn (Ok (el, us)) n enough read
      ∙ (more_comma end (below end room) at (less n) all el us colon
      ∙ ap (λ r. then_read r (λ _ ws. elements_of end (below end room) (less n) at (with_element all el) ws)) comma))
      (elements_fewer end room ts us vs el read comma) g

  pub elements_stop : (fault : Refusal) → elem_of end (below end room) ts ≡ Err fault → whole ≡ Err fault
  elements_stop fault read =
      stops (elements_at end room at) whole (Err fault) all ts (λ n enough. read_turn (Err fault) n enough read) g

  pub elements_range : (us : List Token) (el : Element) → elem_of end (below end room) ts ≡ Ok (el, us) →
      begins_with Colon us ≡ true → whole ≡ ranged end (below end room) at all el us
  elements_range us el read colon =
      stops (elements_at end room at) whole (ranged end (below end room) at all el us) all ts
      (λ n enough. read_turn (Ok (el, us)) n enough read
      ∙ more_colon end (below end room) at (less n) all el us colon) g

  pub elements_stop_behind : (us : List Token) (el : Element) (fault : Refusal) →
      elem_of end (below end room) ts ≡ Ok (el, us) → begins_with Colon us ≡ false →
      comma_or (is_sign CloseSquare) end no_value us ≡ Err fault → whole ≡ Err fault
  elements_stop_behind us el fault read colon comma =
      stops (elements_at end room at) whole (Err fault) all ts
      (λ n enough. read_turn (Ok (el, us)) n enough read
      ∙ (more_comma end (below end room) at (less n) all el us colon
      ∙ ap (λ r. then_read r (λ _ ws. elements_of end (below end room) (less n) at (with_element all el) ws)) comma)) g

pub elements_end : (end : Place) (room : ℕ) (at : Place) (whole : Read Expression) (all : Elements) (ts : List Token) →
    begins_with CloseSquare ts ≡ true → Goes (elements_at end room at) whole all ts →
    whole ≡ Ok (vector at all, behind ts)
elements_end end room at whole all ts h =
    stops (elements_at end room at) whole (Ok (vector at all, behind ts)) all ts
    (elements_last end (below end room) at all ts h)

-- ---- the loop, as its reader goes on
pub record ElementsGo (room : ℕ) (at : Place) (q r : Reader) (items : List Elem) : Type 0 where
  pub ends : r.end ≡ q.end
  pub going : Going (elements_at q.end room at) no_elements (standing q) (elements items) (standing r)

pub elements_begin : (room : ℕ) (at : Place) (q : Reader) (items : List Elem) → items ≡ [] →
    ElementsGo room at q q items
elements_begin room at q items none =
    record {
      ends = refl;
      going = going_begins (elements_at q.end room at) no_elements (elements items) (standing q)
          (ap elements none);
    }

ranged_here : (room : ℕ) (at : Place) (items : List Elem) (e : Place) (whole : Read Expression) (ts : List Token)
    (x : Element) (s : Standing) →
    begins_with CloseSquare ts ≡ false → Goes (elements_at e room at) whole (elements items) ts →
    Given (elem_of e (below e room) ts) s x → stands_at (is_sign Colon) s ≡ true →
    whole ≡ then_read (elem_of e (below e room) ts) (λ el us. ranged e (below e room) at (elements items) el us)
ranged_here room at items e whole ts x (Ok us) more g read colon =
    elements_range e room at whole (elements items) ts more g us x read (stands_sign Colon true (Ok us) us colon refl)
    ∙ sym (ap (λ r. then_read r (λ el us. ranged e (below e room) at (elements items) el us)) read)
ranged_here room at items e whole ts x (Err fault) more g read colon = absurd (cc)

module _ (room : ℕ) (at : Place) {q r r1 : Reader} (items : List Elem) where
  module _ {r2 r3 : Reader} (after : List Elem) (x : Elem) (g : ElementsGo room at q r items)
      (more : lacks (is_sign CloseSquare) (standing r) ≡ true)
      (read : Reads (λ e ts. elem_of e (below e room) ts) r r1 (element_of x))
      (colon : stands_at (is_sign Colon) (standing r1) ≡ false)
      (push : Reads (nothing_read (items ++ (x ∷ []))) r1 r2 after)
      (comma : Reads (λ e ts. comma_or (is_sign CloseSquare) e no_value ts) r2 r3 no_value) where
    abbrev read_here : Turn (elem_of q.end (below q.end room)) (standing r) (standing r1) (element_of x)
    read_here = subst (λ e. Turn (elem_of e (below e room)) (standing r) (standing r1) (element_of x)) g.ends read.turn

    abbrev comma_here : Turn (comma_or (is_sign CloseSquare) q.end no_value) (standing r2) (standing r3) no_value
    comma_here = subst (λ e. Turn (comma_or (is_sign CloseSquare) e no_value) (standing r2) (standing r3) no_value)
        (push.ends ∙ (read.ends ∙ g.ends)) comma.turn

    pub elements_go_on : ElementsGo room at q r3 after
    elements_go_on = record {
      ends = comma.ends ∙ (push.ends ∙ (read.ends ∙ g.ends));
      going = going_on (elements_at q.end room at) no_elements elements (elem_of q.end (below q.end room))
          (comma_or (is_sign CloseSquare) q.end no_value) items (items ++ (x ∷ [])) after (element_of x) (standing q)
          (standing r) (standing r1) (standing r2) (standing r3) g.going read_here push.turn comma_here
          (λ ts0 ts us ws here there is end h. subst (λ all. Goes (elements_at q.end room at)
          (elements_at q.end room at (length ts0) no_elements ts0) all ws) (sym (elements_push items x))
          (elements_go q.end room at (elements_at q.end room at (length ts0) no_elements ts0) (elements items) ts
          (more_sign CloseSquare (standing r) ts more here) h us ws (element_of x) is
          (stands_sign Colon false (standing r1) us colon there) end))
          (λ ts0 ts fault here is h. elements_stop q.end room at
          (elements_at q.end room at (length ts0) no_elements ts0) (elements items) ts
          (more_sign CloseSquare (standing r) ts more here) h fault is)
          (λ ts0 ts us fault here there is end h. elements_stop_behind q.end room at
          (elements_at q.end room at (length ts0) no_elements ts0) (elements items) ts
          (more_sign CloseSquare (standing r) ts more here) h us (element_of x) fault is
          (stands_sign Colon false (standing r1) us colon there) end);
    }

    pub elements_fewer_come : to_come (standing r3) < to_come (standing r)
    elements_fewer_come = fewer_to_come (elements_at q.end room at) no_elements elements
        (elem_of q.end (below q.end room)) (comma_or (is_sign CloseSquare) q.end no_value) items (items ++ (x ∷ []))
        after (element_of x) (is_sign CloseSquare) (standing r) (standing r1) (standing r2) (standing r3) more read_here
        push.turn comma_here (λ ts us ws is end. elements_fewer q.end room ts us ws (element_of x) is end)

  pub elements_ranged : {s : Reader} {b : Expression} (x : Elem) → ElementsGo room at q r items →
      lacks (is_sign CloseSquare) (standing r) ≡ true →
      Reads (λ e ts. elem_of e (below e room) ts) r r1 (element_of x) →
      stands_at (is_sign Colon) (standing r1) ≡ true →
      Reads (λ e ts. ranged e (below e room) at (elements items) (element_of x) ts) r1 s b →
      Reads (λ e ts. elements_of e (below e room) (length ts) at no_elements ts) q s b
  elements_ranged {s} {b} x g more read colon range =
      let w = follows (λ e ts. elem_of e (below e room) ts)
      (λ e el us. ranged e (below e room) at (elements items) el us)
      read range in record {
        ends = w.ends ∙ g.ends;
        turn = going_ends (elements_at q.end room at) no_elements (elements items)
            (λ ts. then_read (elem_of q.end (below q.end room) ts)
            (λ el us. ranged q.end (below q.end room) at (elements items) el us)) (standing q) (standing r)
            (standing s) b g.going
            (subst (λ e. Turn (λ ts. then_read (elem_of e (below e room) ts)
            (λ el us. ranged e (below e room) at (elements items) el us)) (standing r) (standing s) b) g.ends w.turn)
            (λ ts0 ts here h. ranged_here room at items q.end
            (elements_at q.end room at (length ts0) no_elements ts0) ts (element_of x)
            (standing r1) (more_sign CloseSquare (standing r) ts more here) h
            (subst (λ s. Turn (elem_of q.end (below q.end room)) s (standing r1) (element_of x)) here
            (subst (λ e. Turn (elem_of e (below e room)) (standing r) (standing r1) (element_of x)) g.ends read.turn))
            colon);
      }

pub elements_ended : (room : ℕ) (at : Place) {q r s : Reader} (items after : List Elem) {b : Expression} →
    b ≡ vector at (elements after) → ElementsGo room at q r items → lacks (is_sign CloseSquare) (standing r) ≡ false →
    s.end ≡ r.end → standing s ≡ passed (standing r) → after ≡ items →
    Reads (λ e ts. elements_of e (below e room) (length ts) at no_elements ts) q s b
elements_ended room at {q} {r} {s} items after {b} is g last ends now same =
    let x : vector at (elements items) ≡ b = ap (λ all. vector at (elements all)) (sym same) ∙ sym is in record {
      ends = ends ∙ g.ends;
      turn = subst (λ b. Turn (λ ts. elements_of q.end (below q.end room) (length ts) at no_elements ts) (standing q)
          (standing s)
          b) x (going_ends (elements_at q.end room at) no_elements (elements items)
          (λ ts. Ok (vector at (elements items), behind ts)) (standing q) (standing r) (standing s)
          (vector at (elements items)) g.going
          (subst (λ s. Turn (λ ts. Ok (vector at (elements items), behind ts)) (standing r) s
          (vector at (elements items)))
          (sym now) (turn_passed (standing r) (vector at (elements items))))
          (λ ts0 ts here h. elements_end q.end room at _
          (elements items) ts (last_sign CloseSquare (standing r) ts last here) h));
    }

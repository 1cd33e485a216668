-- The turns of the loop over the statements of a group.
use Rattle.std.proofs.Common.{◌≡◌, ℕ, zero, suc, ◌<◌, ◌≤◌, Bool, true, false, List, [], ◌∷◌, Some, None, Ok, Err}
use Rattle.std.proofs.Common.{length, refl, sym, ap, subst, ◌∙◌, arith}
use Rattle.std.proofs.lemmas.Bool.{cond-true, cond-false}
use Rattle.scad_fault.specs.declared.place.Place.{Place}
use Rattle.scad_lex.specs.declared.token.Token.{Token}
use Rattle.scad_lex.specs.declared.token.Sign.TheVariants.{CloseCurly}
use Rattle.scad_ast.specs.Tree.{Items}
use Rattle.scad_grammar.specs.Tokens.{is_sign, begins_with}
use Rattle.scad_grammar.specs.Machine.{Refusal}
use Rattle.scad_grammar.specs.Rules.{Read, then_read}
use Rattle.scad_grammar.specs.StatementRules.{group_of, statement_of, statement_rules, above_statements}
use Rattle.scad_grammar.proofs.rules.FewerStatements.{FewerStatements, statements_fewer}
use Rattle.scad_parse.specs.Reading.{below, rules_at, behind}
use Rattle.scad_parse.specs.ReadingStatements.{below_statements, statement_rules_at}
use Rattle.scad_parse.specs.declared.reader.Reader.{Reader}
use Rattle.scad_parse.specs.Standing.{Reads, Turn, standing, lacks, passed}
use Rattle.scad_parse.proofs.loops.Going.{Going, going_begins, going_next, fewer_next, going_ends, more_sign, last_sign}
use Rattle.scad_parse.proofs.loops.Going.{turn_passed}
use Rattle.scad_parse.proofs.loops.Turns.{Goes, less, goes_on, stops, leaves, rules_are, to_come}

pub statement_rules_are : (end : Place) (room : ℕ) → statement_rules end room ≡ statement_rules_at end room
unfolding below below_statements
statement_rules_are end zero = ap (λ r. above_statements end r None) (rules_are end zero)
statement_rules_are end (suc room) =
    ap (λ r. above_statements end r (Some (statement_rules end room))) (rules_are end (suc room))
    ∙ ap (λ r. above_statements end (rules_at end (suc room)) (Some r)) (statement_rules_are end room)

pub fewer_statements : (end : Place) (room : ℕ) → FewerStatements (statement_rules_at end room)
fewer_statements end room = subst FewerStatements (statement_rules_are end room) (statements_fewer end room)

module _ (end : Place) (room : ℕ) (d : Bool) where
  abbrev pub group_at : ℕ → Items → List Token → Read Items
  group_at n all ts = group_of end (below_statements end room) n d all ts

  group_turn : (all : Items) (ts : List Token) → begins_with CloseCurly ts ≡ false → (n : ℕ) → length ts ≤ n →
      group_at n all ts
      ≡ then_read (statement_of end (below_statements end room) d all ts) (λ b us. group_at (less n) b us)
  unfolding group_of statement_of
  group_turn all [] h zero enough = refl
  group_turn all [] h (suc n) enough = refl
  group_turn all (t ∷ ts) h zero enough = absurd (let no : ⊥ = omega (arith, enough) in no)
  group_turn all (t ∷ ts) h (suc n) enough = cond-false _ _ _ h

  group_last : (all : Items) (ts : List Token) → begins_with CloseCurly ts ≡ true → (n : ℕ) → length ts ≤ n →
      group_at n all ts ≡ Ok (all, behind ts)
  unfolding group_of
  group_last all [] h n enough = absurd (cc)
  group_last all (t ∷ ts) h zero enough = cond-true _ _ _ h
  group_last all (t ∷ ts) h (suc n) enough = cond-true _ _ _ h

  -- a statement takes tokens
  pub group_fewer : (all b : Items) (ts us : List Token) →
      statement_of end (below_statements end room) d all ts ≡ Ok (b, us) → length us < length ts
  group_fewer all b ts us read = leaves (length ts) _ b us read ((fewer_statements end room).statement d all ts)

  module _ (whole : Read Items) (all : Items) (ts : List Token) (more : begins_with CloseCurly ts ≡ false)
      (g : Goes group_at whole all ts) where
    pub group_goes : (us : List Token) (b : Items) →
        statement_of end (below_statements end room) d all ts ≡ Ok (b, us) → Goes group_at whole b us
    group_goes us b read =
        goes_on group_at whole all b ts us (λ n enough. group_turn all ts more n enough
        ∙ ap (λ r. then_read r (λ b us. group_at (less n) b us)) read)
        (group_fewer all b ts us read) g

    pub group_stops : (fault : Refusal) → statement_of end (below_statements end room) d all ts ≡ Err fault →
        whole ≡ Err fault
    group_stops fault read =
        stops group_at whole (Err fault) all ts (λ n enough. group_turn all ts more n enough
        ∙ ap (λ r. then_read r (λ b us. group_at (less n) b us)) read) g

  pub group_ends : (whole : Read Items) (all : Items) (ts : List Token) → begins_with CloseCurly ts ≡ true →
      Goes group_at whole all ts → whole ≡ Ok (all, behind ts)
  group_ends whole all ts h = stops group_at whole (Ok (all, behind ts)) all ts (group_last all ts h)

-- ---- the loop, as its reader goes on
pub record GroupGo (room : ℕ) (d : Bool) (start : Items) (q r : Reader) (so_far : Items) : Type 0 where
  pub ends : r.end ≡ q.end
  pub going : Going (group_at q.end room d) start (standing q) so_far (standing r)

pub group_begin : (room : ℕ) (d : Bool) (start : Items) (q : Reader) → GroupGo room d start q q start
group_begin room d start q =
    record { ends = refl; going = going_begins (group_at q.end room d) start start (standing q) refl }

module _ (room : ℕ) (d : Bool) (start so_far next : Items) {q r s : Reader} (g : GroupGo room d start q r so_far)
    (more : lacks (is_sign CloseCurly) (standing r) ≡ true)
    (read : Reads (λ e ts. statement_of e (below_statements e room) d so_far ts) r s next) where
  abbrev statement_here : Turn (statement_of q.end (below_statements q.end room) d so_far) (standing r)
      (standing s) next
  statement_here = subst (λ e. Turn (statement_of e (below_statements e room) d so_far) (standing r) (standing s) next)
      g.ends read.turn

  pub group_next : GroupGo room d start q s next
  group_next = record {
    ends = read.ends ∙ g.ends;
    going = going_next (group_at q.end room d) start so_far next
        (statement_of q.end (below_statements q.end room) d so_far)
        (standing q) (standing r) (standing s) g.going statement_here
        (λ ts0 ts us here is h. group_goes q.end room d (group_at q.end room d (length ts0) start ts0) so_far ts
        (more_sign CloseCurly (standing r) ts more here) h us next is)
        (λ ts0 ts fault here is h. group_stops q.end room d (group_at q.end room d (length ts0) start ts0) so_far ts
        (more_sign CloseCurly (standing r) ts more here) h fault is);
  }

  pub group_fewer_come : to_come (standing s) < to_come (standing r)
  group_fewer_come = fewer_next next (statement_of q.end (below_statements q.end room) d so_far) (is_sign CloseCurly)
      (standing r) (standing s) more statement_here (λ ts us is. group_fewer q.end room d so_far next ts us is)

pub group_ended : (room : ℕ) (d : Bool) (start so_far : Items) {q r s : Reader} → GroupGo room d start q r so_far →
    lacks (is_sign CloseCurly) (standing r) ≡ false → s.end ≡ r.end → standing s ≡ passed (standing r) →
    Reads (λ e ts. group_of e (below_statements e room) (length ts) d start ts) q s so_far
group_ended room d start so_far {q} {r} {s} g last ends now = record {
  ends = ends ∙ g.ends;
  turn = going_ends (group_at q.end room d) start so_far (λ ts. Ok (so_far, behind ts)) (standing q) (standing r)
      (standing s) so_far g.going
      (subst (λ s. Turn (λ ts. Ok (so_far, behind ts)) (standing r) s so_far) (sym now)
      (turn_passed (standing r) so_far))
      (λ ts0 ts here h. group_ends q.end room d _ so_far ts (last_sign CloseCurly (standing r) ts last here) h);
}

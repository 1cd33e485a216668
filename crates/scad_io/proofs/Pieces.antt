-- One write of the rest of a text.
use Rattle.std.proofs.Common.{◌≡◌, ◌≢◌, ◌-◌, ◌<◌, ◌==◌, ℕ, true, false, List, [], Ok, length, take, drop, sym, ap, ◌∙◌, rules}
use Rattle.std.proofs.lemmas.Bool.Decides.{nat_tests}
use Rattle.std.proofs.lemmas.List.{append-nil, take-append-drop, length-drop}
use Rattle.std.proofs.Math.Seq.{take-length}
use Rattle.scad_io.specs.Desk.{View, sent, after_write}
use Rattle.scad_io.specs.Output.{SentPartly, SentBut}
use Rattle.scad_io.specs.declared.desk.Out.{Out}
use Rattle.scad_io.proofs.Output.{goes_on, stops, as_rest}

-- some of it went out
pub goes_on_by : {out : Out} {text rest : List ℕ} (n : ℕ) {old now new : View}
    → SentBut out text rest old now
    → n ≢ 0
    → new ≡ after_write out rest (Ok n) now
    → SentBut out text (take (length rest - n) (drop n rest)) old new
goes_on_by {out = out} {rest = rest} n {now = now} but some wrote =
    let went = wrote ∙ ap (λ failed. sent out (take n rest) failed now) (not_zero n some) in
    let parts = sym (take-append-drop n rest) in
    as_rest left (goes_on (take n rest) (drop n rest) (as_rest parts but) went)
  where
    not_zero : (n : ℕ) → n ≢ 0 → (n == 0) ≡ false
    not_zero n some = search (rules, nat_tests)

    left : drop n rest ≡ take (length rest - n) (drop n rest)
    left = rw (← length-drop n rest) (sym (take-length (drop n rest)))

-- none of it went out, so the text failed
pub stops_here : {out : Out} {text rest : List ℕ} {old now new : View}
    → SentBut out text rest old now
    → 0 < length rest
    → new ≡ sent out [] true now
    → SentPartly out text old new
stops_here {out = out} {rest = rest} {now = now} {new = new} but more failed =
    let partly : SentPartly out rest now new = record { count = 0; proper = more; view = failed } in
    stops rest [] (as_rest (sym (append-nil rest)) but) partly

-- the same at an answer of 0
pub stops_at_zero : {out : Out} {text rest : List ℕ} (n : ℕ) {old now new : View}
    → SentBut out text rest old now
    → 0 < length rest
    → n ≡ 0
    → new ≡ after_write out rest (Ok n) now
    → SentPartly out text old new
stops_at_zero {out = out} {rest = rest} n {now = now} but more none wrote =
    stops_here but more (wrote ∙ ap (λ n. after_write out rest (Ok n) now) none)

-- What is sent to an output, put together: nothing, piece after piece, and a whole text in pieces.
use Rattle.std.proofs.Common.{◌≡◌, ◌+◌, ◌≤◌, ℕ, Bool, true, false, List, [], ◌++◌, length, take, Option, Some, None, refl, sym, ap, ◌∙◌, subst, arith, append_assoc, length-append}
use Rattle.std.specs.Option.{option_map}
use Rattle.std.proofs.lemmas.List.{append-nil, take-append-le}
use Rattle.std.proofs.Math.Seq.{take-append-add, take-append_seam}
use Rattle.scad_io.specs.Desk.{Side, View, side, put, added, sent}
use Rattle.scad_io.specs.Output.{SentPartly, SentBut}
use Rattle.scad_io.specs.declared.desk.Out.{Out}
use Rattle.scad_io.specs.declared.desk.Out.TheVariants.{Report, Cli, Gcode}

-- An output and what is put there.

pub side-put : (out : Out) (s : Side) (v : View) → side out (put out s v) ≡ s
side-put Report s v = refl
side-put Cli s v = refl
side-put Gcode s v = refl

pub put-side : (out : Out) (v : View) → put out (side out v) v ≡ v
put-side Report v = refl
put-side Cli v = refl
put-side Gcode v = refl

pub put-put : (out : Out) (s t : Side) (v : View) → put out t (put out s v) ≡ put out t v
put-put Report s t v = refl
put-put Cli s t v = refl
put-put Gcode s t v = refl

pub input-put : (out : Out) (s : Side) (v : View) → (put out s v).input ≡ v.input
input-put Report s v = refl
input-put Cli s v = refl
input-put Gcode s v = refl

-- Bytes after bytes.

pub appended-nothing : (bytes : Option (List ℕ)) → option_map (λ before. before ++ []) bytes ≡ bytes
appended-nothing None = refl
appended-nothing (Some bs) = ap Some (append-nil bs)

pub appended-twice : (a b : List ℕ) (bytes : Option (List ℕ))
    → option_map (λ before. before ++ b) (option_map (λ before. before ++ a) bytes)
    ≡ option_map (λ before. before ++ (a ++ b)) bytes
appended-twice a b None = refl
appended-twice a b (Some bs) = ap Some (append_assoc bs a b)

added-nothing : (s : Side) → s.failed ≡ false → added [] false s ≡ s
added-nothing s sound = rw (appended-nothing s.bytes, ← sound) refl

added-twice : (a b : List ℕ) (m n : Bool) (s : Side) → added b n (added a m s) ≡ added (a ++ b) n s
added-twice a b m n s = ap (λ bytes. record s { bytes = bytes; failed = n }) (appended-twice a b s.bytes)

pub sent-nothing : (out : Out) (v : View) → (side out v).failed ≡ false → sent out [] false v ≡ v
sent-nothing out v sound = ap (λ s. put out s v) (added-nothing (side out v) sound) ∙ put-side out v

pub sent-twice : (out : Out) (a b : List ℕ) (m n : Bool) (v : View)
    → sent out b n (sent out a m v) ≡ sent out (a ++ b) n v
sent-twice out a b m n v =
    rw (put-put, side-put) (ap (λ s. put out s v) (added-twice a b m n (side out v)))

pub failed-sent : (out : Out) (bytes : List ℕ) (m : Bool) (v : View)
    → (side out (sent out bytes m v)).failed ≡ m
failed-sent out bytes m v = rw side-put refl

pub created-sent : (out : Out) (bytes : List ℕ) (m : Bool) (v : View)
    → (side out (sent out bytes m v)).created ≡ (side out v).created
created-sent out bytes m v = rw side-put refl

-- A text in pieces.

-- at first all of it is the rest
pub begun : (out : Out) (text : List ℕ) (v : View)
    → (side out v).failed ≡ false → SentBut out text text v v
begun out text v sound =
    record { front = []; parts = refl; view = sym (sent-nothing out v sound) }

-- a piece is taken off the rest
pub goes_on : {out : Out} {text : List ℕ} (piece rest : List ℕ) {old now new : View}
    → SentBut out text (piece ++ rest) old now
    → new ≡ sent out piece false now
    → SentBut out text rest old new
goes_on {out = out} piece rest {old = old} but went =
    record {
      front = but.front ++ piece;
      parts = append_assoc but.front piece rest ∙ but.parts;
      view = went
          ∙ ap (sent out piece false) but.view
          ∙ sent-twice out but.front piece false false old;
    }

-- with no rest the text went out whole
pub ended : {out : Out} {text : List ℕ} {old now : View}
    → SentBut out text [] old now → now ≡ sent out text false old
ended {out = out} {old = old} but =
    let whole = sym (append-nil but.front) ∙ but.parts in
    but.view ∙ ap (λ bytes. sent out bytes false old) whole

-- where a piece failed, so did the text
pub stops : {out : Out} {text : List ℕ} (piece rest : List ℕ) {old now new : View}
    → SentBut out text (piece ++ rest) old now
    → SentPartly out piece now new
    → SentPartly out text old new
stops {out = out} {text = text} piece rest {old = old} but partly =
    let k = partly.count in
    let inside : k ≤ length piece = let proper = partly.proper in omega arith in
    let whole = sym (length-append but.front (piece ++ rest)) ∙ ap length but.parts in
    let more = length-append piece rest in
    let front : but.front ++ take k piece ≡ take (length but.front + k) text =
    ap (λ p. but.front ++ p) (sym (take-append-le k piece rest inside))
    ∙ sym (take-append-add but.front (piece ++ rest) k)
    ∙ ap (take (length but.front + k)) but.parts
    in
    record {
      count = length but.front + k;
      proper = let proper = partly.proper in omega (arith, whole, more);
      view = partly.view
          ∙ ap (sent out (take k piece) true) but.view
          ∙ sent-twice out but.front (take k piece) false true old
          ∙ ap (λ bytes. sent out bytes true old) front;
    }

-- what went out is a front of the text
pub rests : {out : Out} {text rest : List ℕ} {old now : View}
    → SentBut out text rest old now
    → (n : ℕ) × (n + length rest ≡ length text) × (now ≡ sent out (take n text) false old)
rests {out = out} {text = text} {rest = rest} {old = old} but =
    let front : but.front ≡ take (length but.front) text =
    sym (take-append_seam but.front rest) ∙ ap (take (length but.front)) but.parts
    in (
      length but.front,
      sym (length-append but.front rest) ∙ ap length but.parts,
      but.view ∙ ap (λ bytes. sent out bytes false old) front,
    )

-- the same rest, written in another way
pub as_rest : {out : Out} {text a b : List ℕ} {old now : View}
    → a ≡ b → SentBut out text a old now → SentBut out text b old now
as_rest {out = out} {text = text} {old = old} {now = now} same but =
    subst (λ (rest : List ℕ). SentBut out text rest old now) same but

-- what is left of an empty text
pub none_left : {out : Out} {text rest : List ℕ} {old now : View}
    → SentBut out text rest old now → text ≡ [] → length rest ≡ 0
none_left {rest = rest} but empty =
    let whole = sym (length-append but.front rest) ∙ ap length (but.parts ∙ empty) in
    omega (arith, whole)

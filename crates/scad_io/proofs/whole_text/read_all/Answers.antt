-- A file that is read to its end is read whole, up to the limit.
use Rattle.std.proofs.Common.{◌≡◌, ◌≢◌, ◌+◌, ◌-◌, ◌^◌, ◌<◌, ◌≤◌, ℕ, List, length, take, vec_len, Option, Some, None}
use Rattle.std.proofs.Common.{refl, ◌∙◌, sym, ap, subst, arith, le_refl, le_trans, length-take}
use Rattle.std.specs.Prelude.{IfSome, IsSomeAnd}
use Rattle.std.proofs.lemmas.Result.{err_from_is_err_and}
use Rattle.scad_io.proofs.Input.{begun, goes_on, ended, longer, past_limit, stops, still_sound}
use Rattle.scad_io.proofs.whole_text.read_all.Goals as goal

-- so many bytes are at most one more than the limit
abbrev Fits : Option ℕ → ℕ → Type 0
Fits limit n = IfSome limit (λ most. n ≤ most + 1)

none_fits : (limit : Option ℕ) {n : ℕ} → n ≡ 0 → Fits limit n
none_fits None none = tt
none_fits (Some most) none = omega arith

fewer_fit : (limit : Option ℕ) {m n : ℕ} → n ≤ m → Fits limit m → Fits limit n
fewer_fit None fewer fits = tt
fewer_fit (Some most) fewer fits = le_trans fewer fits

-- where one more byte fits, the limit wasn't passed
within_limit : (limit : Option ℕ) {m n k : ℕ} → m ≡ n → 0 < k → Fits limit (m + k) → IfSome limit (λ most. n ≤ most)
within_limit None same some fits = tt
within_limit (Some most) same some fits = omega arith

as_many : {now read piece : ℕ} (before most : ℕ) (bytes : List ℕ)
    → now ≡ before + read → read ≤ piece → piece ≡ length (take most bytes) → now ≤ before + most
as_many before most bytes grown within front = omega (arith, length-take most bytes)

less_is_left : {now read : ℕ} (before : ℕ) → now ≡ before + read → read ≢ 0 → now < 2 ^ 63
    → 2 ^ 64 - now < 2 ^ 64 - before
less_is_left before grown some small = omega arith

pub pieces-init : goal.pieces-init
pieces-init g c = (
  begun c.new-text.result.items _ c.new-text.ensures.items c.requires.sound,
  none_fits c.args.limit c.new-text.ensures.len,
  refl,
  le_refl _,
)

pub returns-in_default-clause-long : goal.returns-in_default-clause-long
returns-in_default-clause-long g c =
    let text = c.pieces.text in
    let Past : ℕ → Type 0 = λ n. IsSomeAnd c.args.limit (λ most. most < n) in
    let fits : Fits c.args.limit (length text.items) = subst (Fits c.args.limit) text.ok.0 c.pieces.invariant.1 in
    let past : Past (length text.items) = subst Past (c.len.ensures ∙ text.ok.0) c.in_default.ensures.past in
    λ _. past_limit c.args.limit c.pieces.invariant.0 fits past

pub pull-requires-clause-sound : goal.pull-requires-clause-sound
pull-requires-clause-sound g c = still_sound c.pieces.invariant.0

pub returns-in_err-n-clause-long : goal.returns-in_err-n-clause-long
returns-in_err-n-clause-long g c =
    let end = err_from_is_err_and c.from_residual.result c.from_residual.ensures.1 in
    rw (end.1, end.2) (λ is. absurd (c.in_err-n.ensures.short (cc)))

pub returns-in_err-n-clause-fault : goal.returns-in_err-n-clause-fault
returns-in_err-n-clause-fault g c =
    let end = err_from_is_err_and c.from_residual.result c.from_residual.ensures.1 in
    rw (end.1, end.2) (λ is. stops c.pieces.invariant.0 (c.in_err-n.ensures.fault (cc)))

pub returns-in_err-n-clause-memory : goal.returns-in_err-n-clause-memory
returns-in_err-n-clause-memory g c =
    let end = err_from_is_err_and c.from_residual.result c.from_residual.ensures.1 in
    rw (end.1, end.2) (λ is. stops c.pieces.invariant.0 (c.in_err-n.ensures.memory (cc)))

pub returns-in_err-n-clause-cause : goal.returns-in_err-n-clause-cause
returns-in_err-n-clause-cause g c =
    let end = err_from_is_err_and c.from_residual.result c.from_residual.ensures.1 in
    rw (end.1, end.2) (λ is. risen c.pieces.invariant.3 (c.in_err-n.ensures.cause (cc)))
  where
    risen : {a b c : ℕ} → a ≤ b → b < c → a < c
    risen before now = omega arith

pub returns-then-n-eq0-clause-text : goal.returns-then-n-eq0-clause-text
returns-then-n-eq0-clause-text g c =
    let read = c.in_ok-n.ensures in
    let next = c.in-Some.ensures in
    let within = within_limit c.args.limit (c.len.ensures ∙ c.pieces.text.ok.0) next.piece.0 next.within in
    ended c.args.limit c.pull.new.piece c.in_ok-n.n c.pieces.invariant.0 c.if-n-eq0.true read.bytes
    (c.from_vec.ensures ∙ read.text) read.view within

pub pieces-preserved : goal.pieces-preserved
pieces-preserved g c =
    let read = c.in_ok-n.ensures in
    let text = c.pieces.text in
    let piece = c.pull.new.piece in
    let grown : vec_len c.pull.new.text ≡ c.len.result + c.in_ok-n.n = c.pull.new.text.ok.0
    ∙ longer text.items piece c.in_ok-n.n read.text read.bound
    ∙ ap (λ k. k + c.in_ok-n.n) (sym (c.len.ensures ∙ text.ok.0)) in
    let fewer : vec_len c.pull.new.text ≤ c.len.result + c.in-Some.most =
    as_many c.len.result c.in-Some.most c.pieces.piece grown read.bound c.pull.auto.piece in (
      goes_on piece c.in_ok-n.n c.pieces.invariant.0 read.bound read.bytes read.text read.view,
      fewer_fit c.args.limit fewer c.in-Some.ensures.within,
      read.files ∙ c.pieces.invariant.2,
      le_trans c.pieces.invariant.3 read.later,
    )

pub pieces-smaller : goal.pieces-smaller
pieces-smaller g c =
    let before = c.pieces.text in
    let text = c.pull.new.text in
    let read = c.in_ok-n.ensures in
    let grown : vec_len text ≡ vec_len before + c.in_ok-n.n = text.ok.0
    ∙ longer before.items c.pull.new.piece c.in_ok-n.n read.text read.bound
    ∙ ap (λ k. k + c.in_ok-n.n) (sym before.ok.0) in
    less_is_left before.len grown c.if-n-eq0.false (within_room text.ok.1 text.small)
  where
    within_room : {len cap : ℕ} → len ≤ cap → cap < 2 ^ 63 → len < 2 ^ 63
    within_room within small = omega arith

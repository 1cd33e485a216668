-- What is taken from the input, put together: bytes after others, and a text in pieces.
use Rattle.std.proofs.Common.{◌≡◌, ◌+◌, ◌<◌, ◌≤◌, ℕ, Bool, true, false, List, [], ◌++◌, length, take, drop}
use Rattle.std.proofs.Common.{Option, Some, None, refl, sym, ap, ◌∙◌, subst, arith, append_assoc, length-append}
use Rattle.std.specs.Prelude.{IfSome, IsSomeAnd}
use Rattle.std.specs.Option.{option_map}
use Rattle.std.proofs.lemmas.List.{append-nil, drop-drop, length-take-le, take-append-drop}
use Rattle.scad_io.specs.Desk.{View, Gives, taken}
use Rattle.scad_io.specs.Reading.{ReadsAll, ReadsPast, ReadsPart}

-- this text was read, and what is left goes on from it
pub record ReadSoFar (text : List ℕ) (old now : View) : Type 0 where
  pub front : IfSome old.input.bytes (λ rest. text ++ drop (length text) rest ≡ rest)
  pub view : now ≡ taken (length text) false old

nothing_dropped : (bytes : Option (List ℕ)) → option_map (drop 0) bytes ≡ bytes
nothing_dropped None = refl
nothing_dropped (Some bytes) = refl

nothing_taken : (v : View) → v.input.failed ≡ false → taken 0 false v ≡ v
nothing_taken v sound = rw (nothing_dropped v.input.bytes, ← sound) refl

-- at first nothing was read
pub begun : (text : List ℕ) (v : View) → text ≡ [] → v.input.failed ≡ false → ReadSoFar text v v
begun text v empty sound = rw empty (record { front = all v.input.bytes; view = sym (nothing_taken v sound) })
  where
    all : (bytes : Option (List ℕ)) → IfSome bytes (λ rest. [] ++ drop (length {A = ℕ} []) rest ≡ rest)
    all None = tt
    all (Some rest) = refl

pub still_sound : {text : List ℕ} {old now : View} → ReadSoFar text old now → now.input.failed ≡ false
still_sound so_far = ap (λ v. v.input.failed) so_far.view

pub taken-twice : (k n : ℕ) (m : Bool) (v : View)
    → taken n m (taken k false v) ≡ taken (k + n) m v
taken-twice k n m v =
    let after : Option (List ℕ) → View =
    λ bytes. record v { input = record v.input { bytes = bytes; failed = m } }
    in
    ap after (both v.input.bytes)
  where
    both : (rest : Option (List ℕ))
        → option_map (drop n) (option_map (drop k) rest) ≡ option_map (drop (k + n)) rest
    both None = refl
    both (Some r) = ap Some (drop-drop n k r)

-- where a piece was read in part, so was the input
pub stops : {text : List ℕ} {failed : Bool} {old now new : View}
    → ReadSoFar text old now → ReadsPart failed now new → ReadsPart failed old new
stops {text = text} {failed = failed} {old = old} so_far part =
    let here = ap (λ v. v.input.bytes) so_far.view in
    let Fits : Option (List ℕ) → Type 0 = λ rest. IfSome rest (λ r. part.count ≤ length r) in
    let left = subst Fits here part.there in
    record {
      count = length text + part.count;
      there = inside text part.count old.input.bytes so_far.front left;
      view = part.view
          ∙ ap (taken part.count failed) so_far.view
          ∙ taken-twice (length text) part.count failed old;
    }
  where
    inside : (text : List ℕ) (n : ℕ) (rest : Option (List ℕ))
        → IfSome rest (λ r. text ++ drop (length text) r ≡ r)
        → IfSome (option_map (drop (length text)) rest) (λ r. n ≤ length r)
        → IfSome rest (λ r. length text + n ≤ length r)
    inside text n None front left = tt
    inside text n (Some r) front left =
        let parts = sym (length-append text (drop (length text) r)) ∙ ap length front in
        omega (arith, parts)

-- at an error nothing was read
pub fails : {old new : View} → new ≡ taken 0 true old → ReadsPart true old new
fails {old = old} view = record { count = 0; there = none old.input.bytes; view = view }
  where
    none : (bytes : Option (List ℕ)) → IfSome bytes (λ rest. 0 ≤ length rest)
    none None = tt
    none (Some rest) = omega arith

-- what was read is a part of what was left
pub part_read : {old new : View} (n : ℕ) (into : List ℕ)
    → IfSome old.input.bytes (λ rest. Gives rest n into)
    → new ≡ taken n false old
    → ReadsPart false old new
part_read {old = old} n into gives view = record { count = n; there = there old.input.bytes gives; view = view }
  where
    there : (bytes : Option (List ℕ))
        → IfSome bytes (λ rest. Gives rest n into)
        → IfSome bytes (λ rest. n ≤ length rest)
    there None gives = tt
    there (Some rest) gives = gives.there

-- what the next bytes add to a text's length
pub longer : {more : List ℕ} (text into : List ℕ) (n : ℕ) → more ≡ text ++ take n into → n ≤ length into
    → length more ≡ length text + n
longer text into n added within =
    ap length added
    ∙ length-append text (take n into)
    ∙ ap (λ k. length text + k) (length-take-le n into within)

-- with the next bytes more was read
pub goes_on : {text more : List ℕ} {old now new : View} (into : List ℕ) (n : ℕ)
    → ReadSoFar text old now
    → n ≤ length into
    → IfSome now.input.bytes (λ rest. Gives rest n into)
    → more ≡ text ++ take n into
    → new ≡ taken n false now
    → ReadSoFar more old new
goes_on {text = text} {more = more} {old = old} into n so_far within gives added went =
    let Given : Option (List ℕ) → Type 0 = λ rest. IfSome rest (λ r. Gives r n into) in
    let next = subst Given (ap (λ v. v.input.bytes) so_far.view) gives in
    record {
      front = joined old.input.bytes so_far.front next;
      view = went
          ∙ ap (taken n false) so_far.view
          ∙ taken-twice (length text) n false old
          ∙ ap (λ k. taken k false old) (sym (longer text into n added within));
    }
  where
    joined : (rest : Option (List ℕ))
        → IfSome rest (λ r. text ++ drop (length text) r ≡ r)
        → IfSome (option_map (drop (length text)) rest) (λ r. Gives r n into)
        → IfSome rest (λ r. more ++ drop (length more) r ≡ r)
    joined None front next = tt
    joined (Some r) front next =
        let left = drop (length text) r in
        ap (λ k. more ++ drop k r) (longer text into n added within)
        ∙ ap (λ bytes. bytes ++ drop (length text + n) r) (added ∙ ap (λ bytes. text ++ bytes) next.next)
        ∙ append_assoc text (take n left) (drop (length text + n) r)
        ∙ ap (λ bytes. text ++ (take n left ++ bytes)) (sym (drop-drop n (length text) r))
        ∙ ap (λ bytes. text ++ bytes) (take-append-drop n left)
        ∙ front

-- where nothing more came, all was read
pub ended : {text more : List ℕ} {old now new : View} (limit : Option ℕ) (into : List ℕ) (n : ℕ)
    → ReadSoFar text old now
    → n ≡ 0
    → IfSome now.input.bytes (λ rest. Gives rest n into)
    → more ≡ text ++ take n into
    → new ≡ taken n false now
    → IfSome limit (λ most. length text ≤ most)
    → ReadsAll limit more old new
ended {text = text} {more = more} {old = old} {now = now} {new = new} limit into n so_far none gives added went within =
    let Given : Option (List ℕ) → Type 0 = λ rest. IfSome rest (λ r. Gives r n into) in
    let next = subst Given (ap (λ v. v.input.bytes) so_far.view) gives in
    let same : more ≡ text = added ∙ ap (λ k. text ++ take k into) none ∙ append-nil text in
    let reads : ReadsAll limit text old new = record {
      all = whole old.input.bytes so_far.front next;
      within = within;
      view = went
          ∙ ap (λ k. taken k false now) none
          ∙ nothing_taken now (still_sound so_far)
          ∙ so_far.view;
    } in
    subst (λ (bytes : List ℕ). ReadsAll limit bytes old new) (sym same) reads
  where
    whole : (rest : Option (List ℕ))
        → IfSome rest (λ r. text ++ drop (length text) r ≡ r)
        → IfSome (option_map (drop (length text)) rest) (λ r. Gives r n into)
        → IfSome rest (λ r. text ≡ r)
    whole None front next = tt
    whole (Some r) front next =
        sym (append-nil text) ∙ ap (λ left. text ++ left) (sym (next.ends none)) ∙ front

-- where more than the limit was read, it was one byte more
pub past_limit : {text : List ℕ} {old now : View} (limit : Option ℕ)
    → ReadSoFar text old now
    → IfSome limit (λ most. length text ≤ most + 1)
    → IsSomeAnd limit (λ most. most < length text)
    → IsSomeAnd limit (λ most. ReadsPast most old now)
past_limit None so_far within past = past
past_limit {text = text} {old = old} (Some most) so_far within past = record {
  more = longest old.input.bytes so_far.front;
  view = so_far.view ∙ ap (λ k. taken k false old) one_more;
}
  where
    one_more : length text ≡ most + 1
    one_more = omega arith

    longest : (rest : Option (List ℕ))
        → IfSome rest (λ r. text ++ drop (length text) r ≡ r)
        → IfSome rest (λ r. most < length r)
    longest None front = tt
    longest (Some r) front =
        let parts = sym (length-append text (drop (length text) r)) ∙ ap length front in
        omega (arith, parts)

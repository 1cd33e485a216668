-- The first fault of a table whose keys ascend is that of the least key that has one.
use Rattle.std.proofs.Common.{◌≡◌, ℕ, Bool, true, false, Ordering, Less, Equal, Greater, nat_cmp, is_lt, List, Option}
use Rattle.std.proofs.Common.{Some, None, Ok, Err}
use Rattle.std.proofs.Common.{ℤ, refl, sym, ap, ◌∙◌, subst, inl, inr}
use Rattle.std.proofs.lemmas.Bool.{false≢true}
use Rattle.std.proofs.lemmas.Cmp.{nat_list_cmp_total}
use Rattle.std.proofs.lemmas.Map.Lookups.{exact_bytes}
use Rattle.std.proofs.lemmas.Option.{none-some, same_Some}
use Rattle.std.specs.Cmp.{tied_itself}
use Rattle.std.specs.Cmp.Lexicographic.{slice_cmp}
use Rattle.toml.specs.Data.{Data, Members, no_members, member, get_member, is_before, as_integer}
use Rattle.scad_fault.specs.declared.settings.SetFault.{SetFault}
use Rattle.scad_words.specs.declared.rows.Row.{Row}
use Rattle.scad_words.specs.declared.settings.Settings.{Settings}
use Rattle.scad_words.specs.Rows.{row_of, is_in_range}
use Rattle.scad_words.specs.Settings.{number_fault, row_fault, key_fault, fault_or, first_fault, settings_unless}
use Rattle.scad_words.specs.Settings.{settings_by}
use Rattle.scad_words.specs.Keys.{Ascend, ComesBefore, IsLeastFault, HasNoFault, LeastFaultsAreTold}
use Rattle.scad_words.proofs.Ascending.{cases_ordering, keys_ascend}

lt_from : (o : Ordering) → is_lt o ≡ true → o ≡ Less
lt_from Less h = refl
lt_from Equal h = absurd (false≢true h)
lt_from Greater h = absurd (false≢true h)

-- ---- a fault has the key that it is of
number_key : (key : List ℕ) (row : Row) (z : ℤ) (fault : SetFault) (b : Bool) → is_in_range row z ≡ b
    → number_fault key row (Some z) ≡ Some fault → fault.key ≡ key
number_key key row z fault true is h = absurd (none-some fault (rw is at h))
number_key key row z fault false is h = sym (ap (λ f. f.key) (same_Some _ fault (rw is at h)))

value_key : (key : List ℕ) (row : Row) (number : Option ℤ) (fault : SetFault) → number_fault key row number ≡ Some fault
    → fault.key ≡ key
value_key key row None fault h = sym (ap (λ f. f.key) (same_Some _ fault h))
value_key key row (Some z) fault h = number_key key row z fault (is_in_range row z) refl h

row_key : (key : List ℕ) (value : Data) (row : Option Row) (fault : SetFault) → row_fault key value row ≡ Some fault
    → fault.key ≡ key
row_key key value None fault h = sym (ap (λ f. f.key) (same_Some _ fault h))
row_key key value (Some row) fault h = value_key key row (as_integer value) fault h

fault_key : (key : List ℕ) (value : Data) (fault : SetFault) → key_fault key value ≡ Some fault → fault.key ≡ key
fault_key key value fault h = row_key key value (row_of key) fault h

-- ---- keys before a table
before_is : (k l : List ℕ) (d : Data) (ms : Members) → is_before k (member l d ms) ≡ true → ComesBefore k l
before_is k l d ms h = lt_from (slice_cmp nat_cmp k l) h

-- what comes before a key that comes before a table comes before the table
before_before : (k l : List ℕ) (ms : Members) → ComesBefore k l → is_before l ms ≡ true → is_before k ms ≡ true
before_before k l no_members less h = refl
before_before k l (member m d ms) less h = ap is_lt (nat_list_cmp_total.trans k l m less (before_is l m d ms h))

-- a table has no key that comes before it
not_there : (k : List ℕ) (ms : Members) → Ascend ms → is_before k ms ≡ true → get_member k ms ≡ None
not_there k no_members ascends before = refl
not_there k (member l d ms) ascends before =
    let less = before_is k l d ms before in
    rw less (not_there k ms ascends.1 (before_before k l ms less ascends.0))

-- ---- what a table has at a key
at_first : (k l : List ℕ) (d : Data) (ms : Members) → slice_cmp nat_cmp k l ≡ Equal
    → get_member k (member l d ms) ≡ Some d
at_first k l d ms tie = rw tie refl

-- a key that the rest has isn't the first
behind_first : (k l : List ℕ) (d value : Data) (ms : Members) → Ascend (member l d ms) → get_member k ms ≡ Some value
    → get_member k (member l d ms) ≡ Some value
behind_first k l d value ms ascends there =
    elim (cases_ordering (slice_cmp nat_cmp k l)) [
      | inl less ↦ rw less there
      | inr other ↦ elim other [
        | inl tie ↦ absurd (none-some value (sym (not_there k ms ascends.1
            (subst (λ (x : List ℕ). is_before x ms ≡ true) (sym (exact_bytes k l tie)) ascends.0)) ∙ there))
        | inr more ↦ rw more there
      ]
    ]

-- a fact of the first key and of the rest is one of every key
each_key : (P : List ℕ → Data → Type 0) (k l : List ℕ) (d value : Data) (ms : Members)
    → get_member k (member l d ms) ≡ Some value
    → (k ≡ l → P l d) → (get_member k ms ≡ Some value → P k value) → P k value
each_key P k l d value ms there first more =
    elim (cases_ordering (slice_cmp nat_cmp k l)) [
      | inl less ↦ more (rw less at there)
      | inr other ↦ elim other [
        | inl tie ↦ let same = exact_bytes k l tie in
            subst (λ (x : List ℕ). P x value) (sym same)
            (subst (P l) (same_Some d value (sym (at_first k l d ms tie) ∙ there)) (first same))
        | inr greater ↦ more (rw greater at there)
      ]
    ]

-- ---- the first fault
abbrev HasNone : List ℕ → Data → Type 0
HasNone key value = key_fault key value ≡ None

-- the first key has it, or the rest
first_or_later : (k : List ℕ) (d : Data) (ms : Members) (fault : SetFault)
    → (first_fault ms ≡ Some fault → IsLeastFault ms fault) → (here : Option SetFault) → key_fault k d ≡ here
    → Ascend (member k d ms) → fault_or here (first_fault ms) ≡ Some fault
    → IsLeastFault (member k d ms) fault
first_or_later k d ms fault later (Some found) has ascends is =
    let same = same_Some found fault is in
    let mine = has ∙ ap Some same in
    let key_is = fault_key k d fault mine in
    record {
      value = d;
      there = at_first fault.key k d ms (ap (λ x. slice_cmp nat_cmp x k) key_is ∙ tied_itself nat_list_cmp_total k);
      has = subst (λ (x : List ℕ). key_fault x d ≡ Some fault) (sym key_is) mine;
      least = λ key other before there.
          let less = subst (ComesBefore key) key_is before in
          absurd (none-some other (sym (not_there key (member k d ms) ascends (ap is_lt less)) ∙ there));
    }
first_or_later k d ms fault later None has ascends is =
    let rest = later is in
    record {
      value = rest.value;
      there = behind_first fault.key k d rest.value ms ascends rest.there;
      has = rest.has;
      least = λ key other before there. each_key HasNone key k d other ms there (λ same. has)
          (rest.least key other before);
    }

least : (ms : Members) (fault : SetFault) → Ascend ms → first_fault ms ≡ Some fault → IsLeastFault ms fault
least no_members fault ascends is = absurd (none-some fault is)
least (member k d ms) fault ascends is =
    first_or_later k d ms fault (least ms fault ascends.1) (key_fault k d) refl ascends is

no_later : (k : List ℕ) (d : Data) (ms : Members) → (first_fault ms ≡ None → HasNoFault ms) → (here : Option SetFault)
    → key_fault k d ≡ here → fault_or here (first_fault ms) ≡ None → HasNoFault (member k d ms)
no_later k d ms later (Some found) has is = absurd (none-some found (sym is))
no_later k d ms later None has is = λ key value there. each_key HasNone key k d value ms there (λ same. has)
    (later is key value)

no_fault : (ms : Members) → first_fault ms ≡ None → HasNoFault ms
no_fault no_members is = λ key value there. absurd (none-some value there)
no_fault (member k d ms) is = no_later k d ms (no_fault ms) (key_fault k d) refl is

-- ---- the law
refused_by : (found : Option SetFault) (ms : Members) (fault : SetFault) → settings_unless found ms ≡ Err fault
    → found ≡ Some fault
refused_by None ms fault is = let never : ⊥ = cc in absurd never
refused_by (Some found) ms fault is = ap Some cc

accepted_by : (found : Option SetFault) (ms : Members) (settings : Settings)
    → settings_unless found ms ≡ Ok settings → found ≡ None
accepted_by None ms settings is = refl
accepted_by (Some found) ms settings is = let never : ⊥ = cc in absurd never

pub least_faults : LeastFaultsAreTold
least_faults = record {
  refused = λ bytes ms fault is told.
      least ms fault (keys_ascend bytes ms is) (refused_by (first_fault ms) ms fault (sym (ap settings_by is) ∙ told));
  accepted = λ bytes ms settings is told.
      no_fault ms (accepted_by (first_fault ms) ms settings (sym (ap settings_by is) ∙ told));
}

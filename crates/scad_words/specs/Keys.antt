-- The keys of a settings text, and which of its faults is told. Byte order goes by the keys' bytes, one after another.
use Rattle.std.specs.Prelude.{◌≡◌, ℕ, true, List, Some, None, Ok, Err}
use Rattle.std.specs.declared.cmp.Ordering.TheVariants.{Less}
use Rattle.std.specs.Ordering.{nat_cmp}
use Rattle.std.specs.Cmp.Lexicographic.{slice_cmp}
use Rattle.toml.specs.Data.{Data, Members, no_members, member, get_member, is_before}
use Rattle.scad_fault.specs.declared.settings.SetFault.{SetFault}
use Rattle.scad_words.specs.declared.settings.Settings.{Settings}
use Rattle.scad_words.specs.Settings.{key_fault, document, settings_of}

-- each key of a table comes before the next in byte order
abbrev pub Ascend : Members → Type 0
Ascend no_members = Unit {0}
Ascend (member key value ms) = (is_before key ms ≡ true) × Ascend ms

-- a key comes before another in byte order
abbrev pub ComesBefore : List ℕ → List ℕ → Type 0
ComesBefore key other = slice_cmp nat_cmp key other ≡ Less

-- a table has this fault at the least of its keys that have one
pub record IsLeastFault (ms : Members) (fault : SetFault) : Type 0 where
  pub value : Data
  pub there : get_member fault.key ms ≡ Some value
  pub has : key_fault fault.key value ≡ Some fault
  pub least : (key : List ℕ) (other : Data) → ComesBefore key fault.key → get_member key ms ≡ Some other
      → key_fault key other ≡ None

-- no key of a table has a fault
abbrev pub HasNoFault : Members → Type 0
HasNoFault ms = (key : List ℕ) (value : Data) → get_member key ms ≡ Some value → key_fault key value ≡ None

-- ---- the laws
-- The table that a text is has its keys in ascending order.
abbrev pub KeysAscend : Type 0
KeysAscend = (bytes : List ℕ) (ms : Members) → document bytes ≡ Some ms → Ascend ms

-- Of a text that is a table the fault of the least key is told that has one. A text is accepted only where none has.
pub record LeastFaultsAreTold : Type 0 where
  pub refused : (bytes : List ℕ) (ms : Members) (fault : SetFault) → document bytes ≡ Some ms
      → settings_of bytes ≡ Err fault → IsLeastFault ms fault
  pub accepted : (bytes : List ℕ) (ms : Members) (settings : Settings) → document bytes ≡ Some ms
      → settings_of bytes ≡ Ok settings → HasNoFault ms

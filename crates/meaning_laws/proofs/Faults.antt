-- Faults of the source, which are no want of memory, and results that have no other ones.
use Rattle.std.proofs.Common.{Bool, true, false, Result, Ok, Err, if◌then◌else◌}
use Rattle.std.specs.Prelude.{IfErr}
use Rattle.scad_base.specs.Results.{and_then}

-- where a result is a fault, it is such
pub record Faults {A F : Type 0} (P : F → Type 0) (r : Result A F) : Type 0 where
  pub is : IfErr r P

pub ok : {A F : Type 0} {P : F → Type 0} {a : A} → Faults P (Ok a)
ok = record { is = tt }

pub err : {A F : Type 0} {P : F → Type 0} {fault : F} → P fault → Faults {A = A} P (Err fault)
err p = record { is = p }

after : {A B F : Type 0} {P : F → Type 0} (r : Result A F) (f : A → Result B F) → IfErr r P
    → ((a : A) → Faults P (f a)) → Faults P (and_then r f)
after (Ok a) f is each = each a
after (Err fault) f is each = err is

pub bind : {A B F : Type 0} {P : F → Type 0} {r : Result A F} {f : A → Result B F} → Faults P r
    → ((a : A) → Faults P (f a)) → Faults P (and_then r f)
bind {r = r} {f = f} first each = after r f first.is each

pub either : {A F : Type 0} {P : F → Type 0} {r other : Result A F} (b : Bool) → Faults P r → Faults P other
    → Faults P (if b then r else other)
either true is other = is
either false is other = other

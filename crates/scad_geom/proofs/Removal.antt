-- What holds of all members of a list holds of those that are left where one is taken out.
use Rattle.std.proofs.Common.{ℕ, suc, List, take, drop, All}
use Rattle.std.specs.Prelude.{remove}
use Rattle.std.proofs.lemmas.List.Elements.{All-append, All-take, All-drop}

pub all_removed : {A : Type 0} (P : A → Type 0) (xs : List A) (i : ℕ) → All P xs → All P (remove xs i)
all_removed P xs i h = All-append P (take i xs) (drop (suc i) xs) (All-take P i xs h) (All-drop P (suc i) xs h)

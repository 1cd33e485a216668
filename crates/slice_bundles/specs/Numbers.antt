-- The numbers of a bundle.
use Rattle.std.specs.Prelude.{List, [], ◌∷◌, ℕ}
use Rattle.slice_bundles.specs.declared.numbers.Numbers.{Numbers}
use Rattle.slice_bundles.specs.declared.numbers.Numbers.TheVariants.{One, Many}

-- one number, or those of a list
abbrev pub all_of : Numbers → List ℕ
all_of (One k) = k ∷ []
all_of (Many ks) = ks.items

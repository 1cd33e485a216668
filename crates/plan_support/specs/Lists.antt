-- Lists of runs, kept one after another with the place where each ends.
use Rattle.std.specs.Prelude.{◌≡◌, ℕ, ◌-◌, ◌≤◌, List, [], ◌∷◌, take, drop}
use Rattle.plan_infill.specs.declared.run.Run.{Run}

-- the lists that end at these places, where the first one starts at a place
abbrev pub cut : ℕ → List ℕ → List Run → List (List Run)
cut start [] runs = []
cut start (end ∷ ends) runs = take (end - start) (drop start runs) ∷ cut end ends runs

-- the places don't fall, and the last one is the end of all
abbrev pub AreEnds : ℕ → List ℕ → ℕ → Type 0
AreEnds start [] all = start ≡ all
AreEnds start (end ∷ ends) all = (start ≤ end) × AreEnds end ends all

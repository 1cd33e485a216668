-- The subcommand that a parse met, with its matches, and the job that they give.
use Rattle.std.proofs.Common.{◌≡◌, true, List, [], ◌∷◌, Option, Some, None, option_map, refl, sym, ap, subst, ◌∙◌}
use Rattle.std.specs.Prelude.{option_and_then, if◌then◌else◌}
use Rattle.clap.specs.Walk.{Row, Text, rows_of}
use Rattle.clap.specs.Matches.{subcommand_name_of}
use Rattle.clap.specs.Simple.{App, subcommand_rows_of, subcommand_of, is_simple}
use Rattle.clap.specs.Kinds.{Kinds, IsAmong}
use Rattle.clap.specs.Faults.{fault_of, is_simple_and_free}
use Rattle.clap.specs.declared.error.kind.ErrorKind.{ErrorKind}
use Rattle.clap.specs.declared.parser.matches.Found.{Found}
use Rattle.clap.specs.declared.parser.matches.ArgMatches.{ArgMatches}
use Rattle.clap.specs.declared.parser.matches.ArgMatches.TheViews.{out-ArgMatches}
use Rattle.clap.proofs.OnLiterals.{clap_on_literals}
use Rattle.scad_words.specs.CommandSet.{command_set}
use Rattle.scad_words.specs.Job.{are_none, job_given, job_from, job_of}

abbrev pair : {A : Type 0} → (A → Text) → (A → List Row) → A → Text × List Row
pair f g a = (f a, g a)

both : {A : Type 0} (s : Option A) (f : A → Text) (g : A → List Row) (name : Text) (rows : List Row)
    → option_map f s ≡ Some name → option_map (λ (p : Text × List Row). p.1) (option_map (pair f g) s) ≡ Some rows → option_map (pair f g) s ≡ Some (name, rows)
both None f g name rows h k = cc
both (Some a) f g name rows h k = cc

met : (m : ArgMatches) (name : Text) (rows : List Row) → subcommand_name_of m ≡ Some name → option_map (λ (p : Text × List Row). p.1) (subcommand_rows_of m) ≡ Some rows
    → subcommand_rows_of m ≡ Some (name, rows)
met m name rows h k = both (out-ArgMatches m).subcommand _ _ name rows h k

-- the job of a parse that met a subcommand, by what it was given
pub given_is : (m : ArgMatches) (name : Text) (f : Found) → subcommand_name_of m ≡ Some name
    → option_map (λ (p : Text × List Row). p.1) (subcommand_rows_of m) ≡ Some (rows_of f)
    → option_and_then job_from (subcommand_rows_of m) ≡ job_given name (rows_of f)
given_is m name f named rows =
    ap (λ (o : Option (Text × List Row)). option_and_then job_from o) (met m name (rows_of f) named rows)

-- the words have a job where clap takes them, and none where it finds a fault
taken : (words : List Text) → fault_of command_set words ≡ [] → job_of words ≡ option_and_then job_from (subcommand_of command_set words)
taken words none = rw none refl

refused : (words : List Text) (k : ErrorKind) → IsAmong k (fault_of command_set words) → job_of words ≡ None
refused words k = by_cases (fault_of command_set words)
  where
    by_cases : (kinds : Kinds) → IsAmong k kinds → (if are_none kinds then option_and_then job_from (subcommand_of command_set words) else None) ≡ None
    by_cases [] h = absurd h
    by_cases (x ∷ xs) h = refl

pub set_is_simple : (is_simple command_set ≡ true) × (is_simple_and_free command_set ≡ true)
unfolding clap_on_literals
set_is_simple = (refl, refl)

-- the job of words that a command of this form took
pub whole_is : (a : App) (words : List Text) (rows : Option (Text × List Row)) → a ≡ command_set
    → (is_simple a ≡ true → rows ≡ subcommand_of a words) → (is_simple_and_free a ≡ true → fault_of a words ≡ []) → job_of words ≡ option_and_then job_from rows
whole_is a words rows set met none =
    let is : rows ≡ subcommand_of command_set words = met (ap is_simple set ∙ set_is_simple.0) ∙ ap (λ (b : App). subcommand_of b words) set in
    taken words (ap (λ (b : App). fault_of b words) (sym set) ∙ none (ap is_simple_and_free set ∙ set_is_simple.1))
    ∙ ap (λ (o : Option (Text × List Row)). option_and_then job_from o) (sym is)

pub refused_by : (a : App) (words : List Text) (k : ErrorKind) → a ≡ command_set → IsAmong k (fault_of a words) → job_of words ≡ None
refused_by a words k set h = refused words k (subst (λ (b : App). IsAmong k (fault_of b words)) set h)

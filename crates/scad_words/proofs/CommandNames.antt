-- What a command's name asks for, by the comparisons that tell it.
use Rattle.std.proofs.Common.{◌≡◌, Bool, true, false, List, Option, Some, None, Result, Err, option_map}
use Rattle.std.proofs.Common.{codes, bytes_eq, refl, sym, subst, ◌∙◌}
use Rattle.std.specs.Result.{IfOk}
use Rattle.clap.specs.Walk.{Row, Text}
use Rattle.scad_words.specs.declared.job.Command.{Command}
use Rattle.scad_words.specs.declared.job.Command.TheVariants.{Check, Tree}
use Rattle.scad_words.specs.declared.job.WordFault.{WordFault}
use Rattle.scad_words.specs.declared.job.WordFault.TheVariants.{Usage}
use Rattle.scad_words.specs.Job.{model_in, slice_in, plan_in, sample_in, verify_in, command_of}

-- the result is the command that is asked for, and the usage is at fault only where there is none
abbrev pub Tells : Option Command → Result Command WordFault → Type 0
Tells asked result = record {
  command : IfOk result (λ command. asked ≡ Some command);
  usage : result ≡ Err Usage → asked ≡ None;
}

told_as : {asked same : Option Command} → asked ≡ same → (result : Result Command WordFault) → Tells same result
    → Tells asked result
told_as is result told = subst (λ command. Tells command result) (sym is) told

module _ (name : Text) (given : List Row) {check : Bool} (is_check : check ≡ bytes_eq name (codes "check")) where
  pub checks : check ≡ true → command_of name given ≡ option_map (λ m. Check m) (model_in given)
  checks same = rw (sym is_check ∙ same) refl

  module _ (no_check : check ≡ false) {tree : Bool} (is_tree : tree ≡ bytes_eq name (codes "tree")) where
    pub trees : tree ≡ true → command_of name given ≡ option_map (λ m. Tree m) (model_in given)
    trees same = rw (sym is_check ∙ no_check, sym is_tree ∙ same) refl

    module _ (no_tree : tree ≡ false) {slice : Bool} (is_slice : slice ≡ bytes_eq name (codes "slice")) where
      asks_slice : slice ≡ true → command_of name given ≡ slice_in given
      asks_slice same = rw (sym is_check ∙ no_check, sym is_tree ∙ no_tree, sym is_slice ∙ same) refl

      pub slices : slice ≡ true → (result : Result Command WordFault) → Tells (slice_in given) result
          → Tells (command_of name given) result
      slices same result told = told_as (asks_slice same) result told

      module _ (no_slice : slice ≡ false) {plan : Bool} (is_plan : plan ≡ bytes_eq name (codes "plan")) where
        asks_plan : plan ≡ true → command_of name given ≡ plan_in given
        asks_plan same =
            rw (sym is_check ∙ no_check, sym is_tree ∙ no_tree, sym is_slice ∙ no_slice, sym is_plan ∙ same) refl

        pub plans : plan ≡ true → (result : Result Command WordFault) → Tells (plan_in given) result
            → Tells (command_of name given) result
        plans same result told = told_as (asks_plan same) result told

        module _ (no_plan : plan ≡ false) {sample : Bool} (is_sample : sample ≡ bytes_eq name (codes "sample")) where
          asks_sample : sample ≡ true → command_of name given ≡ sample_in given
          asks_sample same =
              rw (
                sym is_check ∙ no_check,
                sym is_tree ∙ no_tree,
                sym is_slice ∙ no_slice,
                sym is_plan ∙ no_plan,
                sym is_sample ∙ same,
              ) refl

          pub samples : sample ≡ true → (result : Result Command WordFault) → Tells (sample_in given) result
              → Tells (command_of name given) result
          samples same result told = told_as (asks_sample same) result told

          module _ (no_sample : sample ≡ false) {verify : Bool} (is_verify : verify ≡ bytes_eq name (codes "verify"))
            where
              asks_verify : verify ≡ true → command_of name given ≡ verify_in given
              asks_verify same =
                  rw (
                    sym is_check ∙ no_check,
                    sym is_tree ∙ no_tree,
                    sym is_slice ∙ no_slice,
                    sym is_plan ∙ no_plan,
                    sym is_sample ∙ no_sample,
                    sym is_verify ∙ same,
                  ) refl

              pub verifies : verify ≡ true → (result : Result Command WordFault) → Tells (verify_in given) result
                  → Tells (command_of name given) result
              verifies same result told = told_as (asks_verify same) result told

              pub unknown : verify ≡ false → command_of name given ≡ None
              unknown no_verify =
                  rw (
                    sym is_check ∙ no_check,
                    sym is_tree ∙ no_tree,
                    sym is_slice ∙ no_slice,
                    sym is_plan ∙ no_plan,
                    sym is_sample ∙ no_sample,
                    sym is_verify ∙ no_verify,
                  ) refl

-- The words that the language keeps for itself.
use Rattle.std.specs.Prelude.{ℕ, List, [], ◌∷◌, Option, Some, None, option_and_then, ◌==◌, if◌then◌else◌, codes}
use Rattle.scad_table.specs.Table.{id_of}
use Rattle.scad_lex.specs.declared.token.Key.{Key}
use Rattle.scad_lex.specs.declared.token.Key.TheVariants.{Module, Function, If, Else, For, Let, Assert, Echo, Each}
use Rattle.scad_lex.specs.declared.token.Key.TheVariants.{True, False, Undef, Include, Use}

-- each keyword with its number
abbrev pub key_table : List (List ℕ × ℕ)
key_table =
    (codes "assert", 0) ∷ (codes "each", 1) ∷ (codes "echo", 2) ∷ (codes "else", 3) ∷ (codes "false", 4)
    ∷ (codes "for", 5) ∷ (codes "function", 6) ∷ (codes "if", 7) ∷ (codes "include", 8) ∷ (codes "let", 9)
    ∷ (codes "module", 10) ∷ (codes "true", 11)
    ∷ (codes "undef", 12) ∷ (codes "use", 13) ∷ []

-- the keyword of a number
unfoldable pub numbered_key : ℕ → Option Key
numbered_key n =
    if n == 0 then Some Assert
    else (if n == 1 then Some Each
    else (if n == 2 then Some Echo
    else (if n == 3 then Some Else
    else (if n == 4 then Some False
    else (if n == 5 then Some For
    else (if n == 6 then Some Function
    else (if n == 7 then Some If
    else (if n == 8 then Some Include
    else (if n == 9 then Some Let
    else (if n == 10 then Some Module
    else (if n == 11 then Some True
    else (if n == 12 then Some Undef
    else (if n == 13 then Some Use
    else None)))))))))))))

-- the keyword that a word is
unfoldable pub key_of : List ℕ → Option Key
key_of word = option_and_then numbered_key (id_of key_table word)

-- Strings (OpenSCAD User Manual, "Strings").
use Prim.Native.Char.{code}
use Rattle.std.specs.Prelude.{ℕ, zero, suc, ◌+◌, List, [], ◌∷◌, ◌++◌, Option, Some, None, ◌==◌, if◌then◌else◌}
use Rattle.std.specs.Prelude.{slice_index}
use Rattle.scad_lex.specs.Character.{character_at}
use Rattle.scad_lex.specs.Escape.{escape_at}
use Rattle.scad_lex.specs.declared.string_body.Quoted.{Quoted}
use Rattle.scad_lex.specs.declared.string_body.Quoted.TheVariants.{Closed, Unclosed, Broken}

-- the character or the escape that the bytes begin with, and its number of bytes
unfoldable pub element_at : List ℕ → Option (ℕ × ℕ)
element_at bytes = if slice_index bytes 0 == code "\\" then escape_at bytes else character_at bytes

-- what stands behind a quote, where these characters of so many bytes stand before it
abbrev pub behind : List ℕ → ℕ → Quoted → Quoted
behind front n (Closed chars m) = Closed (front ++ chars) (n + m)
behind front n Unclosed = Unclosed
behind front n (Broken m) = Broken (n + m)

-- how many bytes an element has besides its first
abbrev pub others : Option (ℕ × ℕ) → ℕ
others None = 0
others (Some (c, zero)) = 0
others (Some (c, suc n)) = n

-- the first byte is a quote, or no element begins with it, or one does and this stands behind its first byte
abbrev pub begun : ℕ → Option (ℕ × ℕ) → Quoted → Quoted
begun b None later = if b == code "\"" then Closed [] 1 else Broken 0
begun b (Some (c, n)) later = if b == code "\"" then Closed [] 1 else behind (c ∷ []) 1 later

-- what stands behind an opening quote, where the first bytes, so many, belong to an element that has begun
abbrev pub quoted_from : ℕ → List ℕ → Quoted
quoted_from n [] = Unclosed
quoted_from zero (b ∷ bytes) =
    let e = element_at (b ∷ bytes) in
    begun b e (quoted_from (others e) bytes)
quoted_from (suc n) (b ∷ bytes) = behind [] 1 (quoted_from n bytes)

-- what stands behind an opening quote
abbrev pub quoted : List ℕ → Quoted
quoted bytes = quoted_from 0 bytes

-- how many bytes a string takes behind its opening quote, as far as it was read
abbrev pub len_of : Quoted → ℕ
len_of (Closed chars n) = n
len_of Unclosed = 0
len_of (Broken n) = n

-- The forms of blanks, of comments and of tokens, and that what is cut off in front of a text is the longest of them.
use Prim.Native.Char.{code}
use Rattle.std.specs.Prelude.{◌≡◌, ℕ, ◌+◌, ◌<◌, ◌≤◌, true, List, [], ◌∷◌, ◌++◌, ◌⊎◌, Option, Some, None, length, take}
use Rattle.std.specs.Prelude.{slice_index, codes}
use Rattle.std.specs.List.{prefix_len, AllByRecursion}
use Rattle.scad_num.specs.Literal.{Literal, literal_len}
use Rattle.scad_lex.specs.declared.token.Sign.{Sign}
use Rattle.scad_lex.specs.declared.front.Front.{Front}
use Rattle.scad_lex.specs.declared.front.Front.TheVariants.{Gap, Cut, Bad, TooLarge}
use Rattle.scad_lex.specs.declared.gap.Class.{Class}
use Rattle.scad_lex.specs.declared.gap.Class.TheVariants.{Blank, WithinLine, WordByte}
use Rattle.scad_lex.specs.Classes.{is_of}
use Rattle.scad_lex.specs.Gap.{closed_len, closes_at}
use Rattle.scad_lex.specs.StringLiteral.{element_at}
use Rattle.scad_lex.specs.Front.{front_of}
use Rattle.scad_lex.specs.Spelling.{sign_spelling}
use Rattle.scad_lex.specs.Words.{begins_word, word_len}

-- so many bytes in front have the form, if there are some, and no more bytes in front have it
pub record IsLongest (Form : List ℕ → Type 0) (bytes : List ℕ) (n : ℕ) : Type 0 where
  pub within : n ≤ length bytes
  pub formed : 0 < n → Form (take n bytes)
  pub longest : (m : ℕ) → m ≤ length bytes → Form (take m bytes) → m ≤ n

-- each of the bytes is of the class
abbrev pub AreOf : Class → List ℕ → Type 0
AreOf class bytes = AllByRecursion (λ b. is_of class b ≡ true) bytes

-- a letter or `_`, and then letters, digits and `_`
abbrev pub IsPlainName : List ℕ → Type 0
IsPlainName [] = ⊥
IsPlainName (b ∷ more) = (begins_word b ≡ true) × AreOf WordByte more

-- `$` and a plain name
abbrev pub IsSpecialName : List ℕ → Type 0
IsSpecialName [] = ⊥
IsSpecialName (b ∷ more) = (b ≡ code "$") × IsPlainName more

abbrev pub IsName : List ℕ → Type 0
IsName bytes = IsPlainName bytes ⊎ IsSpecialName bytes

-- what stands behind the `/*` of a comment: it ends with `*/`, and no `*/` stands before
pub record IsClosed (bytes : List ℕ) : Type 0 where
  pub ends : (n : ℕ) × (length bytes ≡ n + 2) × (closes_at bytes n ≡ true)
  pub first : (i : ℕ) → closes_at bytes i ≡ true → length bytes ≤ i + 2

-- bytes that are one character or one escape of a string, and no `"`
pub record IsElement (bytes : List ℕ) : Type 0 where
  pub char : ℕ
  pub whole : element_at bytes ≡ Some (char, length bytes)
  pub no_quote : slice_index bytes 0 ≡ code "\"" → ⊥

-- what stands behind the `"` that opens a string: characters and escapes, and the `"` that closes it
pub data IsQuoted : List ℕ → Type 0 where
  closing : IsQuoted (codes "\"")
  element : (first more : List ℕ) → IsElement first → IsQuoted more → IsQuoted (first ++ more)

-- the pieces of a text; a keyword has the form of a name
pub data IsPiece : List ℕ → Type 0 where
  blanks : (bytes : List ℕ) → 0 < length bytes → AreOf Blank bytes → IsPiece bytes
  line_comment : (bytes : List ℕ) → AreOf WithinLine bytes → IsPiece (codes "//" ++ bytes)
  comment : (bytes : List ℕ) → IsClosed bytes → IsPiece (codes "/*" ++ bytes)
  string : (bytes : List ℕ) → IsQuoted bytes → IsPiece (codes "\"" ++ bytes)
  number : (bytes : List ℕ) → Literal bytes → IsPiece bytes
  name : (bytes : List ℕ) → IsName bytes → IsPiece bytes
  sign : (s : Sign) → IsPiece (sign_spelling s)

-- blanks, and the bytes of a comment up to its line's end, are cut off as far as they go
abbrev pub RunsAreLongest : Type 0
RunsAreLongest = (class : Class) (bytes : List ℕ) → IsLongest (AreOf class) bytes (prefix_len (is_of class) bytes)

-- and so are names
abbrev pub NamesAreLongest : Type 0
NamesAreLongest = (bytes : List ℕ) → IsLongest IsName bytes (word_len bytes)

-- where a comment is closed, it is cut off at the first `*/`, and no more bytes are one comment
abbrev pub CommentsAreLongest : Type 0
CommentsAreLongest = (bytes : List ℕ) (n : ℕ) → closed_len bytes ≡ Some n → IsLongest IsClosed bytes n

-- how many bytes of the text the piece takes that is found in front of it
abbrev pub taken : List ℕ → Front → Option ℕ
taken bytes (Gap n) = Some n
taken bytes (Cut kind n) = Some n
taken bytes TooLarge = Some (literal_len bytes)
taken bytes (Bad n) = None

-- what is found in front of a text, blanks, a comment or a token, is the longest of all pieces that it begins with
abbrev pub PiecesAreLongest : Type 0
PiecesAreLongest =
    (bytes : List ℕ) (n : ℕ) → taken bytes (front_of bytes) ≡ Some n → (0 < n) × IsLongest IsPiece bytes n

-- where none is found the text begins with no piece, but for the `/` of a comment that isn't closed
abbrev pub NoPieceIsMissed : Type 0
NoPieceIsMissed =
    (bytes : List ℕ) → taken bytes (front_of bytes) ≡ None
    → (m : ℕ) → IsPiece (take m bytes) → (take m bytes ≡ codes "/") × (take 2 bytes ≡ codes "/*")

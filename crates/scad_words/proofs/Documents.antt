-- Which texts are UTF-8 and TOML.
use Rattle.std.proofs.Common.{◌≡◌, ℕ, List, Bool, true, false, Some, None, refl, ap, ◌∙◌}
use Rattle.std.specs.Prelude.{if◌then◌else◌}
use Rattle.std.specs.Str.{IsUtf8, is_utf8}
use Rattle.std.proofs.lemmas.Str.{IsUtf8-from_is_utf8, is_utf8-from_IsUtf8}
use Rattle.toml.specs.Data.{Members}
use Rattle.toml.specs.Parse.{parse_document}
use Rattle.scad_words.specs.Settings.{document}

pub document_is : (bytes : List ℕ) (ms : Members) → IsUtf8 bytes → parse_document bytes ≡ Some ms → document bytes ≡ Some ms
unfolding document
document_is bytes ms text toml =
    ap (λ b. if b then parse_document bytes else None) (is_utf8-from_IsUtf8 bytes text) ∙ toml

none_by : (bytes : List ℕ) (b : Bool) → is_utf8 bytes ≡ b → (IsUtf8 bytes → parse_document bytes ≡ None) → (if b then parse_document bytes else None) ≡ None
none_by bytes true is none = none (IsUtf8-from_is_utf8 bytes is)
none_by bytes false is none = refl

pub no_document : (bytes : List ℕ) → (IsUtf8 bytes → parse_document bytes ≡ None) → document bytes ≡ None
unfolding document
no_document bytes none = none_by bytes (is_utf8 bytes) refl none

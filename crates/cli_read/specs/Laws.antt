-- What holds of all texts.
use Rattle.std.specs.Prelude.{◌≡◌, ℕ, ◌^◌, ◌<◌, List, length, None}
use Rattle.std.specs.List.{AllByRecursion}
use Rattle.cli_text.specs.Cli.{Layer, cli}
use Rattle.cli_read.specs.Form.{Reads, IsShape, AreHatches, AreAbove}

-- a text says at most one list of layers
abbrev pub TextsSayOneList : Type 0
TextsSayOneList = (bytes : List ℕ) (some others : List Layer) → Reads bytes some → Reads bytes others → some ≡ others

-- layers that can be read back
pub record IsReadable (layers : List Layer) : Type 0 where
  pub above : AreAbove None layers
  pub heights : AllByRecursion (λ layer. layer.z < 2 ^ 32) layers
  pub shapes : AllByRecursion (λ layer. AllByRecursion IsShape layer.loops) layers
  pub hatches : AllByRecursion (λ layer. AreHatches layer.hatches) layers
  pub count : length layers < 2 ^ 32

-- the text that is written of layers says them
abbrev pub WrittenTextsSayTheirLayers : Type 0
WrittenTextsSayTheirLayers = (layers : List Layer) → IsReadable layers → Reads (cli layers) layers

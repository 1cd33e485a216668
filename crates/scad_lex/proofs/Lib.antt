pub mod CommentEnd
mod CutNames
mod Decimals
mod Elements
mod Fronts
pub mod HaveSpellings
pub mod Longest
mod LongestPiece
mod LongestString
mod PieceFits
mod PieceForm
mod Pieces
mod Quotes
pub mod Refusals
pub mod TokenText
mod SpelledNumbers
mod SpelledSigns
mod SpelledStrings
mod SpelledWords

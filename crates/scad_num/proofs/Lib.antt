-- Of decimal digits, their value and its rounding, and of the longest literal.
pub mod Caps
pub mod Digits
mod Examples
pub mod Exponent
pub mod LongestLiteral
pub mod Nearest
pub mod Number
pub mod Recognition
pub mod SquareRoot
pub mod Scale
pub mod Decimals

-- Numbers in millionths: their literals, their text, their rounding and their roots.
pub mod Laws
pub mod Literal
pub mod Number
pub mod Root
pub mod Rounding
pub mod Text

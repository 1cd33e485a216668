-- What the public calls promise.
pub mod Limits
pub mod Amount
pub mod Gcode
pub mod Machine
pub mod Moves
pub mod Laws
pub mod Numeral
pub mod Reading
-- What only the steps of the code promise to one another.
pub mod Cap

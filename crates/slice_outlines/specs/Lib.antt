-- What only the steps of the code promise to one another.
pub mod Marks
pub mod Passing
pub mod Places
pub mod Runs
pub mod Above
pub mod Cursor
pub mod Cursors
pub mod Flats
pub mod Stops
pub mod Heights
pub mod MarkValue
pub mod Along
pub mod Stretch
pub mod Arrival
pub mod Ahead
pub mod Sweep
pub mod Level

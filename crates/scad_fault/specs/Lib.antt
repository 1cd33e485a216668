-- What a fault says: its kind, its place in the source, its line in the report, its status.
pub mod Kinds
pub mod Line
pub mod Place
pub mod Status

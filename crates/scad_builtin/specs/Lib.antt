-- What the public calls promise.
pub mod Answer
pub mod Arguments
pub mod Builtin
pub mod Fault
pub mod Kinds
pub mod Memory
pub mod Names
pub mod Numbers
pub mod Strings
pub mod Vectors
-- What only the steps of the code promise to one another.
pub mod Groups
pub mod Ids

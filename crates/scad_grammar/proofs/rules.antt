-- The rules of the descent against the reader of tokens.
pub mod Arguments
pub mod Calls
pub mod Elements
pub mod Fewer
pub mod FewerElements
pub mod FewerStatements
pub mod Outcome
pub mod LinkedStatements
pub mod Operands
pub mod Parameters
pub mod Program
pub mod Statements
pub mod Turns

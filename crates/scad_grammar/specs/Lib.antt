-- What the public calls promise.
pub mod Behind
pub mod Grammar
pub mod Verdict
pub mod LeftOut
pub mod Lists
pub mod Machine
pub mod Move
pub mod Nesting
pub mod TreeText
pub mod PrintedItems
pub mod Promises
pub mod Reads
pub mod Rules
pub mod State
pub mod StatementRules
pub mod StatementSteps
pub mod Statements
pub mod Steps
pub mod Tokens
-- What only the steps of the code promise to one another.
pub mod Plain

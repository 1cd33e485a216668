-- The reader of tokens against the grammar.
pub mod TokenTests
pub mod Backward
pub mod BackwardElements
pub mod Ends
pub mod Expressions
pub mod Goes
pub mod Openings
pub mod Prefix
pub mod Runs
pub mod Shortest
pub mod Sound
pub mod Starts
pub mod Statements
pub mod Tests
pub mod Viable

-- What the public calls promise.
pub mod Words
pub mod SourceMeaning
pub mod Meaning
pub mod SourceReport
pub mod Inputs
pub mod Judging
pub mod Answer
pub mod Promises
pub mod Causes
pub mod Printing
pub mod Assurance
pub mod Approval
pub mod Cut
pub mod ByGrammar
pub mod Headline
pub mod Laws
-- What only the steps of the code promise to one another.
pub mod View
pub mod Playing

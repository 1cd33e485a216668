-- The forms that are left out, and the one answer that tokens have.
pub mod Acceptance
pub mod Faults
pub mod Foreign
pub mod Forms
pub mod Leaves
pub mod LeavesStatements
pub mod Pairs
pub mod Standins

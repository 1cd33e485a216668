pub mod Membership
pub mod Holding
pub mod Solids

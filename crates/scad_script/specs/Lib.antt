pub mod Steps
pub mod Script
pub mod Names
pub mod Play
pub mod Run
pub mod Departure
pub mod Promises
pub mod Laws

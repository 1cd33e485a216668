pub mod CommandSet
pub mod Job
pub mod Numbers
pub mod Rows
pub mod Settings
pub mod Keys

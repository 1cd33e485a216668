pub mod Lines
pub mod Numbers
pub mod NumberText
pub mod Program
pub mod Run
pub mod Steps
pub mod Words

-- What a desk holds, reads and sends, and the desk without any effect.
pub mod Desk
pub mod Null
pub mod Reading
pub mod Output

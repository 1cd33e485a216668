pub mod Count
pub mod Linear
pub mod Revolution

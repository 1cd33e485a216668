pub mod Form
pub mod Laws
pub mod Reading
pub mod View

pub mod Opinion
pub mod Laws
pub mod OwnOutlines

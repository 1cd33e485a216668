pub mod LayerPlans
pub mod Print
pub mod Laws

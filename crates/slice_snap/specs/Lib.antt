-- What only the steps of the code promise to one another.
pub mod Joints
pub mod Chains
pub mod EndOrder

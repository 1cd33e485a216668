pub mod Playing
pub mod Effects
pub mod Order
pub mod Fronts
pub mod HandOver
pub mod Creation
pub mod AnswerStatuses
pub mod DeskFaults
pub mod StatusPromises
pub mod Layers
pub mod Quiet
mod Examples

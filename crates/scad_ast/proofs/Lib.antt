pub mod Operands
pub mod Rows
pub mod ScopeRows
pub mod Pieces
pub mod Nodes

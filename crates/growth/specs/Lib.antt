pub mod Growth
pub mod Dominating
pub mod RowsByOutput

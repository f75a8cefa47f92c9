pub mod Reasons
pub mod Halves
pub mod LeftOut
pub mod EqualRows
pub mod Relations
pub mod MeetsWithin
pub mod OutputParts

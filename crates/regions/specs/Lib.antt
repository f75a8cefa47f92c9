pub mod Relation
pub mod LeftOut
pub mod Reason
pub mod Answer

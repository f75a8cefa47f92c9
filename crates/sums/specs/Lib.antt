pub mod Sides
pub mod Apart
pub mod Keys
pub mod Containing
pub mod Outside
pub mod Free

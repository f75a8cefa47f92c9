pub mod Rows
pub mod Built
pub mod Steps
pub mod Refusals
pub mod Items
pub mod Reading
pub mod Lines
pub mod Outputs
pub mod Ways
pub mod Readings
pub mod Both
pub mod Printed
pub mod Checking
pub mod Comparing
mod Executing
mod Opening

pub mod Parameters
pub mod Parts
pub mod Laws
pub mod Ranges

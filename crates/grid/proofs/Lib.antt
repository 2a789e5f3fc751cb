pub mod Flat
pub mod Pieces
pub mod Codes
pub mod Regions
pub mod Parts
pub mod Outcomes
pub mod Fitted

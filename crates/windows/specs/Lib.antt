pub mod Counting
pub mod Invariants
pub mod Settling
pub mod Parts
pub mod Cells

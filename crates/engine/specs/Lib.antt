pub mod Areas
pub mod State
pub mod Settling
pub mod Memory
pub mod Core
pub mod Own
pub mod Detaching

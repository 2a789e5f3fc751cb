pub mod Sequences
pub mod Pens
pub mod Draw
pub mod Finish

pub mod Cells
pub mod Edits
pub mod Places

pub mod Faults
pub mod Grants
pub mod Plays
pub mod Screens

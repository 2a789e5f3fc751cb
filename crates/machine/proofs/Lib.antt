pub mod Stays
pub mod Placing
pub mod Finding

pub mod Alike
pub mod Rows
pub mod Driving

pub mod Text
pub mod Told
pub mod Driven

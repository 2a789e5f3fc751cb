pub mod Escapes
pub mod Numbers
pub mod Days
pub mod Listing

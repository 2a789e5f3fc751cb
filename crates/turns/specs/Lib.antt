pub mod Sent
pub mod Does
pub mod Turned

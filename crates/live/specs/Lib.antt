pub mod Turned
pub mod Fits
pub mod Answered
pub mod Goes
pub mod Coming

pub mod Signs
pub mod Picture
pub mod Spots

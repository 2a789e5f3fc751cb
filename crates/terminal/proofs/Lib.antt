pub mod Blanked
pub mod Lows
pub mod Feeding
pub mod Renditions

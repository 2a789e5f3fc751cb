pub mod Drawing
pub mod Finishing

pub mod Terms
pub mod Parsing
pub mod Sgr
pub mod Answer
pub mod Sizes
pub mod Extents
pub mod Does

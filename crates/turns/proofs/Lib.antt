pub mod Lent
pub mod Taken
pub mod Viewing
pub mod Going
pub mod Drawing
pub mod Prefixes
pub mod Gone

pub mod Following
pub mod Reading

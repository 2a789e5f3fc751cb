pub mod Text
pub mod Acts
pub mod Added
pub mod Line
pub mod Day
pub mod Messages

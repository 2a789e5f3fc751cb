pub mod Codes
pub mod Many
pub mod Laws
pub mod Machine

pub mod Coming
pub mod Log
pub mod Serving
pub mod Promised
pub mod Faults

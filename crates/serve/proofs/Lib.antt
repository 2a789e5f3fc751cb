pub mod Going
pub mod Promise

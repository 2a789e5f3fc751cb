-- What comes, as an event of the promise: as crate live has it.
pub use Rattle.live.specs.Coming.{event_of}

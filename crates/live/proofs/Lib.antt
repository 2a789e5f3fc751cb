mod Leaving
mod Sized
mod Attached
mod Looking
mod Fed
mod Heard
mod Telling
mod Stepping

pub mod Asking
pub mod Turned
pub mod Finding
pub mod Reaching
pub mod OneTurn

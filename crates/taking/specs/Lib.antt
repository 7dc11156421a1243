pub mod Buffers
pub mod Asking
pub mod Turns
pub mod WorkBuffers

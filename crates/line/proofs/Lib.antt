pub mod Digits
pub mod Delivered
pub mod Parts
pub mod Lines
pub mod OneAnswer

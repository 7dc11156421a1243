pub mod Between
pub mod Parallel
pub mod Question
pub mod Rows
pub mod Gives
pub mod Strand
pub mod Walk

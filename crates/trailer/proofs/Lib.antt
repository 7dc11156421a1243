pub mod OneNumber
pub mod Table
pub mod OneAnswer
pub mod Rows
pub mod Tests
pub mod Faults
pub mod NameAndTrailer
pub mod Limits

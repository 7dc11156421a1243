pub mod Entries
pub mod Told
pub mod AllEvents
pub mod Delivered
pub mod SmallTexts
pub mod OneAnswer

pub mod Numbers
pub mod Trailer
pub mod Table
pub mod Rows

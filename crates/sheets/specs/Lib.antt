pub mod Reading
pub mod Sheets
pub mod Rounds

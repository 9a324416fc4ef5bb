pub mod Numbered
pub mod Standings
pub mod EndedNumbers
pub mod Logs

pub mod Played
pub mod Unanswered

mod Tests
mod CommittedLaws
mod TaleLaws
pub mod JudgedLaws
mod PrintedLaws
mod LineLaws
pub mod FollowLaws
mod KeptLaws
mod ReadLaws
mod OnceLaws
mod ArrangeLaws
mod WrongLaws
mod OrderLaws
mod RiseLaws
pub mod Stopping
mod StopLaws

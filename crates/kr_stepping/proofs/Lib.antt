pub mod Rest
pub mod GoneSteps
pub mod Answered
pub mod EitherRuns
pub mod Replied

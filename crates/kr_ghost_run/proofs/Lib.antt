pub mod StepKinds
pub mod Logs
pub mod Rest
pub mod Left

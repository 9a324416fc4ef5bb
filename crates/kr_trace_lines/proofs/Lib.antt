pub mod Each
pub mod RiseLaws
pub mod Distinct
pub mod Texts
pub mod Values
pub mod StepReads

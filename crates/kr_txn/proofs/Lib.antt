pub mod Lists
pub mod EndedLaws
pub mod Unions
pub mod LogSteps
pub mod InPlace

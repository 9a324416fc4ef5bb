pub mod Page
pub mod Signs

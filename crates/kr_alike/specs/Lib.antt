pub mod Alike
pub mod Closed
pub mod Marks
pub mod Growth
pub mod Coming
pub mod Alone
pub mod Asked
pub mod Deletes

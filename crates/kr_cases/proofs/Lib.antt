pub mod Counted
pub mod Firsts
pub mod Listed

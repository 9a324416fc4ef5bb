pub mod Titled

pub mod Words
pub mod OnePart
pub mod Printed
pub mod Program
pub mod Ghosts

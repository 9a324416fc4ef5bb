mod OnePartLaws
mod HeldLaws
mod SerialLaws
pub mod GhostLaws

pub mod EndReplies
pub mod Waited

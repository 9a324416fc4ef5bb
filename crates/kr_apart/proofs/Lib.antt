pub mod ScriptParts
mod Same
mod SameKind

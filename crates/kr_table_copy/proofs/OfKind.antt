-- A protocol by its kind.
use Rattle.std.proofs.Common.{◌≡◌, true, false, sym, ap}
use Rattle.kr_model.specs.Protocol.{Protocol}
use Rattle.kr_ghost.specs.Protocol.{GhostProtocol}
use Rattle.kr_kinds.specs.Kinds.{IndexProtocol, Gone, Leaves, HasTables, leaves_ghosts}

pub is_gone : (x : IndexProtocol) (p : Protocol) (g : GhostProtocol) → HasTables x p g → leaves_ghosts x ≡ false → Gone p ≡ x
is_gone (Gone q) p g same h = ap Gone (sym same)
is_gone (Leaves q) p g same h = absurd (cc)

pub is_leaving : (x : IndexProtocol) (p : Protocol) (g : GhostProtocol) → HasTables x p g → leaves_ghosts x ≡ true → Leaves g ≡ x
is_leaving (Gone q) p g same h = absurd (cc)
is_leaving (Leaves q) p g same h = ap Leaves (sym same)

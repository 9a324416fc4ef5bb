-- What it is for a rule to be needed, and for a protocol to go wrong.
use Rattle.std.specs.Prelude.{◌≡◌, List, All}
use Rattle.kr_model.specs.Map.{Map, IsMap}
use Rattle.kr_model.specs.Run.{programs}
use Rattle.kr_model.specs.Serial.{AreSerial}
use Rattle.kr_ghost.specs.Protocol.{GhostProtocol, IsLawfulGhost}
use Rattle.kr_ghost.specs.State.{opened}
use Rattle.kr_ghost.specs.declared.moves.Move.{Move}
use Rattle.kr_ghost.specs.Run.{run}
use Rattle.kr_ghost.specs.declared.cases.Rule.{Rule}
use Rattle.kr_ghost.specs.Covers.{failed_cases}

-- Some run under p isn't serializable in commit order.
abbrev pub GoesWrong : GhostProtocol → Type 0
GoesWrong p = (opening : Map) × (moves : List Move) × IsMap opening × (AreSerial opening (programs (run p (opened opening) moves).history) → ⊥)

-- The theorem fails without the rule: some lawful protocol fails no case but those of the rule, and goes wrong.
abbrev pub IsNeeded : Rule → Type 0
IsNeeded rule = (p : GhostProtocol) × IsLawfulGhost p × All (λ f. f.case ≡ rule) (failed_cases p) × GoesWrong p

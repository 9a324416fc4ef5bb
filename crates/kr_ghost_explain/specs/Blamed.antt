-- Failed cases with what is to blame for them, while they are put together.
use Rattle.std.specs.Prelude.{List, map}
use Rattle.kr_ghost.specs.declared.cases.FailedCase.{FailedCase}
use Rattle.kr_ghost.specs.Protocol.{GhostProtocol}
use Rattle.kr_ghost_explain.specs.declared.causes.Blamed.{Blamed}
use Rattle.kr_ghost_explain.specs.Blames.{IsAbout}

-- The cases.
abbrev pub cases_of : List Blamed → List FailedCase
cases_of list = map (λ b. b.case) list

-- What is blamed has to do with the case.
abbrev pub IsBlamed : GhostProtocol → Blamed → Type 0
IsBlamed p b = IsAbout p b.blame b.case

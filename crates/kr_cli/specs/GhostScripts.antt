-- The scripts under a table with ghosts that words name, their runs, and why a word names none.
use Rattle.std.specs.Prelude.{◌≡◌, ◌⊎◌, ℕ, List, [], ◌∷◌, Option, Some, Ok, Err}
use Rattle.kr_model.specs.Run.{programs}
use Rattle.kr_model.specs.Serial.{AreSerial}
use Rattle.kr_script.specs.declared.faults.ScriptFault.{ScriptFault}
use Rattle.kr_script.specs.Faults.{Fault, fault_of}
use Rattle.kr_ghost.specs.Protocol.{GhostProtocol}
use Rattle.kr_ghost.specs.State.{opened}
use Rattle.kr_ghost.specs.Run.{GhostTrace, run}
use Rattle.kr_script.specs.GhostScript.{GhostScript}
use Rattle.kr_script.specs.GhostReading.{reading}
use Rattle.kr_cli.specs.Files.{MayBeScript}
use Rattle.kr_cli.specs.Lines.{told_line, script_fault_text}
use Rattle.kr_cli.specs.Named.{TellsUnreadable}

-- The run of a script under a protocol.
abbrev pub ghost_run_of : GhostProtocol → GhostScript → GhostTrace
ghost_run_of p s = run p (opened s.opening) s.moves

-- The transactions that commit in a script's run under a protocol are serializable.
abbrev pub IsSerialGhosts : GhostProtocol → GhostScript → Type 0
IsSerialGhosts p s = AreSerial s.opening (let r = ghost_run_of p s in programs r.history)

-- A word names a script, which may have purges: bytes that may be had for it read as the script.
abbrev pub NamesGhostScript : (List ℕ → Option (List ℕ) → Type 0) → List ℕ → GhostScript → Type 0
NamesGhostScript may_give word s = (bytes : List ℕ) × (MayBeScript may_give word (Some bytes) × (reading bytes ≡ Ok s))

-- Words name these scripts, in their order.
abbrev pub NameGhostScripts : (List ℕ → Option (List ℕ) → Type 0) → List (List ℕ) → List GhostScript → Type 0
NameGhostScripts may_give [] [] = Unit {0}
NameGhostScripts may_give (w ∷ ws) (s ∷ ss) = NamesGhostScript may_give w s × NameGhostScripts may_give ws ss
NameGhostScripts may_give [] (s ∷ ss) = ⊥
NameGhostScripts may_give (w ∷ ws) [] = ⊥

-- This is the first of the faults of bytes that are no script.
abbrev pub IsGhostScriptFault : List ℕ → ScriptFault → Type 0
IsGhostScriptFault bytes f = (x : Fault) × ((fault_of f ≡ Some x) × (reading bytes ≡ Err x))

-- The line tells the first fault of bytes that may be had for a word and are no script.
abbrev pub TellsGhostScriptFault : (List ℕ → Option (List ℕ) → Type 0) → List ℕ → List ℕ → Type 0
TellsGhostScriptFault may_give word line =
    (bytes : List ℕ) × (MayBeScript may_give word (Some bytes) × ((f : ScriptFault) × (IsGhostScriptFault bytes f × (line ≡ told_line word (script_fault_text f)))))

-- The line tells why a word names no script.
abbrev pub TellsNoGhostScript : (List ℕ → Option (List ℕ) → Type 0) → List ℕ → List ℕ → Type 0
TellsNoGhostScript may_give word line = TellsUnreadable may_give word line ⊎ TellsGhostScriptFault may_give word line

-- The line tells why the first of the words that names no script names none.
abbrev pub TellsFirstGhost : (List ℕ → Option (List ℕ) → Type 0) → List (List ℕ) → List ℕ → Type 0
TellsFirstGhost may_give [] line = ⊥
TellsFirstGhost may_give (w ∷ ws) line =
    TellsNoGhostScript may_give w line ⊎ (((s : GhostScript) × NamesGhostScript may_give w s) × TellsFirstGhost may_give ws line)

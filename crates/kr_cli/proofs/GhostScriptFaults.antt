-- What is told of bytes that are no script.
use Rattle.std.specs.Prelude.{◌≡◌, ◌⊎◌, ℕ, List, Option, Some, IfSome, Err, refl, string_bytes}
use Rattle.std.proofs.Common.{inl, inr}
use Rattle.kr_script.specs.declared.faults.ScriptFault.{ScriptFault}
use Rattle.kr_script.specs.declared.faults.ScriptFault.TheVariants as told_as
use Rattle.kr_script.specs.Faults.{Fault, fault_of}
use Rattle.kr_cli.specs.declared.endings.Ending.{Ending}
use Rattle.kr_cli.specs.declared.endings.Ending.TheVariants.{NotUnderstood, Memory, Place, Output, Told}
use Rattle.kr_cli.specs.Endings.{MemoryOrTold}
use Rattle.kr_cli.specs.Files.{MayBeScript}
use Rattle.kr_cli.specs.Lines.{told_line, script_fault_text}
use Rattle.kr_script.specs.GhostReading.{reading}
use Rattle.kr_cli.specs.GhostScripts.{TellsNoGhostScript}

-- a fault is that memory ran out, or one of the bytes
of_bytes : (f : ScriptFault) (P : Fault → Type 0) → IfSome (fault_of f) P → (f ≡ told_as.Memory) ⊎ ((x : Fault) × ((fault_of f ≡ Some x) × P x))
of_bytes told_as.TooLong P h = inr (_, (refl, h))
of_bytes told_as.NotJson P h = inr (_, (refl, h))
of_bytes told_as.Format P h = inr (_, (refl, h))
of_bytes (told_as.Field path) P h = inr (_, (refl, h))
of_bytes (told_as.Opening i) P h = inr (_, (refl, h))
of_bytes (told_as.Step i) P h = inr (_, (refl, h))
of_bytes (told_as.TooMany path) P h = inr (_, (refl, h))
of_bytes told_as.Memory P h = inl refl

told_fault : (may_give : List ℕ → Option (List ℕ) → Type 0) (word bytes line : List ℕ) (f : ScriptFault) → MayBeScript may_give word (Some bytes) → ((f ≡ told_as.Memory) → ⊥) → line ≡ told_line word (script_fault_text f)
    → (f ≡ told_as.Memory) ⊎ ((x : Fault) × ((fault_of f ≡ Some x) × (reading bytes ≡ Err x))) → TellsNoGhostScript may_give word line
told_fault may_give word bytes line f had other told (inl memory) = absurd (other memory)
told_fault may_give word bytes line f had other told (inr is_fault) = inr (bytes, (had, (f, (is_fault, told))))

-- what is told of a fault of bytes that may be had is why the word names no script
pub no_script : (may_give : List ℕ → Option (List ℕ) → Type 0) (word bytes : List ℕ) (f : ScriptFault) (e : Ending) → MayBeScript may_give word (Some bytes) → IfSome (fault_of f) (λ x. reading bytes ≡ Err x)
    → (f ≡ told_as.Memory → e ≡ Memory) → MemoryOrTold e (λ line. line ≡ told_line word (script_fault_text f)) → MemoryOrTold e (TellsNoGhostScript may_give word)
no_script may_give word bytes f NotUnderstood had reads memory told = absurd told
no_script may_give word bytes f Memory had reads memory told = tt
no_script may_give word bytes f Place had reads memory told = absurd told
no_script may_give word bytes f Output had reads memory told = absurd told
no_script may_give word bytes f (Told line) had reads memory told =
    told_fault may_give word bytes (string_bytes line) f had (λ is. let k : Told line ≡ Memory = memory is in absurd (cc)) told (of_bytes f (λ x. reading bytes ≡ Err x) reads)

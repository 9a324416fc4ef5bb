-- What is told of bytes that are no table.
use Rattle.std.specs.Prelude.{◌≡◌, ◌⊎◌, ℕ, List, Option, Some, IfSome, Err, refl, string_bytes}
use Rattle.std.proofs.Common.{inl, inr}
use Rattle.kr_table.specs.declared.faults.TableFault.{TableFault}
use Rattle.kr_table.specs.declared.faults.TableFault.TheVariants as told_as
use Rattle.kr_table.specs.Faults.{Fault, fault_of, too_long, not_toml, format, field, mode_count, mode_name, compatible, convert, rule, own_not_allowed}
use Rattle.kr_table.specs.Reading.{reading}
use Rattle.kr_cli.specs.declared.endings.Ending.{Ending}
use Rattle.kr_cli.specs.declared.endings.Ending.TheVariants.{NotUnderstood, Memory, Place, Output, Told}
use Rattle.kr_cli.specs.Endings.{MemoryOrTold}
use Rattle.kr_cli.specs.Files.{MayBeTable}
use Rattle.kr_cli.specs.Lines.{told_line, table_fault_text}
use Rattle.kr_cli.specs.Named.{TellsNoTable}

-- a fault is that memory ran out, or one of the bytes
of_bytes : (f : TableFault) (P : Fault → Type 0) → IfSome (fault_of f) P → (f ≡ told_as.Memory) ⊎ ((x : Fault) × ((fault_of f ≡ Some x) × P x))
of_bytes told_as.TooLong P h = inr (too_long, (refl, h))
of_bytes told_as.NotToml P h = inr (not_toml, (refl, h))
of_bytes told_as.Format P h = inr (format, (refl, h))
of_bytes (told_as.Field path) P h = inr (field (string_bytes path), (refl, h))
of_bytes told_as.ModeCount P h = inr (mode_count, (refl, h))
of_bytes (told_as.ModeName i) P h = inr (mode_name i, (refl, h))
of_bytes (told_as.Compatible path) P h = inr (compatible (string_bytes path), (refl, h))
of_bytes (told_as.Convert path) P h = inr (convert (string_bytes path), (refl, h))
of_bytes (told_as.Rule path) P h = inr (rule (string_bytes path), (refl, h))
of_bytes (told_as.OwnNotAllowed path) P h = inr (own_not_allowed (string_bytes path), (refl, h))
of_bytes told_as.Memory P h = inl refl

told_fault : (may_give : List ℕ → Option (List ℕ) → Type 0) (word bytes line : List ℕ) (f : TableFault) → MayBeTable may_give word (Some bytes) → ((f ≡ told_as.Memory) → ⊥) → line ≡ told_line word (table_fault_text f) → (f ≡ told_as.Memory) ⊎ ((x : Fault) × ((fault_of f ≡ Some x) × (reading bytes ≡ Err x))) → TellsNoTable may_give word line
told_fault may_give word bytes line f had other told (inl memory) = absurd (other memory)
told_fault may_give word bytes line f had other told (inr is_fault) = inr (bytes, (had, (f, (is_fault, told))))

-- what is told of a fault of bytes that may be had is why the word names no table
pub no_table : (may_give : List ℕ → Option (List ℕ) → Type 0) (word bytes : List ℕ) (f : TableFault) (e : Ending) → MayBeTable may_give word (Some bytes) → IfSome (fault_of f) (λ x. reading bytes ≡ Err x) → (f ≡ told_as.Memory → e ≡ Memory) → MemoryOrTold e (λ line. line ≡ told_line word (table_fault_text f)) → MemoryOrTold e (TellsNoTable may_give word)
no_table may_give word bytes f NotUnderstood had reads memory told = absurd told
no_table may_give word bytes f Memory had reads memory told = tt
no_table may_give word bytes f Place had reads memory told = absurd told
no_table may_give word bytes f Output had reads memory told = absurd told
no_table may_give word bytes f (Told line) had reads memory told =
    told_fault may_give word bytes (string_bytes line) f had (λ is. let k : Told line ≡ Memory = memory is in absurd (cc)) told (of_bytes f (λ x. reading bytes ≡ Err x) reads)

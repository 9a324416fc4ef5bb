-- What is told of bytes that are no table, with ghosts or without.
use Rattle.std.specs.Prelude.{◌≡◌, ◌⊎◌, ℕ, List, Option, Some, IfSome, Err, true, false, refl, string_bytes}
use Rattle.std.proofs.Common.{inl, inr}
use Rattle.kr_table.specs.declared.faults.TableFault.{TableFault}
use Rattle.kr_table.specs.declared.faults.TableFault.TheVariants as told_as
use Rattle.kr_table.specs.Faults as table
use Rattle.kr_table.specs.Reading as of_table
use Rattle.kr_cli.specs.declared.endings.Ending.{Ending}
use Rattle.kr_cli.specs.declared.endings.Ending.TheVariants.{NotUnderstood, Memory, Place, Output, Told}
use Rattle.kr_cli.specs.Endings.{MemoryOrTold}
use Rattle.kr_cli.specs.Files.{MayBeTable}
use Rattle.kr_cli.specs.Lines.{told_line, table_fault_text}
use Rattle.kr_cli.specs.Named.{TellsUnreadable}
use Rattle.kr_ghost_table.specs.declared.faults.GhostTableFault.{GhostTableFault}
use Rattle.kr_ghost_table.specs.declared.faults.GhostTableFault.TheVariants.{Table, Purge}
use Rattle.kr_ghost_table.specs.Faults as ghost
use Rattle.kr_ghost_table.specs.Reading.{reading, is_of_format_three}
use Rattle.kr_cli.specs.GhostLines.{ghost_fault_text}
use Rattle.kr_cli.specs.NamedTables.{TellsNone}

-- a fault is that memory ran out, or one of the bytes
of_bytes : (f : TableFault) (P : table.Fault → Type 0) → IfSome (table.fault_of f) P → (f ≡ told_as.Memory) ⊎ ((x : table.Fault) × ((table.fault_of f ≡ Some x) × P x))
of_bytes told_as.TooLong P h = inr (_, (refl, h))
of_bytes told_as.NotToml P h = inr (_, (refl, h))
of_bytes told_as.Format P h = inr (_, (refl, h))
of_bytes (told_as.Field path) P h = inr (_, (refl, h))
of_bytes told_as.ModeCount P h = inr (_, (refl, h))
of_bytes (told_as.ModeName i) P h = inr (_, (refl, h))
of_bytes (told_as.Compatible path) P h = inr (_, (refl, h))
of_bytes (told_as.Convert path) P h = inr (_, (refl, h))
of_bytes (told_as.Rule path) P h = inr (_, (refl, h))
of_bytes (told_as.OwnNotAllowed path) P h = inr (_, (refl, h))
of_bytes told_as.Memory P h = inl refl

told_fault : (may_give : List ℕ → Option (List ℕ) → Type 0) (word bytes line : List ℕ) (f : TableFault) → MayBeTable may_give word (Some bytes) → is_of_format_three bytes ≡ false → ((f ≡ told_as.Memory) → ⊥) → line ≡ told_line word (table_fault_text f)
    → (f ≡ told_as.Memory) ⊎ ((x : table.Fault) × ((table.fault_of f ≡ Some x) × (of_table.reading bytes ≡ Err x))) → TellsNone may_give word line
told_fault may_give word bytes line f had other unlike told (inl memory) = absurd (unlike memory)
told_fault may_give word bytes line f had other unlike told (inr is_fault) = inr (bytes, (had, inr (other, (f, (is_fault, told)))))

-- what is told of a fault of bytes of another format than 3 is why the word names no table
pub no_table : (may_give : List ℕ → Option (List ℕ) → Type 0) (word bytes : List ℕ) (f : TableFault) (e : Ending) → MayBeTable may_give word (Some bytes) → is_of_format_three bytes ≡ false
    → IfSome (table.fault_of f) (λ x. of_table.reading bytes ≡ Err x) → (f ≡ told_as.Memory → e ≡ Memory) → MemoryOrTold e (λ line. line ≡ told_line word (table_fault_text f)) → MemoryOrTold e (TellsNone may_give word)
no_table may_give word bytes f NotUnderstood had other reads memory told = absurd told
no_table may_give word bytes f Memory had other reads memory told = tt
no_table may_give word bytes f Place had other reads memory told = absurd told
no_table may_give word bytes f Output had other reads memory told = absurd told
no_table may_give word bytes f (Told line) had other reads memory told =
    told_fault may_give word bytes (string_bytes line) f had other (λ is. let k : Told line ≡ Memory = memory is in absurd (cc)) told (of_bytes f (λ x. of_table.reading bytes ≡ Err x) reads)

-- the same of a file that can't be read
pub unreadable : (may_give : List ℕ → Option (List ℕ) → Type 0) (word : List ℕ) (e : Ending) → MemoryOrTold e (TellsUnreadable may_give word) → MemoryOrTold e (TellsNone may_give word)
unreadable may_give word NotUnderstood told = absurd told
unreadable may_give word Memory told = tt
unreadable may_give word Place told = absurd told
unreadable may_give word Output told = absurd told
unreadable may_give word (Told line) told = inl told

-- With ghosts --

of_ghost_bytes : (f : GhostTableFault) (P : ghost.Fault → Type 0) → IfSome (ghost.fault_of f) P → (f ≡ Table told_as.Memory) ⊎ ((x : ghost.Fault) × ((ghost.fault_of f ≡ Some x) × P x))
of_ghost_bytes (Table told_as.TooLong) P h = inr (_, (refl, h))
of_ghost_bytes (Table told_as.NotToml) P h = inr (_, (refl, h))
of_ghost_bytes (Table told_as.Format) P h = inr (_, (refl, h))
of_ghost_bytes (Table (told_as.Field path)) P h = inr (_, (refl, h))
of_ghost_bytes (Table told_as.ModeCount) P h = inr (_, (refl, h))
of_ghost_bytes (Table (told_as.ModeName i)) P h = inr (_, (refl, h))
of_ghost_bytes (Table (told_as.Compatible path)) P h = inr (_, (refl, h))
of_ghost_bytes (Table (told_as.Convert path)) P h = inr (_, (refl, h))
of_ghost_bytes (Table (told_as.Rule path)) P h = inr (_, (refl, h))
of_ghost_bytes (Table (told_as.OwnNotAllowed path)) P h = inr (_, (refl, h))
of_ghost_bytes (Table told_as.Memory) P h = inl refl
of_ghost_bytes (Purge path) P h = inr (_, (refl, h))

told_ghost_fault : (may_give : List ℕ → Option (List ℕ) → Type 0) (word bytes line : List ℕ) (f : GhostTableFault) → MayBeTable may_give word (Some bytes) → is_of_format_three bytes ≡ true → ((f ≡ Table told_as.Memory) → ⊥) → line ≡ told_line word (ghost_fault_text f)
    → (f ≡ Table told_as.Memory) ⊎ ((x : ghost.Fault) × ((ghost.fault_of f ≡ Some x) × (reading bytes ≡ Err x))) → TellsNone may_give word line
told_ghost_fault may_give word bytes line f had three unlike told (inl memory) = absurd (unlike memory)
told_ghost_fault may_give word bytes line f had three unlike told (inr is_fault) = inr (bytes, (had, inl (three, (f, (is_fault, told)))))

-- what is told of a fault of bytes of format 3 is why the word names no table
pub no_ghost_table : (may_give : List ℕ → Option (List ℕ) → Type 0) (word bytes : List ℕ) (f : GhostTableFault) (e : Ending) → MayBeTable may_give word (Some bytes) → is_of_format_three bytes ≡ true
    → IfSome (ghost.fault_of f) (λ x. reading bytes ≡ Err x) → (f ≡ Table told_as.Memory → e ≡ Memory) → MemoryOrTold e (λ line. line ≡ told_line word (ghost_fault_text f)) → MemoryOrTold e (TellsNone may_give word)
no_ghost_table may_give word bytes f NotUnderstood had three reads memory told = absurd told
no_ghost_table may_give word bytes f Memory had three reads memory told = tt
no_ghost_table may_give word bytes f Place had three reads memory told = absurd told
no_ghost_table may_give word bytes f Output had three reads memory told = absurd told
no_ghost_table may_give word bytes f (Told line) had three reads memory told =
    told_ghost_fault may_give word bytes (string_bytes line) f had three (λ is. let k : Told line ≡ Memory = memory is in absurd (cc)) told (of_ghost_bytes f (λ x. reading bytes ≡ Err x) reads)

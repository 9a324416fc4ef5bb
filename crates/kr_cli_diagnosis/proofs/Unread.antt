-- What is told of a word whose file can't be read.
use Rattle.std.specs.Prelude.{◌≡◌, ◌≢◌, ℕ, List, Option, None}
use Rattle.std.proofs.Common.{inl}
use Rattle.kr_cli.specs.declared.endings.Ending.{Ending}
use Rattle.kr_cli.specs.declared.endings.Ending.TheVariants.{NotUnderstood, Memory, Place, Output, Told}
use Rattle.kr_cli.specs.declared.files.FileFault.{FileFault}
use Rattle.kr_cli.specs.declared.files.FileFault.TheVariants as file
use Rattle.kr_cli.specs.Endings.{MemoryOrTold}
use Rattle.kr_cli.specs.Files.{MayBeHad}
use Rattle.kr_cli.specs.Lines.{unreadable_line}
use Rattle.kr_cli.specs.Named.{TellsNoTable, TellsNoScript}
use Rattle.kr_cli.specs.NamedTables.{TellsNone}

-- why the word names no table
pub no_table_file : (may_give : List ℕ → Option (List ℕ) → Type 0) (most : ℕ) (word : List ℕ) (f : FileFault) (e : Ending) → (f ≢ file.Memory → MayBeHad most may_give word None) → (f ≡ file.Memory → e ≡ Memory) → MemoryOrTold e (λ line. line ≡ unreadable_line word) → MemoryOrTold e (TellsNoTable may_give word)
no_table_file may_give most word f NotUnderstood none memory told = absurd told
no_table_file may_give most word f Memory none memory told = tt
no_table_file may_give most word f Place none memory told = absurd told
no_table_file may_give most word f Output none memory told = absurd told
no_table_file may_give most word f (Told line) none memory told = inl (none (λ is. let k : Told line ≡ Memory = memory is in absurd (cc)), told)

-- or no script
pub no_script_file : (may_give : List ℕ → Option (List ℕ) → Type 0) (most : ℕ) (word : List ℕ) (f : FileFault) (e : Ending) → (f ≢ file.Memory → MayBeHad most may_give word None) → (f ≡ file.Memory → e ≡ Memory) → MemoryOrTold e (λ line. line ≡ unreadable_line word) → MemoryOrTold e (TellsNoScript may_give word)
no_script_file may_give most word f NotUnderstood none memory told = absurd told
no_script_file may_give most word f Memory none memory told = tt
no_script_file may_give most word f Place none memory told = absurd told
no_script_file may_give most word f Output none memory told = absurd told
no_script_file may_give most word f (Told line) none memory told = inl (none (λ is. let k : Told line ≡ Memory = memory is in absurd (cc)), told)

-- or no table, with ghosts or without
pub no_named_file : (may_give : List ℕ → Option (List ℕ) → Type 0) (most : ℕ) (word : List ℕ) (f : FileFault) (e : Ending) → (f ≢ file.Memory → MayBeHad most may_give word None) → (f ≡ file.Memory → e ≡ Memory) → MemoryOrTold e (λ line. line ≡ unreadable_line word) → MemoryOrTold e (TellsNone may_give word)
no_named_file may_give most word f NotUnderstood none memory told = absurd told
no_named_file may_give most word f Memory none memory told = tt
no_named_file may_give most word f Place none memory told = absurd told
no_named_file may_give most word f Output none memory told = absurd told
no_named_file may_give most word f (Told line) none memory told = inl (none (λ is. let k : Told line ≡ Memory = memory is in absurd (cc)), told)

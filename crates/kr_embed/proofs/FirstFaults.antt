-- Why a call on bytes has no answer: each fault that is told is the first of the bytes.
use Rattle.std.specs.Prelude.{◌≡◌, ◌⊎◌, ℕ, List, Some, IfSome, Err, true, false, codes, refl, string_bytes}
use Rattle.std.proofs.Common.{inl, inr}
use Rattle.kr_table.specs.declared.faults.TableFault.{TableFault}
use Rattle.kr_table.specs.declared.faults.TableFault.TheVariants as of_table
use Rattle.kr_table.specs.Faults as table
use Rattle.kr_table.specs.Reading as table_text
use Rattle.kr_ghost_table.specs.declared.faults.GhostTableFault.{GhostTableFault}
use Rattle.kr_ghost_table.specs.declared.faults.GhostTableFault.TheVariants.{Table, Purge}
use Rattle.kr_ghost_table.specs.Faults as ghost
use Rattle.kr_ghost_table.specs.Reading as ghost_text
use Rattle.kr_script.specs.declared.faults.ScriptFault.{ScriptFault}
use Rattle.kr_script.specs.declared.faults.ScriptFault.TheVariants as of_script
use Rattle.kr_script.specs.Faults as script
use Rattle.kr_script.specs.Reading as script_text
use Rattle.kr_script.specs.GhostReading as moves_text
use Rattle.kr_cli.specs.declared.endings.Ending.{Ending}
use Rattle.kr_cli.specs.declared.endings.Ending.TheVariants as ending
use Rattle.kr_cli.specs.declared.named.Named.{Named}
use Rattle.kr_cli.specs.Endings.{MemoryOrTold}
use Rattle.kr_cli.specs.GhostLines.{ghost_fault_text}
use Rattle.kr_cli.specs.Lines.{told_line, table_fault_text, script_fault_text}
use Rattle.kr_embed.specs.declared.faults.Fault.{Fault}
use Rattle.kr_embed.specs.declared.faults.Fault.TheVariants.{NoTable, NoScript, Memory}
use Rattle.kr_embed.specs.Inputs.{IsTable, TellsNoTable, TellsNoGoneScript, TellsNoGhostScript, ExplainsTable, ExplainsScript, Explains}

-- a fault of a table is that memory ran out, or one of the bytes
of_table_bytes : (f : TableFault) (P : table.Fault → Type 0) → IfSome (table.fault_of f) P → (f ≡ of_table.Memory) ⊎ ((x : table.Fault) × ((table.fault_of f ≡ Some x) × P x))
of_table_bytes of_table.TooLong P h = inr (table.too_long, (refl, h))
of_table_bytes of_table.NotToml P h = inr (table.not_toml, (refl, h))
of_table_bytes of_table.Format P h = inr (table.format, (refl, h))
of_table_bytes (of_table.Field path) P h = inr (table.field (string_bytes path), (refl, h))
of_table_bytes of_table.ModeCount P h = inr (table.mode_count, (refl, h))
of_table_bytes (of_table.ModeName i) P h = inr (table.mode_name i, (refl, h))
of_table_bytes (of_table.Compatible path) P h = inr (table.compatible (string_bytes path), (refl, h))
of_table_bytes (of_table.Convert path) P h = inr (table.convert (string_bytes path), (refl, h))
of_table_bytes (of_table.Rule path) P h = inr (table.rule (string_bytes path), (refl, h))
of_table_bytes (of_table.OwnNotAllowed path) P h = inr (table.own_not_allowed (string_bytes path), (refl, h))
of_table_bytes of_table.Memory P h = inl refl

-- a fault of a script is that memory ran out, or one of the bytes
of_script_bytes : (f : ScriptFault) (P : script.Fault → Type 0) → IfSome (script.fault_of f) P → (f ≡ of_script.Memory) ⊎ ((x : script.Fault) × ((script.fault_of f ≡ Some x) × P x))
of_script_bytes of_script.TooLong P h = inr (script.too_long, (refl, h))
of_script_bytes of_script.NotJson P h = inr (script.not_json, (refl, h))
of_script_bytes of_script.Format P h = inr (script.format, (refl, h))
of_script_bytes (of_script.Field path) P h = inr (script.field (string_bytes path), (refl, h))
of_script_bytes (of_script.Opening i) P h = inr (script.opening i, (refl, h))
of_script_bytes (of_script.Step i) P h = inr (script.step i, (refl, h))
of_script_bytes (of_script.TooMany path) P h = inr (script.too_many (string_bytes path), (refl, h))
of_script_bytes of_script.Memory P h = inl refl

-- so is one of a table with ghosts
of_ghost_bytes : (f : GhostTableFault) (P : ghost.Fault → Type 0) → IfSome (ghost.fault_of f) P → (f ≡ Table of_table.Memory) ⊎ ((x : ghost.Fault) × ((ghost.fault_of f ≡ Some x) × P x))
of_ghost_bytes (Table of_table.TooLong) P h = inr (_, (refl, h))
of_ghost_bytes (Table of_table.NotToml) P h = inr (_, (refl, h))
of_ghost_bytes (Table of_table.Format) P h = inr (_, (refl, h))
of_ghost_bytes (Table (of_table.Field path)) P h = inr (_, (refl, h))
of_ghost_bytes (Table of_table.ModeCount) P h = inr (_, (refl, h))
of_ghost_bytes (Table (of_table.ModeName i)) P h = inr (_, (refl, h))
of_ghost_bytes (Table (of_table.Compatible path)) P h = inr (_, (refl, h))
of_ghost_bytes (Table (of_table.Convert path)) P h = inr (_, (refl, h))
of_ghost_bytes (Table (of_table.Rule path)) P h = inr (_, (refl, h))
of_ghost_bytes (Table (of_table.OwnNotAllowed path)) P h = inr (_, (refl, h))
of_ghost_bytes (Table of_table.Memory) P h = inl refl
of_ghost_bytes (Purge path) P h = inr (_, (refl, h))

-- Tables --

table_told : (bytes line : List ℕ) (f : TableFault) → ghost_text.is_of_format_three bytes ≡ false → ((f ≡ of_table.Memory) → ⊥) → line ≡ told_line (codes "table") (table_fault_text f) → (f ≡ of_table.Memory) ⊎ ((x : table.Fault) × ((table.fault_of f ≡ Some x) × (table_text.reading bytes ≡ Err x))) → TellsNoTable bytes line
table_told bytes line f other unlike told (inl memory) = absurd (unlike memory)
table_told bytes line f other unlike told (inr is_fault) = inr (other, (f, (is_fault, told)))

ghost_told : (bytes line : List ℕ) (f : GhostTableFault) → ghost_text.is_of_format_three bytes ≡ true → ((f ≡ Table of_table.Memory) → ⊥) → line ≡ told_line (codes "table") (ghost_fault_text f) → (f ≡ Table of_table.Memory) ⊎ ((x : ghost.Fault) × ((ghost.fault_of f ≡ Some x) × (ghost_text.reading bytes ≡ Err x))) → TellsNoTable bytes line
ghost_told bytes line f three unlike told (inl memory) = absurd (unlike memory)
ghost_told bytes line f three unlike told (inr is_fault) = inl (three, (f, (is_fault, told)))

-- a line that tells a fault of a table tells the first of the bytes
pub tells_no_table : (bytes : List ℕ) (f : TableFault) (e : Ending) → ghost_text.is_of_format_three bytes ≡ false → IfSome (table.fault_of f) (λ x. table_text.reading bytes ≡ Err x) → (f ≡ of_table.Memory → e ≡ ending.Memory) → MemoryOrTold e (λ line. line ≡ told_line (codes "table") (table_fault_text f)) → MemoryOrTold e (TellsNoTable bytes)
tells_no_table bytes f ending.NotUnderstood other reads memory told = absurd told
tells_no_table bytes f ending.Memory other reads memory told = tt
tells_no_table bytes f ending.Place other reads memory told = absurd told
tells_no_table bytes f ending.Output other reads memory told = absurd told
tells_no_table bytes f (ending.Told line) other reads memory told =
    table_told bytes (string_bytes line) f other (λ is. let k : ending.Told line ≡ ending.Memory = memory is in absurd (cc)) told (of_table_bytes f (λ x. table_text.reading bytes ≡ Err x) reads)

-- so does one of a table with ghosts
pub tells_no_ghosts : (bytes : List ℕ) (f : GhostTableFault) (e : Ending) → ghost_text.is_of_format_three bytes ≡ true → IfSome (ghost.fault_of f) (λ x. ghost_text.reading bytes ≡ Err x) → (f ≡ Table of_table.Memory → e ≡ ending.Memory) → MemoryOrTold e (λ line. line ≡ told_line (codes "table") (ghost_fault_text f)) → MemoryOrTold e (TellsNoTable bytes)
tells_no_ghosts bytes f ending.NotUnderstood three reads memory told = absurd told
tells_no_ghosts bytes f ending.Memory three reads memory told = tt
tells_no_ghosts bytes f ending.Place three reads memory told = absurd told
tells_no_ghosts bytes f ending.Output three reads memory told = absurd told
tells_no_ghosts bytes f (ending.Told line) three reads memory told =
    ghost_told bytes (string_bytes line) f three (λ is. let k : ending.Told line ≡ ending.Memory = memory is in absurd (cc)) told (of_ghost_bytes f (λ x. ghost_text.reading bytes ≡ Err x) reads)

-- Scripts --

script_told : (bytes line : List ℕ) (f : ScriptFault) → ((f ≡ of_script.Memory) → ⊥) → line ≡ told_line (codes "script") (script_fault_text f) → (f ≡ of_script.Memory) ⊎ ((x : script.Fault) × ((script.fault_of f ≡ Some x) × (script_text.reading bytes ≡ Err x))) → TellsNoGoneScript bytes line
script_told bytes line f other told (inl memory) = absurd (other memory)
script_told bytes line f other told (inr is_fault) = (f, (is_fault, told))

moves_told : (bytes line : List ℕ) (f : ScriptFault) → ((f ≡ of_script.Memory) → ⊥) → line ≡ told_line (codes "script") (script_fault_text f) → (f ≡ of_script.Memory) ⊎ ((x : script.Fault) × ((script.fault_of f ≡ Some x) × (moves_text.reading bytes ≡ Err x))) → TellsNoGhostScript bytes line
moves_told bytes line f other told (inl memory) = absurd (other memory)
moves_told bytes line f other told (inr is_fault) = (f, (is_fault, told))

-- a line that tells a fault of a script tells the first of the bytes
pub tells_no_script : (bytes : List ℕ) (f : ScriptFault) (e : Ending) → IfSome (script.fault_of f) (λ x. script_text.reading bytes ≡ Err x) → (f ≡ of_script.Memory → e ≡ ending.Memory) → MemoryOrTold e (λ line. line ≡ told_line (codes "script") (script_fault_text f)) → MemoryOrTold e (TellsNoGoneScript bytes)
tells_no_script bytes f ending.NotUnderstood reads memory told = absurd told
tells_no_script bytes f ending.Memory reads memory told = tt
tells_no_script bytes f ending.Place reads memory told = absurd told
tells_no_script bytes f ending.Output reads memory told = absurd told
tells_no_script bytes f (ending.Told line) reads memory told =
    script_told bytes (string_bytes line) f (λ is. let k : ending.Told line ≡ ending.Memory = memory is in absurd (cc)) told (of_script_bytes f (λ x. script_text.reading bytes ≡ Err x) reads)

-- so does one of a script that may have purges
pub tells_no_moves : (bytes : List ℕ) (f : ScriptFault) (e : Ending) → IfSome (script.fault_of f) (λ x. moves_text.reading bytes ≡ Err x) → (f ≡ of_script.Memory → e ≡ ending.Memory) → MemoryOrTold e (λ line. line ≡ told_line (codes "script") (script_fault_text f)) → MemoryOrTold e (TellsNoGhostScript bytes)
tells_no_moves bytes f ending.NotUnderstood reads memory told = absurd told
tells_no_moves bytes f ending.Memory reads memory told = tt
tells_no_moves bytes f ending.Place reads memory told = absurd told
tells_no_moves bytes f ending.Output reads memory told = absurd told
tells_no_moves bytes f (ending.Told line) reads memory told =
    moves_told bytes (string_bytes line) f (λ is. let k : ending.Told line ≡ ending.Memory = memory is in absurd (cc)) told (of_script_bytes f (λ x. moves_text.reading bytes ≡ Err x) reads)

-- Both --

-- a fault of the table is one of the table with any script
pub of_table_alone : (table script : List ℕ) (f : Fault) → ExplainsTable table f → Explains table script f
of_table_alone table script (NoTable line) h = h
of_table_alone table script (NoScript line) h = absurd h
of_table_alone table script Memory h = tt

-- a fault of the script is one of a table with it, where there is a table
pub of_script_alone : (table script : List ℕ) (t : Named) (f : Fault) → IsTable table t → ExplainsScript t script f → Explains table script f
of_script_alone table script t (NoTable line) is h = absurd h
of_script_alone table script t (NoScript line) is h = (t, (is, h))
of_script_alone table script t Memory is h = tt

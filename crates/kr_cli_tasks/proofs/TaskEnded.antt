-- Why a task ends without a report.
use Rattle.std.proofs.Common.{◌≡◌, ℕ, Bool, List, Option, Result, Ok, Err, IfErr, map, codes, string_bytes, subst, sym, inl, inr, refl}
use Rattle.kr_cli.specs.declared.endings.Ending.{Ending}
use Rattle.kr_cli.specs.declared.endings.Ending.TheVariants.{NotUnderstood, Memory, Place, Output, Told}
use Rattle.kr_cli.specs.declared.tables.AnyTable.{AnyTable}
use Rattle.kr_cli.specs.Endings.{MemoryOrTold, line_of}
use Rattle.kr_cli.specs.Lines.{HasNoLineFeed}
use Rattle.kr_cli.specs.Named.{NamesTable, TellsNoScript}
use Rattle.kr_cli.proofs.OneLine.{none_above, none_in_no_script}
use Rattle.kr_cli.specs.declared.ghost_tables.AnyGhostTable.{AnyGhostTable}
use Rattle.kr_cli.specs.NamedTables.{NamesGhosts, TellsNone}
use Rattle.kr_cli.specs.GhostScripts.{TellsNoGhostScript, TellsFirstGhost}
use Rattle.kr_cli.proofs.GhostOneLine.{none_in_none, none_in_no_ghost_script, none_in_first_ghost}
use Rattle.kr_cli_tasks.specs.Endings.{Unreported}
use Rattle.kr_cli_tasks.specs.Judges.{TellsFirst}
use Rattle.kr_cli_tasks.specs.Tasks.{Undone, UndoneGhosts, EndsTask}
use Rattle.kr_cli_tasks.specs.declared.asked.Task.{Task}
use Rattle.kr_cli_tasks.specs.declared.asked.Task.TheVariants.{Check, Run, Judge}

-- A task ends where the word of its table names none,
pub no_table : (may_give : List ℕ → Option (List ℕ) → Type 0) (table : List ℕ) (task : Task) (e : Ending) → MemoryOrTold e (TellsNone may_give table) → EndsTask may_give table task e
no_table may_give table task e told = inl told

-- under the table that it names,
pub task_ends : (may_give : List ℕ → Option (List ℕ) → Type 0) (r : Result Bool Ending) (table : List ℕ) (task : Task) (t : AnyTable) → NamesTable may_give table t → IfErr r (Undone may_give task) → IfErr r (EndsTask may_give table task)
task_ends may_give (Ok well) table task t names ends = tt
task_ends may_give (Err e) table task t names ends = inr (inr (t, (names, ends)))

-- or under the table with ghosts that it names;
pub ghost_task_ends : (may_give : List ℕ → Option (List ℕ) → Type 0) (r : Result Bool Ending) (table : List ℕ) (task : Task) (t : AnyGhostTable) → NamesGhosts may_give table t → IfErr r (UndoneGhosts may_give task) → IfErr r (EndsTask may_give table task)
ghost_task_ends may_give (Ok well) table task t names ends = tt
ghost_task_ends may_give (Err e) table task t names ends = inr (inl (t, (names, ends)))

-- The line has no line feed --

-- that of an ending which is told of a word has none where what is told has none
pub none_in_told : (P : List ℕ → Type 0) (e : Ending) → ((line : List ℕ) → P line → HasNoLineFeed line) → Unreported P e → HasNoLineFeed (line_of e)
none_in_told P NotUnderstood none ends = absurd ends
none_in_told P Memory none ends = none_above (codes "out of memory") refl
none_in_told P Place none ends = absurd ends
none_in_told P Output none ends = none_above (codes "output: cannot be written") refl
none_in_told P (Told line) none ends = none (string_bytes line) ends

-- of a place, of memory, and of words that aren't understood
pub none_in_place : (e : Ending) → e ≡ Place → HasNoLineFeed (line_of e)
none_in_place e is = subst (λ x. HasNoLineFeed (line_of x)) (sym is) (none_above (codes "place refused") refl)

pub none_in_not_understood : (e : Ending) → e ≡ NotUnderstood → HasNoLineFeed (line_of e)
none_in_not_understood e is = subst (λ x. HasNoLineFeed (line_of x)) (sym is) (none_above (codes "words not understood") refl)

pub none_in_memory : (e : Ending) → e ≡ Memory → HasNoLineFeed (line_of e)
none_in_memory e is = subst (λ x. HasNoLineFeed (line_of x)) (sym is) (none_above (codes "out of memory") refl)

-- of a word that names no table
none_in_no_table : (may_give : List ℕ → Option (List ℕ) → Type 0) (table : List ℕ) (e : Ending) → MemoryOrTold e (TellsNone may_give table) → HasNoLineFeed (line_of e)
none_in_no_table may_give table NotUnderstood told = absurd told
none_in_no_table may_give table Memory told = none_above (codes "out of memory") refl
none_in_no_table may_give table Place told = absurd told
none_in_no_table may_give table Output told = absurd told
none_in_no_table may_give table (Told line) told = none_in_none may_give table (string_bytes line) told

-- of a word of the task
none_in_first : (may_give : List ℕ → Option (List ℕ) → Type 0) (words : List (List ℕ)) (line : List ℕ) → TellsFirst may_give words line → HasNoLineFeed line
none_in_first may_give words line (place, (before, word, rest, ss, split, long, are, tells)) = none_in_no_script may_give word line tells

none_in_task : (may_give : List ℕ → Option (List ℕ) → Type 0) (task : Task) (e : Ending) → Undone may_give task e → HasNoLineFeed (line_of e)
none_in_task may_give Check e ends = none_in_told (λ line. ⊥) e (λ line tells. absurd tells) ends
none_in_task may_give (Run word) e ends = none_in_told (TellsNoScript may_give word.now) e (none_in_no_script may_give word.now) ends
none_in_task may_give (Judge words) e ends =
    let ws = map (λ w. w.now) words.items in
    none_in_told (TellsFirst may_give ws) e (none_in_first may_give ws) ends

none_in_ghost_task : (may_give : List ℕ → Option (List ℕ) → Type 0) (task : Task) (e : Ending) → UndoneGhosts may_give task e → HasNoLineFeed (line_of e)
none_in_ghost_task may_give Check e ends = none_in_told (λ line. ⊥) e (λ line tells. absurd tells) ends
none_in_ghost_task may_give (Run word) e ends = none_in_told (TellsNoGhostScript may_give word.now) e (none_in_no_ghost_script may_give word.now) ends
none_in_ghost_task may_give (Judge words) e ends =
    let ws = map (λ w. w.now) words.items in
    none_in_told (TellsFirstGhost may_give ws) e (none_in_first_ghost may_give ws) ends

pub none_in_ending : (may_give : List ℕ → Option (List ℕ) → Type 0) (table : List ℕ) (task : Task) (e : Ending) → EndsTask may_give table task e → HasNoLineFeed (line_of e)
none_in_ending may_give table task e (inl told) = none_in_no_table may_give table e told
none_in_ending may_give table task e (inr (inl (t, (names, ends)))) = none_in_ghost_task may_give task e ends
none_in_ending may_give table task e (inr (inr (t, (names, ends)))) = none_in_task may_give task e ends

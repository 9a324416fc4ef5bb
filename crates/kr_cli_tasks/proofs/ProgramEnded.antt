-- Why the program ends without a report.
use Rattle.std.proofs.Common.{◌≡◌, ◌⊎◌, ℕ, Bool, List, Option, Result, Ok, Err, IfErr, string_bytes, inl, inr}
use Rattle.kr_cli.specs.declared.endings.Ending.{Ending}
use Rattle.kr_cli.specs.declared.endings.Ending.TheVariants.{NotUnderstood, Memory, Place, Output, Told}
use Rattle.kr_cli.specs.declared.tables.AnyTable.{AnyTable}
use Rattle.kr_cli.specs.Endings.{MemoryOrTold, line_of}
use Rattle.kr_cli.specs.Lines.{HasNoLineFeed}
use Rattle.kr_cli.specs.Named.{NamesTable, TellsNoScript}
use Rattle.kr_cli.proofs.OneLine.{none_in_no_script}
use Rattle.kr_cli.specs.declared.ghost_tables.AnyGhostTable.{AnyGhostTable}
use Rattle.kr_cli.specs.NamedTables.{NamesGhosts, TellsNone}
use Rattle.kr_cli.specs.GhostScripts.{TellsNoGhostScript}
use Rattle.kr_cli.proofs.GhostOneLine.{none_in_none, none_in_no_ghost_script}
use Rattle.kr_cli_tasks.specs.Endings.{Unreported, UnreportedThreads}
use Rattle.kr_cli_tasks.proofs.TaskEnded.{none_in_told, none_in_place, none_in_not_understood, none_in_memory, none_in_ending}
use Rattle.kr_cli_tasks.specs.Program.{TellsThreads, EndsAny, Ends}
use Rattle.kr_cli_tasks.specs.Words.{AreWords}
use Rattle.kr_cli_tasks.specs.declared.asked.Form.{Form}
use Rattle.kr_cli_tasks.specs.declared.asked.Form.TheVariants.{Plain, Threads}

-- the word of a table names none
pub no_table : (may_give : List ℕ → Option (List ℕ) → Type 0) (table script : List ℕ) (e : Ending) → MemoryOrTold e (TellsNone may_give table) → UnreportedThreads (TellsThreads may_give table script) e
no_table may_give table script NotUnderstood told = absurd told
no_table may_give table script Memory told = inr tt
no_table may_give table script Place told = absurd told
no_table may_give table script Output told = absurd told
no_table may_give table script (Told line) told = inr (inl told)

-- what a line is told of may be said with less
less_at : (P Q : List ℕ → Type 0) (e : Ending) → ((line : List ℕ) → P line → Q line) → Unreported P e → Unreported Q e
less_at P Q NotUnderstood follows ends = absurd ends
less_at P Q Memory follows ends = tt
less_at P Q Place follows ends = absurd ends
less_at P Q Output follows ends = tt
less_at P Q (Told line) follows ends = follows (string_bytes line) ends

less : (r : Result Bool Ending) (P Q : List ℕ → Type 0) → ((line : List ℕ) → P line → Q line) → IfErr r (UnreportedThreads P) → IfErr r (UnreportedThreads Q)
less (Ok well) P Q follows ends = tt
less (Err e) P Q follows (inl place) = inl place
less (Err e) P Q follows (inr ends) = inr (less_at P Q e follows ends)

-- the word of a script names none under the table that a word names
pub no_script : (may_give : List ℕ → Option (List ℕ) → Type 0) (r : Result Bool Ending) (table script : List ℕ) (t : AnyTable) → NamesTable may_give table t → IfErr r (UnreportedThreads (TellsNoScript may_give script)) → IfErr r (UnreportedThreads (TellsThreads may_give table script))
no_script may_give r table script t names ends = less r (TellsNoScript may_give script) (TellsThreads may_give table script) (λ line tells. inr (inr (t, (names, tells)))) ends

-- nor does it under the table with ghosts that it names
pub no_ghost_script : (may_give : List ℕ → Option (List ℕ) → Type 0) (r : Result Bool Ending) (table script : List ℕ) (t : AnyGhostTable) → NamesGhosts may_give table t → IfErr r (UnreportedThreads (TellsNoGhostScript may_give script)) → IfErr r (UnreportedThreads (TellsThreads may_give table script))
no_ghost_script may_give r table script t names ends = less r (TellsNoGhostScript may_give script) (TellsThreads may_give table script) (λ line tells. inr (inl (t, (names, tells)))) ends

-- So does the program: what its words ask for ends,
pub ended : (may_give : List ℕ → Option (List ℕ) → Type 0) (words : List (List ℕ)) (r : Result Bool Ending) (table : List ℕ) (form : Form) → AreWords words table form → IfErr r (EndsAny may_give table form) → IfErr r (Ends may_give words)
ended may_give words (Ok well) table form ask ends = tt
ended may_give words (Err e) table form ask ends = inr (inr (table, (form, (ask, ends))))

-- or it reads no words.
pub unread : (may_give : List ℕ → Option (List ℕ) → Type 0) (words : List (List ℕ)) (e : Ending) → (e ≡ Memory) ⊎ (e ≡ NotUnderstood) → Ends may_give words e
unread may_give words e (inl memory) = inr (inl memory)
unread may_give words e (inr not_understood) = inl not_understood

-- The line has no line feed.
none_in_threads : (may_give : List ℕ → Option (List ℕ) → Type 0) (table script line : List ℕ) → TellsThreads may_give table script line → HasNoLineFeed line
none_in_threads may_give table script line (inl tells) = none_in_none may_give table line tells
none_in_threads may_give table script line (inr (inl (t, (names, tells)))) = none_in_no_ghost_script may_give script line tells
none_in_threads may_give table script line (inr (inr (t, (names, tells)))) = none_in_no_script may_give script line tells

none_in_any : (may_give : List ℕ → Option (List ℕ) → Type 0) (table : List ℕ) (form : Form) (e : Ending) → EndsAny may_give table form e → HasNoLineFeed (line_of e)
none_in_any may_give table (Plain task) e ends = none_in_ending may_give table task e ends
none_in_any may_give table (Threads word workers) e (inl place) = none_in_place e place
none_in_any may_give table (Threads word workers) e (inr ends) = none_in_told (TellsThreads may_give table word.now) e (none_in_threads may_give table word.now) ends

pub none_in_line : (may_give : List ℕ → Option (List ℕ) → Type 0) (words : List (List ℕ)) (e : Ending) → Ends may_give words e → HasNoLineFeed (line_of e)
none_in_line may_give words e (inl not_understood) = none_in_not_understood e not_understood
none_in_line may_give words e (inr (inl memory)) = none_in_memory e memory
none_in_line may_give words e (inr (inr (table, (form, (ask, ends))))) = none_in_any may_give table form e ends

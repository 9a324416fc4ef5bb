-- What the reports of the families say of the runs under the table of their words.
use Rattle.std.specs.Prelude.{◌≡◌, ◌⊎◌, ◌↔◌, ℕ, Bool, true, false, List, [], ◌∷◌, Option, IsTrue, All, bytes_eq, codes, map}
use Rattle.std.proofs.Common.{inl, inr, ap, subst, sym, refl, ◌∙◌}
use Rattle.std.proofs.lemmas.List.Elements.{All-cons, All-head, All-nil, All-tail}
use Rattle.std.specs.Io.KnownBytes.{Appends}
use Rattle.std.specs.List.{AllZip}
use Rattle.kr_theorem.proofs.run.Runs.{runs_are_serial, safe_runs_are_serial}
use Rattle.kr_ghost.proofs.AllCases.{covered_runs_are_serial}
use Rattle.kr_ghost.proofs.Runs as ghost_runs
use Rattle.kr_script.specs.Script.{Script}
use Rattle.kr_script.specs.GhostScript.{GhostScript}
use Rattle.kr_model.specs.Protocol.{IsLawful}
use Rattle.kr_ghost.specs.Protocol.{IsLawfulGhost}
use Rattle.kr_batch.specs.Names.{IsNamed}
use Rattle.kr_cli.specs.Files.{MayBeScript}
use Rattle.kr_cli.specs.declared.tables.AnyTable.{AnyTable}
use Rattle.kr_cli.specs.Named.{NamesTable}
use Rattle.kr_cli.specs.Tables.{table_of, names_of}
use Rattle.kr_cli.specs.declared.named.Named.{Named}
use Rattle.kr_cli.specs.declared.named.Named.TheVariants.{Table, Ghosts}
use Rattle.kr_cli.specs.declared.ghost_tables.AnyGhostTable.{AnyGhostTable}
use Rattle.kr_cli.specs.NamedTables.{Names, NamesGhosts}
use Rattle.kr_cli.specs.GhostScripts.{IsSerialGhosts, NameGhostScripts, NamesGhostScript}
use Rattle.kr_cli.specs.GhostTables as ghost
use Rattle.kr_cli_tasks.specs.Runs.{IsSerialScript}
use Rattle.kr_cli_tasks.specs.Words.{count_of}
use Rattle.kr_cli_tasks.specs.declared.asked.Form.TheVariants.{Plain, Threads}
use Rattle.kr_cli_tasks.specs.declared.asked.Task.TheVariants.{Check, Run, Judge}
use Rattle.kr_cli_tasks.specs.Tasks.{DoesTask}
use Rattle.kr_cli_tasks.specs.Program.{DoesThreads, WritesReport}
use Rattle.kr_cli_tables.specs.Explain as explain
use Rattle.kr_cli_tables.specs.Explain.{IsLawfulTable, ReportsTable}
use Rattle.kr_cli_tables.specs.ExplainWords as explain_words
use Rattle.kr_cli_tables.specs.declared.explanations.words.Wanted.{Wanted}
use Rattle.kr_cli_tables.specs.declared.explanations.words.Wanted.TheVariants as wanted
use Rattle.kr_program.specs.Serial.{AreSerialUnder, NamesSerial, RunsSerially, SerialScript}
use Rattle.kr_program.specs.Answers.{AskThreads, Checks, Explains, JudgedUnder, Judges, RunUnder, Runs, RunsThreads}

-- Words --

pub first : (a b : List ℕ) (xs bs : List (List ℕ)) → a ∷ xs ≡ b ∷ bs → a ≡ b
first a b xs bs e = cc

pub rest_of : (a b : List ℕ) (xs bs : List (List ℕ)) → a ∷ xs ≡ b ∷ bs → xs ≡ bs
rest_of a b xs bs e = cc

-- a word isn't another
other : (a b : List ℕ) → bytes_eq a a ≡ true → bytes_eq b a ≡ false → a ≡ b → ⊥
other a b same differs e = let k : bytes_eq a a ≡ bytes_eq b a = ap (λ w. bytes_eq w a) e in let t : true ≡ false = cc in absurd (cc)

not_first : (a b : List ℕ) (xs bs : List (List ℕ)) → bytes_eq a a ≡ true → bytes_eq b a ≡ false → a ∷ xs ≡ b ∷ bs → ⊥
not_first a b xs bs same differs e = other a b same differs (first a b xs bs e)

not_both : (b : Bool) → IsTrue b → b ≡ false → ⊥
not_both b yea nay = let t : true ≡ false = sym yea ∙ nay in absurd (cc)

-- `check` --

checked : (may_give : List ℕ → Option (List ℕ) → Type 0) (rest : List (List ℕ)) (table : List ℕ) (old new : Option (List ℕ)) (well : Bool) → rest ≡ table ∷ [] → DoesTask may_give table Check old new well → Checks may_give rest old new well
checked may_give rest table old new well are (inl (t, (names, (lawful, (written, verdict))))) =
    record { table = table; named = Table t; words_are = are; names = names; lawful = lawful; written = written; verdict = verdict; serial = λ h. runs_are_serial (table_of t) lawful (verdict.0 h) }
checked may_give rest table old new well are (inr (t, (names, (lawful, (written, verdict))))) =
    record { table = table; named = Ghosts t; words_are = are; names = names; lawful = lawful; written = written; verdict = verdict; serial = λ h. covered_runs_are_serial (ghost.ghosts_of t) lawful (verdict.0 h) }

pub checks : (may_give : List ℕ → Option (List ℕ) → Type 0) (rest : List (List ℕ)) (old new : Option (List ℕ)) (well : Bool) → WritesReport may_give (codes "check" ∷ rest) old new well → Checks may_give rest old new well
checks may_give rest old new well (table, (Plain Check, ((form, plain), does))) = checked may_give rest table old new well (rest_of _ _ rest _ form) does
checks may_give rest old new well (table, (Plain (Run word), ((form, plain), does))) = absurd (not_first (codes "check") (codes "run") rest _ refl refl form)
checks may_give rest old new well (table, (Plain (Judge words), (((form, some), plain), does))) = absurd (not_first (codes "check") (codes "judge") rest _ refl refl form)
checks may_give rest old new well (table, (Threads word workers, ((inl form, plain), does))) = absurd (not_first (codes "check") (codes "threads") rest _ refl refl form)
checks may_give rest old new well (table, (Threads word workers, ((inr (form, four), plain), does))) = absurd (not_first (codes "check") (codes "threads") rest _ refl refl form)

-- `run` and `judge` --

-- what was reported under a table without ghosts that a word names, or under one with ghosts
abbrev Either : (List ℕ → Option (List ℕ) → Type 0) → List ℕ → (Named → Type 0) → Type 0
Either may_give table P =
    ((t : AnyTable) × (NamesTable may_give table t × (IsLawful (table_of t) × P (Table t))))
    ⊎ ((t : AnyGhostTable) × (NamesGhosts may_give table t × (IsLawfulGhost (ghost.ghosts_of t) × P (Ghosts t))))

ran : (may_give : List ℕ → Option (List ℕ) → Type 0) (rest : List (List ℕ)) (table script : List ℕ) (old new : Option (List ℕ)) (well : Bool) → rest ≡ table ∷ script ∷ [] → Either may_give table (λ t. RunUnder may_give t script old new well) → Runs may_give rest old new well
ran may_give rest table script old new well are (inl (t, (names, (lawful, reports)))) =
    record { table = table; script = script; named = Table t; words_are = are; names = names; lawful = lawful; reports = reports }
ran may_give rest table script old new well are (inr (t, (names, (lawful, reports)))) =
    record { table = table; script = script; named = Ghosts t; words_are = are; names = names; lawful = lawful; reports = reports }

pub runs : (may_give : List ℕ → Option (List ℕ) → Type 0) (rest : List (List ℕ)) (old new : Option (List ℕ)) (well : Bool) → WritesReport may_give (codes "run" ∷ rest) old new well → Runs may_give rest old new well
runs may_give rest old new well (table, (Plain Check, ((form, plain), does))) = absurd (not_first (codes "run") (codes "check") rest _ refl refl form)
runs may_give rest old new well (table, (Plain (Run word), ((form, plain), does))) = ran may_give rest table word.now old new well (rest_of _ _ rest _ form) does
runs may_give rest old new well (table, (Plain (Judge words), (((form, some), plain), does))) = absurd (not_first (codes "run") (codes "judge") rest _ refl refl form)
runs may_give rest old new well (table, (Threads word workers, ((inl form, plain), does))) = absurd (not_first (codes "run") (codes "threads") rest _ refl refl form)
runs may_give rest old new well (table, (Threads word workers, ((inr (form, four), plain), does))) = absurd (not_first (codes "run") (codes "threads") rest _ refl refl form)

judged : (may_give : List ℕ → Option (List ℕ) → Type 0) (rest : List (List ℕ)) (table : List ℕ) (scripts : List (List ℕ)) (old new : Option (List ℕ)) (well : Bool) → rest ≡ table ∷ scripts → Either may_give table (λ t. JudgedUnder may_give t scripts old new well) → Judges may_give rest old new well
judged may_give rest table scripts old new well are (inl (t, (names, (lawful, reports)))) =
    record { table = table; scripts = scripts; named = Table t; words_are = are; names = names; lawful = lawful; reports = reports }
judged may_give rest table scripts old new well are (inr (t, (names, (lawful, reports)))) =
    record { table = table; scripts = scripts; named = Ghosts t; words_are = are; names = names; lawful = lawful; reports = reports }

pub judges : (may_give : List ℕ → Option (List ℕ) → Type 0) (rest : List (List ℕ)) (old new : Option (List ℕ)) (well : Bool) → WritesReport may_give (codes "judge" ∷ rest) old new well → Judges may_give rest old new well
judges may_give rest old new well (table, (Plain Check, ((form, plain), does))) = absurd (not_first (codes "judge") (codes "check") rest _ refl refl form)
judges may_give rest old new well (table, (Plain (Run word), ((form, plain), does))) = absurd (not_first (codes "judge") (codes "run") rest _ refl refl form)
judges may_give rest old new well (table, (Plain (Judge words), (((form, some), plain), does))) = judged may_give rest table (map (λ w. w.now) words.items) old new well (rest_of _ _ rest _ form) does
judges may_give rest old new well (table, (Threads word workers, ((inl form, plain), does))) = absurd (not_first (codes "judge") (codes "threads") rest _ refl refl form)
judges may_give rest old new well (table, (Threads word workers, ((inr (form, four), plain), does))) = absurd (not_first (codes "judge") (codes "threads") rest _ refl refl form)

-- `threads` --

-- a run by several threads is well only under an accepted table
well_is_serial : (may_give : List ℕ → Option (List ℕ) → Type 0) (table script : List ℕ) (old new : Option (List ℕ)) (well : Bool) → DoesThreads may_give table script old new well → IsTrue well → NamesSerial may_give table
well_is_serial may_give table script old new well (inl (t, (names, (lawful, inl (true_is, (covered, rest)))))) h = (Table t, (names, runs_are_serial (table_of t) lawful covered))
well_is_serial may_give table script old new well (inl (t, (names, (lawful, inr (false_is, rest))))) h = absurd (not_both well h false_is)
well_is_serial may_give table script old new well (inr (t, (names, (lawful, inl (true_is, (covered, rest)))))) h = (Ghosts t, (names, covered_runs_are_serial (ghost.ghosts_of t) lawful covered))
well_is_serial may_give table script old new well (inr (t, (names, (lawful, inr (false_is, rest))))) h = absurd (not_both well h false_is)

threaded : (may_give : List ℕ → Option (List ℕ) → Type 0) (rest : List (List ℕ)) (table script : List ℕ) (workers : ℕ) (old new : Option (List ℕ)) (well : Bool) → AskThreads rest table script workers → DoesThreads may_give table script old new well → RunsThreads may_give rest old new well
threaded may_give rest table script workers old new well are does =
    record { table = table; script = script; workers = workers; words_are = are; does = does; serial = well_is_serial may_give table script old new well does }

pub threads : (may_give : List ℕ → Option (List ℕ) → Type 0) (rest : List (List ℕ)) (old new : Option (List ℕ)) (well : Bool) → WritesReport may_give (codes "threads" ∷ rest) old new well → RunsThreads may_give rest old new well
threads may_give rest old new well (table, (Plain Check, ((form, plain), does))) = absurd (not_first (codes "threads") (codes "check") rest _ refl refl form)
threads may_give rest old new well (table, (Plain (Run word), ((form, plain), does))) = absurd (not_first (codes "threads") (codes "run") rest _ refl refl form)
threads may_give rest old new well (table, (Plain (Judge words), (((form, some), plain), does))) = absurd (not_first (codes "threads") (codes "judge") rest _ refl refl form)
threads may_give rest old new well (table, (Threads word workers, ((inl form, plain), does))) = threaded may_give rest table word.now (count_of workers) old new well (inl (rest_of _ _ rest _ form)) does
threads may_give rest old new well (table, (Threads word workers, ((inr (form, four), plain), does))) = threaded may_give rest table word.now (count_of workers) old new well (inr (rest_of _ _ rest _ form, four)) does

-- `explain` --

safe_is_serial : (named : Named) (table : List ℕ) (w : Wanted) (old new : Option (List ℕ)) (safe : Bool) → IsLawfulTable named → ReportsTable named table w old new safe → IsTrue safe → RunsSerially named
safe_is_serial (Table t) table wanted.Explanation old new safe lawful reports h = safe_runs_are_serial (table_of t) lawful (reports.is_so.0 h)
safe_is_serial (Table t) table (wanted.Script number) old new safe lawful (false_is, script) h = absurd (not_both safe h false_is)
safe_is_serial (Ghosts t) table wanted.Explanation old new safe lawful reports h = ghost_runs.safe_runs_are_serial (ghost.ghosts_of t) lawful (reports.is_so.0 h)
safe_is_serial (Ghosts t) table (wanted.Script number) old new safe lawful (false_is, script) h = absurd (not_both safe h false_is)

pub explains : (may_give : List ℕ → Option (List ℕ) → Type 0) (rest : List (List ℕ)) (old new : Option (List ℕ)) (well : Bool) → explain.Answers may_give rest old new well → Explains may_give rest old new well
explains may_give rest old new well a = record { answers = a; serial = safe_is_serial a.named a.table a.wanted old new well a.lawful a.reports }

-- What the user reads from the status --

pub check_is_serial : (may_give : List ℕ → Option (List ℕ) → Type 0) (rest : List (List ℕ)) (table : List ℕ) (old new : Option (List ℕ)) → rest ≡ table ∷ [] → Checks may_give rest old new true → NamesSerial may_give table
check_is_serial may_give rest table old new are c =
    let same : c.table ≡ table = first _ _ _ _ (sym c.words_are ∙ are) in
    (c.named, (subst (λ w. Names may_give w c.named) same c.names, c.serial refl))

-- the table of a run by several threads is the first word behind that
threads_table : (rest : List (List ℕ)) (table script : List ℕ) (workers : ℕ) (word : List ℕ) (xs : List (List ℕ)) → AskThreads rest table script workers → rest ≡ word ∷ xs → table ≡ word
threads_table rest table script workers word xs (inl are) is = first _ _ _ _ (sym are ∙ is)
threads_table rest table script workers word xs (inr (are, four)) is = first _ _ _ _ (sym are ∙ is)

pub threads_are_serial : (may_give : List ℕ → Option (List ℕ) → Type 0) (rest : List (List ℕ)) (table : List ℕ) (xs : List (List ℕ)) (old new : Option (List ℕ)) → rest ≡ table ∷ xs → RunsThreads may_give rest old new true → NamesSerial may_give table
threads_are_serial may_give rest table xs old new are r = subst (λ w. NamesSerial may_give w) (threads_table rest r.table r.script r.workers table xs r.words_are are) (r.serial refl)

-- the table that is explained is the first word
explained_table : (table : List ℕ) (w : Wanted) (word : List ℕ) (xs : List (List ℕ)) → explain_words.words_of table w ≡ word ∷ xs → table ≡ word
explained_table table wanted.Explanation word xs are = first _ _ _ _ are
explained_table table (wanted.Script number) word xs are = first _ _ _ _ are

pub explained_is_serial : (may_give : List ℕ → Option (List ℕ) → Type 0) (rest : List (List ℕ)) (table : List ℕ) (xs : List (List ℕ)) (old new : Option (List ℕ)) → rest ≡ table ∷ xs → Explains may_give rest old new true → NamesSerial may_give table
explained_is_serial may_give rest table xs old new are x =
    let a = x.answers in
    let same : a.table ≡ table = explained_table a.table a.wanted table xs (sym a.words_are ∙ are) in
    (a.named, (subst (λ w. Names may_give w a.named) same a.names, x.serial refl))

serial_script : (may_give : List ℕ → Option (List ℕ) → Type 0) (t : Named) (script : List ℕ) (old new : Option (List ℕ)) → RunUnder may_give t script old new true → SerialScript may_give t script
serial_script may_give (Table t) script old new (s, (names, (written, verdict))) = (s, (names, verdict.0 refl))
serial_script may_give (Ghosts t) script old new (s, (names, (written, verdict))) = (s, (names, verdict.0 refl))

second : (a b c d : List ℕ) (xs bs : List (List ℕ)) → a ∷ c ∷ xs ≡ b ∷ d ∷ bs → c ≡ d
second a b c d xs bs e = cc

pub run_is_serial : (may_give : List ℕ → Option (List ℕ) → Type 0) (rest : List (List ℕ)) (table script : List ℕ) (old new : Option (List ℕ)) → rest ≡ table ∷ script ∷ [] → Runs may_give rest old new true → AreSerialUnder may_give table (script ∷ [])
run_is_serial may_give rest table script old new are r =
    let same : r.table ≡ table = first _ _ _ _ (sym r.words_are ∙ are) in
    let also : r.script ≡ script = second _ _ _ _ _ _ (sym r.words_are ∙ are) in
    (r.named, (subst (λ w. Names may_give w r.named) same r.names, All-cons (SerialScript may_give r.named) script [] (subst (λ w. SerialScript may_give r.named w) also (serial_script may_give r.named r.script old new r.reports)) (All-nil (SerialScript may_give r.named))))

all_serial : (may_give : List ℕ → Option (List ℕ) → Type 0) (t : AnyTable) (scripts : List (List ℕ)) (ss : List Script) → AllZip (IsNamed (MayBeScript may_give)) scripts ss → All (IsSerialScript (table_of t)) ss → All (SerialScript may_give (Table t)) scripts
all_serial may_give t [] [] named serial = All-nil (SerialScript may_give (Table t))
all_serial may_give t [] (s ∷ ss) named serial = absurd named
all_serial may_give t (w ∷ ws) [] named serial = absurd named
all_serial may_give t (w ∷ ws) (s ∷ ss) ((is_script, names), named) serial = All-cons (SerialScript may_give (Table t)) w ws (s, (names, All-head (IsSerialScript (table_of t)) s ss serial)) (all_serial may_give t ws ss named (All-tail (IsSerialScript (table_of t)) s ss serial))

all_ghosts_serial : (may_give : List ℕ → Option (List ℕ) → Type 0) (t : AnyGhostTable) (scripts : List (List ℕ)) (ss : List GhostScript) → NameGhostScripts may_give scripts ss → All (IsSerialGhosts (ghost.ghosts_of t)) ss → All (SerialScript may_give (Ghosts t)) scripts
all_ghosts_serial may_give t [] [] named serial = All-nil (SerialScript may_give (Ghosts t))
all_ghosts_serial may_give t [] (s ∷ ss) named serial = absurd named
all_ghosts_serial may_give t (w ∷ ws) [] named serial = absurd named
all_ghosts_serial may_give t (w ∷ ws) (s ∷ ss) (names, named) serial = All-cons (SerialScript may_give (Ghosts t)) w ws (s, (names, All-head (IsSerialGhosts (ghost.ghosts_of t)) s ss serial)) (all_ghosts_serial may_give t ws ss named (All-tail (IsSerialGhosts (ghost.ghosts_of t)) s ss serial))

serial_scripts : (may_give : List ℕ → Option (List ℕ) → Type 0) (t : Named) (scripts : List (List ℕ)) (old new : Option (List ℕ)) → JudgedUnder may_give t scripts old new true → All (SerialScript may_give t) scripts
serial_scripts may_give (Table t) scripts old new (ss, (names, (written, verdict))) = all_serial may_give t scripts ss names (verdict.0 refl)
serial_scripts may_give (Ghosts t) scripts old new (ss, (names, (written, verdict))) = all_ghosts_serial may_give t scripts ss names (verdict.0 refl)

pub judge_is_serial : (may_give : List ℕ → Option (List ℕ) → Type 0) (rest : List (List ℕ)) (table : List ℕ) (scripts : List (List ℕ)) (old new : Option (List ℕ)) → rest ≡ table ∷ scripts → Judges may_give rest old new true → AreSerialUnder may_give table scripts
judge_is_serial may_give rest table scripts old new are j =
    let same : j.table ≡ table = first _ _ _ _ (sym j.words_are ∙ are) in
    let also : j.scripts ≡ scripts = rest_of _ _ _ _ (sym j.words_are ∙ are) in
    (j.named, (subst (λ w. Names may_give w j.named) same j.names, subst (λ ws. All (SerialScript may_give j.named) ws) also (serial_scripts may_give j.named j.scripts old new j.reports)))

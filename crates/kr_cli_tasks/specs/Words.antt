-- The words that the program is called with.
use Rattle.std.specs.Prelude.{◌≡◌, ◌⊎◌, ℕ, ◌<◌, List, [], ◌∷◌, ◌++◌, Some, All, map, length, slice_get, codes}
use Rattle.std.specs.Fmt.{decimal}
use Rattle.kr_cli.specs.Words.{IsPlain}
use Rattle.kr_cli_tasks.specs.declared.asked.Form.{Form}
use Rattle.kr_cli_tasks.specs.declared.asked.Form.TheVariants.{Plain, Threads}
use Rattle.kr_cli_tasks.specs.declared.asked.Task.{Task}
use Rattle.kr_cli_tasks.specs.declared.asked.Task.TheVariants.{Check, Run, Judge}
use Rattle.kr_cli_tasks.specs.declared.asked.Workers.{Workers}

-- How many workers there are.
abbrev pub count_of : Workers → ℕ
count_of workers = workers.count

-- The words of a task under the table that one of them names; a task to judge has a script or more.
abbrev pub AskTask : List (List ℕ) → List ℕ → Task → Type 0
AskTask words table Check = words ≡ codes "check" ∷ table ∷ []
AskTask words table (Run script) = words ≡ codes "run" ∷ table ∷ script.now ∷ []
AskTask words table (Judge scripts) = (words ≡ codes "judge" ∷ table ∷ map (λ s. s.now) scripts.items) × (0 < length scripts.items)

-- The words of a run by several threads: `--workers` and the number, which may be left out where it is 4.
abbrev pub AskThreads : List (List ℕ) → List ℕ → List ℕ → ℕ → Type 0
AskThreads words table script n =
    (words ≡ codes "threads" ∷ table ∷ script ∷ codes "--workers" ∷ decimal n ∷ [])
    ⊎ ((words ≡ codes "threads" ∷ table ∷ script ∷ []) × (n ≡ 4))

-- The words have a form, with the table that one of them names.
abbrev pub HaveForm : List (List ℕ) → List ℕ → Form → Type 0
HaveForm words table (Plain task) = AskTask words table task
HaveForm words table (Threads script workers) = AskThreads words table script.now (count_of workers)

-- The words of a form that name scripts.
abbrev pub scripts_of : Form → List (List ℕ)
scripts_of (Plain Check) = []
scripts_of (Plain (Run script)) = script.now ∷ []
scripts_of (Plain (Judge scripts)) = map (λ s. s.now) scripts.items
scripts_of (Threads script workers) = script.now ∷ []

-- The words ask for what a form says, under the table that one of them names: they have the form, and none that names a table or a script begins with a hyphen.
abbrev pub AreWords : List (List ℕ) → List ℕ → Form → Type 0
AreWords words table form = HaveForm words table form × All IsPlain (table ∷ scripts_of form)

-- While the words are read --

-- How many workers there are was taken away behind these words; else there are 4.
abbrev pub LeavesWords : (words left : List (List ℕ)) → ℕ → Type 0
LeavesWords words left n =
    ((words ≡ left ++ codes "--workers" ∷ decimal n ∷ []) × (slice_get left 0 ≡ Some (codes "threads"))) ⊎ ((words ≡ left) × (n ≡ 4))

-- What is left are the words of a form, but for how many workers there are.
abbrev pub AreLeft : List (List ℕ) → List ℕ → Form → Type 0
AreLeft left table (Plain task) = AskTask left table task
AreLeft left table (Threads script workers) = left ≡ codes "threads" ∷ table ∷ script.now ∷ []

-- Where a form has workers it has these.
abbrev pub HasWorkers : Workers → Form → Type 0
HasWorkers workers (Plain task) = Unit {0}
HasWorkers workers (Threads script given) = given ≡ workers

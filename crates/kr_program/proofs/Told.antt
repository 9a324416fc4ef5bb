-- What the answer of the program says to a caller who looks at the status.
use Rattle.std.specs.Prelude.{◌≡◌, ◌≢◌, ◌⊎◌, ◌≤◌, ◌++◌, ℕ, Bool, true, false, List, [], ◌∷◌, Option, codes, refl}
use Rattle.std.proofs.Common.{arith, ap, append-nil, inl, inr, sym, subst, ◌∙◌}
use Rattle.std.specs.Io.KnownBytes.{Appends}
use Rattle.kr_sink.specs.Puts.{AppendsFront}
use Rattle.kr_cli.specs.declared.endings.Ending.{Ending}
use Rattle.kr_cli.specs.declared.endings.Ending.TheVariants as ending
use Rattle.kr_cli.specs.Endings.{TellsOneLine, ending_line, ending_text}
use Rattle.kr_cli.proofs.Fronts.{front_whole}
use Rattle.kr_cli.proofs.OneLine.{one_line}
use Rattle.kr_cli_tasks.specs.Program as tasks
use Rattle.kr_cli_tasks.proofs.ProgramEnded.{none_in_line}
use Rattle.kr_program.specs.declared.commands.Command.{Command}
use Rattle.kr_program.specs.declared.commands.Command.TheVariants.{Check, Run, Judge, Threads, Explain}
use Rattle.kr_program.specs.Answers.{Answers, Does, Ends, Files, IsAnswered, IsTask, Stream, Tells, Traces, Writes, done, ended, unknown, status_of}
use Rattle.kr_program.specs.Commands.{word_of}
use Rattle.kr_program.specs.Manual.{usage_told}
use Rattle.kr_program.specs.Questions.{IsNoQuestion}
use Rattle.kr_program.specs.Serial.{AreSerialUnder, NamesSerial}
use Rattle.kr_program.proofs.Serial as serial
use Rattle.kr_program.proofs.Serial.{first, rest_of}
use Rattle.kr_program.proofs.Words.{same_command}

at_most_two : (well : Bool) → status_of well ≤ 2
at_most_two true = omega arith
at_most_two false = omega arith

pub within : (g : Files) (n : Traces) (words : List (List ℕ)) (out err : Stream) (status : ℕ) → Answers g n words out err status → status ≤ 2
within g n words out err status (done c rest well are is writes quiet) = subst (λ (x : ℕ). x ≤ 2) (sym is) (at_most_two well)
within g n words out err status (ended c rest e help are is ends asked unwritten lines tells) = omega (arith, is)
within g n words out err status (unknown none is silent tells) = omega (arith, is)

-- what is done where the status is 0
well_done : (g : Files) (n : Traces) (c : Command) (rest : List (List ℕ)) (old new : Option (List ℕ)) (well : Bool) (status : ℕ) → status ≡ status_of well → status ≡ 0 → Writes g n c rest old new well → Writes g n c rest old new true
well_done g n c rest old new true status is zero writes = writes
well_done g n c rest old new false status is zero writes = absurd (omega (arith, is, zero))

-- no question, so the command did what it does
unquestioned : (g : Files) (n : Traces) (c : Command) (rest : List (List ℕ)) (old new : Option (List ℕ)) (well : Bool) → (IsAnswered c rest old new well → ⊥) → Writes g n c rest old new well → Does g n c rest old new well
unquestioned g n c rest old new well not (inl answered) = absurd (not answered)
unquestioned g n c rest old new well not (inr does) = does

-- words that begin with a command's word, and end with 0, got what that command does
pub did : (g : Files) (n : Traces) (d : Command) (words behind : List (List ℕ)) (out err : Stream) (status : ℕ) → words ≡ word_of d ∷ behind → status ≡ 0
    → (IsAnswered d behind out.old out.new true → ⊥) → Answers g n words out err status → Does g n d behind out.old out.new true
did g n d words behind out err status begin zero not (done c rest well are is writes quiet) =
    let same : c ≡ d = same_command c d (first _ _ _ _ (sym are ∙ begin)) in
    let all : rest ≡ behind = rest_of _ _ _ _ (sym are ∙ begin) in
    let here : Writes g n c rest out.old out.new true = well_done g n c rest out.old out.new well status is zero writes in
    let there : Writes g n d rest out.old out.new true = subst (λ (x : Command). Writes g n x rest out.old out.new true) same here in
    unquestioned g n d behind out.old out.new true not (subst (λ (ws : List (List ℕ)). Writes g n d ws out.old out.new true) all there)
did g n d words behind out err status begin zero not (ended c rest e help are is ends asked unwritten lines tells) = absurd (omega (arith, is, zero))
did g n d words behind out err status begin zero not (unknown none is silent tells) = absurd (omega (arith, is, zero))

pub check_is_serial : (g : Files) (n : Traces) (words : List (List ℕ)) (out err : Stream) (status : ℕ) (table : List ℕ) → Answers g n words out err status → words ≡ codes "check" ∷ table ∷ [] → status ≡ 0 → NamesSerial g table
check_is_serial g n words out err status table answers are zero =
    serial.check_is_serial g (table ∷ []) table out.old out.new refl (did g n Check words (table ∷ []) out err status are zero (λ a. a.0) answers)

pub run_is_serial : (g : Files) (n : Traces) (words : List (List ℕ)) (out err : Stream) (status : ℕ) (table script : List ℕ) → Answers g n words out err status → words ≡ codes "run" ∷ table ∷ script ∷ [] → status ≡ 0 → AreSerialUnder g table (script ∷ [])
run_is_serial g n words out err status table script answers are zero =
    serial.run_is_serial g (table ∷ script ∷ []) table script out.old out.new refl (did g n Run words (table ∷ script ∷ []) out err status are zero (λ a. a.0) answers)

pub judge_is_serial : (g : Files) (n : Traces) (words : List (List ℕ)) (out err : Stream) (status : ℕ) (table : List ℕ) (scripts : List (List ℕ)) → Answers g n words out err status → words ≡ codes "judge" ∷ table ∷ scripts → status ≡ 0 → AreSerialUnder g table scripts
judge_is_serial g n words out err status table scripts answers are zero =
    serial.judge_is_serial g (table ∷ scripts) table scripts out.old out.new refl (did g n Judge words (table ∷ scripts) out err status are zero (λ a. a.0) answers)

pub threads_are_serial : (g : Files) (n : Traces) (words : List (List ℕ)) (out err : Stream) (status : ℕ) (table : List ℕ) (rest : List (List ℕ)) → Answers g n words out err status → words ≡ codes "threads" ∷ table ∷ rest → status ≡ 0 → NamesSerial g table
threads_are_serial g n words out err status table rest answers are zero =
    serial.threads_are_serial g (table ∷ rest) table rest out.old out.new refl (did g n Threads words (table ∷ rest) out err status are zero (λ a. a.0) answers)

pub explained_is_serial : (g : Files) (n : Traces) (words : List (List ℕ)) (out err : Stream) (status : ℕ) (table : List ℕ) (rest : List (List ℕ)) → Answers g n words out err status → words ≡ codes "explain" ∷ table ∷ rest → IsNoQuestion (table ∷ rest) → status ≡ 0 → NamesSerial g table
explained_is_serial g n words out err status table rest answers are none zero =
    serial.explained_is_serial g (table ∷ rest) table rest out.old out.new refl (did g n Explain words (table ∷ rest) out err status are zero (λ a. none a.1.0 a.1.1.0) answers)

-- One line --

-- the line of an ending with nothing below it
alone : (e : Ending) → ending_text [] e ++ [] ≡ ending_line e
alone ending.NotUnderstood = append-nil (ending_text [] ending.NotUnderstood) ∙ append-nil (ending_line ending.NotUnderstood)
alone ending.Memory = append-nil (ending_line ending.Memory)
alone ending.Place = append-nil (ending_line ending.Place)
alone ending.Output = append-nil (ending_line ending.Output)
alone (ending.Told line) = append-nil (ending_line (ending.Told line))

in_front : (err : Stream) (text : List ℕ) → Tells err text → AppendsFront err.old err.new text
in_front err text (inl whole) = front_whole err.old err.new text whole
in_front err text (inr (front, cause)) = front

line_alone : (g : Files) (words : List (List ℕ)) (err : Stream) (e : Ending) (help : List ℕ) → tasks.Ends g words e → help ≡ [] → Tells err (ending_text [] e ++ help) → TellsOneLine err.old err.new
line_alone g words err e help ends none tells =
    let here : Tells err (ending_text [] e ++ []) = subst (λ (bytes : List ℕ). Tells err (ending_text [] e ++ bytes)) none tells in
    let line : Tells err (ending_line e) = subst (λ (text : List ℕ). Tells err text) (alone e) here in
    one_line e err.old err.new (none_in_line g words e ends) (in_front err (ending_line e) line)

-- the fault of one of the four
line_as : (g : Files) (n : Traces) (c d : Command) (rest : List (List ℕ)) (old new : Option (List ℕ)) (err : Stream) (e : Ending) (help : List ℕ) → c ≡ d
    → (Ends g n d rest old new e → tasks.Ends g (word_of d ∷ rest) e) → IsTask d → usage_told d ≡ []
    → Ends g n c rest old new e → (IsTask c → help ≡ []) → Tells err (ending_text (usage_told c) e ++ help) → TellsOneLine err.old err.new
line_as g n c d rest old new err e help is ends_so task no_usage ends none tells =
    let here : Ends g n d rest old new e = subst (λ (x : Command). Ends g n x rest old new e) is ends in
    let empty : help ≡ [] = none (subst (λ (x : Command). IsTask x) (sym is) task) in
    let usage : usage_told c ≡ [] = ap usage_told is ∙ no_usage in
    line_alone g (word_of d ∷ rest) err e help (ends_so here) empty (subst (λ (text : List ℕ). Tells err (ending_text text e ++ help)) usage tells)

task_line : (g : Files) (n : Traces) (c : Command) (rest : List (List ℕ)) (old new : Option (List ℕ)) (err : Stream) (e : Ending) (help : List ℕ) → (c ≡ Check) ⊎ ((c ≡ Run) ⊎ ((c ≡ Judge) ⊎ (c ≡ Threads)))
    → Ends g n c rest old new e → (IsTask c → help ≡ []) → Tells err (ending_text (usage_told c) e ++ help) → TellsOneLine err.old err.new
task_line g n c rest old new err e help (inl is) ends none tells = line_as g n c Check rest old new err e help is (λ h. h) tt refl ends none tells
task_line g n c rest old new err e help (inr (inl is)) ends none tells = line_as g n c Run rest old new err e help is (λ h. h) tt refl ends none tells
task_line g n c rest old new err e help (inr (inr (inl is))) ends none tells = line_as g n c Judge rest old new err e help is (λ h. h) tt refl ends none tells
task_line g n c rest old new err e help (inr (inr (inr is))) ends none tells = line_as g n c Threads rest old new err e help is (λ h. h) tt refl ends none tells

-- words begin with that of one of the four
which : (c : Command) (words rest behind : List (List ℕ)) → words ≡ word_of c ∷ rest
    → (words ≡ codes "check" ∷ behind) ⊎ ((words ≡ codes "run" ∷ behind) ⊎ ((words ≡ codes "judge" ∷ behind) ⊎ (words ≡ codes "threads" ∷ behind)))
    → (c ≡ Check) ⊎ ((c ≡ Run) ⊎ ((c ≡ Judge) ⊎ (c ≡ Threads)))
which c words rest behind are (inl begin) = inl (same_command c Check (first _ _ _ _ (sym are ∙ begin)))
which c words rest behind are (inr (inl begin)) = inr (inl (same_command c Run (first _ _ _ _ (sym are ∙ begin))))
which c words rest behind are (inr (inr (inl begin))) = inr (inr (inl (same_command c Judge (first _ _ _ _ (sym are ∙ begin)))))
which c words rest behind are (inr (inr (inr begin))) = inr (inr (inr (same_command c Threads (first _ _ _ _ (sym are ∙ begin)))))

-- that begins with the word of a command
begins : (words behind : List (List ℕ)) → (words ≡ codes "check" ∷ behind) ⊎ ((words ≡ codes "run" ∷ behind) ⊎ ((words ≡ codes "judge" ∷ behind) ⊎ (words ≡ codes "threads" ∷ behind))) → (c : Command) × (words ≡ word_of c ∷ behind)
begins words behind (inl begin) = (Check, begin)
begins words behind (inr (inl begin)) = (Run, begin)
begins words behind (inr (inr (inl begin))) = (Judge, begin)
begins words behind (inr (inr (inr begin))) = (Threads, begin)

pub fault_is_one_line : (g : Files) (n : Traces) (words : List (List ℕ)) (out err : Stream) (status : ℕ) (behind : List (List ℕ)) → Answers g n words out err status
    → (words ≡ codes "check" ∷ behind) ⊎ ((words ≡ codes "run" ∷ behind) ⊎ ((words ≡ codes "judge" ∷ behind) ⊎ (words ≡ codes "threads" ∷ behind)))
    → status ≡ 2 → TellsOneLine err.old err.new
fault_is_one_line g n words out err status behind (done c rest true are is writes quiet) begin two = absurd (omega (arith, is, two))
fault_is_one_line g n words out err status behind (done c rest false are is writes quiet) begin two = absurd (omega (arith, is, two))
fault_is_one_line g n words out err status behind (ended c rest e help are is ends asked unwritten (lines, none) tells) begin two =
    task_line g n c rest out.old out.new err e help (which c words rest behind are begin) ends none tells
fault_is_one_line g n words out err status behind (unknown not is silent tells) begin two = let (c, are) = begins words behind begin in absurd (not c behind are)

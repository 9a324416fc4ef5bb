-- What one command answers, from what its function does.
use Rattle.std.specs.Prelude.{◌≡◌, ◌≢◌, ◌⊎◌, ◌≤◌, ◌↔◌, ◌++◌, ℕ, Bool, true, false, List, [], ◌∷◌, Option, Some, None, Result, Ok, Err, IfOk, IfErr, IfNone, OnOk, IsTrue, String, string_bytes, refl}
use Rattle.std.proofs.Common.{Global, arith, ap, append-nil, inl, inr, sym, subst, ◌∙◌}
use Rattle.kr_sink.specs.Puts.{HasCause}
use Rattle.kr_cli.specs.declared.endings.Ending.{Ending}
use Rattle.kr_cli.specs.declared.endings.Ending.TheVariants.{NotUnderstood, Output}
use Rattle.kr_cli.specs.Endings.{ending_text, is_output}
use Rattle.kr_cli_diagnosis.specs.Finding.{AddsLines, AreLines}
use Rattle.kr_cli_tasks.specs.Program as tasks
use Rattle.kr_cli_tables.specs.Explain as explain
use Rattle.kr_cli_tables.specs.View.{NameNoMemberTwice}
use Rattle.kr_program.specs.declared.commands.Command.{Command}
use Rattle.kr_program.specs.declared.commands.Command.TheVariants.{Check, Run, Judge, Threads, Explain, View, Trace, Suite, Relax, Help, Version}
use Rattle.kr_program.specs.declared.questions.Question.{Question}
use Rattle.kr_program.specs.Answers.{Answers, AskNothing, Does, Ends, Files, IsAnswered, IsAskable, IsQuiet, IsSilent, IsTask, IsUnasked, IsUnwritten, Stream, Tells, Traces, Writes, done, ended}
use Rattle.kr_program.specs.Commands.{word_of}
use Rattle.kr_program.specs.Manual.{usage_told}
use Rattle.kr_program.specs.Questions.{IsNoQuestion, IsQuestion}
use Rattle.kr_program.proofs.Serial.{checks, explains, judges, runs, threads}

-- What is written --

-- what one of the commands does is what the words get
pub wrote : (g : Files) (n : Traces) (c d : Command) (rest : List (List ℕ)) (old new : Option (List ℕ)) (r : Result Bool Ending) → c ≡ d → IfOk r (Does g n d rest old new) → IfOk r (Writes g n c rest old new)
wrote g n c d rest old new (Ok well) is does = inr (subst (λ (x : Command). Does g n x rest old new well) (sym is) does)
wrote g n c d rest old new (Err e) is does = tt

-- the words of a task, by its command
named : (c d : Command) (all rest : List (List ℕ)) → all ≡ word_of c ∷ rest → c ≡ d → all ≡ word_of d ∷ rest
named c d all rest are is = are ∙ ap (λ (x : Command). word_of x ∷ rest) is

pub wrote_check : (g : Files) (n : Traces) (c : Command) (all rest : List (List ℕ)) (old new : Option (List ℕ)) (r : Result Bool Ending) → all ≡ word_of c ∷ rest → c ≡ Check → IfOk r (tasks.WritesReport g all old new) → IfOk r (Writes g n c rest old new)
wrote_check g n c all rest old new (Ok well) are is writes =
    wrote g n c Check rest old new (Ok well) is (checks g rest old new well (subst (λ (ws : List (List ℕ)). tasks.WritesReport g ws old new well) (named c Check all rest are is) writes))
wrote_check g n c all rest old new (Err e) are is writes = tt

pub wrote_run : (g : Files) (n : Traces) (c : Command) (all rest : List (List ℕ)) (old new : Option (List ℕ)) (r : Result Bool Ending) → all ≡ word_of c ∷ rest → c ≡ Run → IfOk r (tasks.WritesReport g all old new) → IfOk r (Writes g n c rest old new)
wrote_run g n c all rest old new (Ok well) are is writes =
    wrote g n c Run rest old new (Ok well) is (runs g rest old new well (subst (λ (ws : List (List ℕ)). tasks.WritesReport g ws old new well) (named c Run all rest are is) writes))
wrote_run g n c all rest old new (Err e) are is writes = tt

pub wrote_judge : (g : Files) (n : Traces) (c : Command) (all rest : List (List ℕ)) (old new : Option (List ℕ)) (r : Result Bool Ending) → all ≡ word_of c ∷ rest → c ≡ Judge → IfOk r (tasks.WritesReport g all old new) → IfOk r (Writes g n c rest old new)
wrote_judge g n c all rest old new (Ok well) are is writes =
    wrote g n c Judge rest old new (Ok well) is (judges g rest old new well (subst (λ (ws : List (List ℕ)). tasks.WritesReport g ws old new well) (named c Judge all rest are is) writes))
wrote_judge g n c all rest old new (Err e) are is writes = tt

pub wrote_threads : (g : Files) (n : Traces) (c : Command) (all rest : List (List ℕ)) (old new : Option (List ℕ)) (r : Result Bool Ending) → all ≡ word_of c ∷ rest → c ≡ Threads → IfOk r (tasks.WritesReport g all old new) → IfOk r (Writes g n c rest old new)
wrote_threads g n c all rest old new (Ok well) are is writes =
    wrote g n c Threads rest old new (Ok well) is (threads g rest old new well (subst (λ (ws : List (List ℕ)). tasks.WritesReport g ws old new well) (named c Threads all rest are is) writes))
wrote_threads g n c all rest old new (Err e) are is writes = tt

pub wrote_explain : (g : Files) (n : Traces) (c : Command) (rest : List (List ℕ)) (old new : Option (List ℕ)) (r : Result Bool Ending) → c ≡ Explain → IfOk r (explain.Answers g rest old new) → IfOk r (Writes g n c rest old new)
wrote_explain g n c rest old new (Ok well) is answers = wrote g n c Explain rest old new (Ok well) is (explains g rest old new well answers)
wrote_explain g n c rest old new (Err e) is answers = tt

-- Words that aren't understood ask nothing --

pub unasked : (c : Command) (rest : List (List ℕ)) (r : Result Bool Ending) → (IsAskable c → IsNoQuestion rest) → IfErr r (IsUnasked c rest)
unasked c rest (Ok well) none = tt
unasked c rest (Err e) none = λ words askable. none askable

-- a question isn't of no form
pub asked_nothing : (c : Command) (rest : List (List ℕ)) (q : Question) → IsAskable c → IsQuestion rest q → AskNothing c rest → ⊥
asked_nothing Check rest q askable asks nothing = absurd askable
asked_nothing Run rest q askable asks nothing = absurd askable
asked_nothing Judge rest q askable asks nothing = absurd askable
asked_nothing Threads rest q askable asks nothing = absurd askable
asked_nothing Explain rest q askable asks nothing = nothing.0 q asks
asked_nothing View rest q askable asks nothing = nothing.0 q asks
asked_nothing Trace rest q askable asks nothing = nothing.0 q asks
asked_nothing Suite rest q askable asks nothing = nothing.0 q asks
asked_nothing Relax rest q askable asks nothing = nothing.0 q asks
asked_nothing Help rest q askable asks nothing = absurd askable
asked_nothing Version rest q askable asks nothing = absurd askable

-- a command that no question is asked of
pub nothing_as : (c d : Command) (rest : List (List ℕ)) → c ≡ d → AskNothing c rest → AskNothing d rest
nothing_as c d rest is nothing = subst (λ (x : Command). AskNothing x rest) is nothing

-- what a function says of words of no form, of its help as a text
pub unknown_kept : (r : Result Bool Ending) (Same : Type 0) (old new : String Global) → (r ≡ Err NotUnderstood) × (Same × (new ≡ old)) → (r ≡ Err NotUnderstood) × (Same × (string_bytes new ≡ string_bytes old))
unknown_kept r Same old new (is, (same, kept)) = (is, (same, ap (λ (h : String Global). string_bytes h) kept))

pub unknown_untouched : (r : Result Bool Ending) (Same : Type 0) (help : String Global) → (r ≡ Err NotUnderstood) × Same → (r ≡ Err NotUnderstood) × (Same × (string_bytes help ≡ string_bytes help))
unknown_untouched r Same help (is, same) = (is, (same, refl))

-- What helps --

-- of a page there may be warnings
pub may_warn : (c : Command) (X : Type 0) (r : Result Bool Ending) → c ≡ View → OnOk r (c ≢ View → X)
may_warn c X (Ok well) is = λ other. absurd (other is)
may_warn c X (Err e) is = tt

-- The status --

two : (e : Ending) (n : ℕ) → n ≤ 2 → ((n ≡ 0) ↔ (Err e ≡ Ok true)) → ((n ≡ 1) ↔ (Err e ≡ Ok false)) → n ≡ 2
two e n within well not_well =
    let not_zero : n ≢ 0 = λ zero. let k : Err e ≡ Ok true = well.0 zero in absurd (cc) in
    let not_one : n ≢ 1 = λ one. let k : Err e ≡ Ok false = not_well.0 one in absurd (cc) in
    omega arith

unwritten : (c : Command) (out : Stream) (e : Ending) (Same : Type 0) → (Same → IsSilent out) → (c ≡ Trace) ⊎ (IsTrue (is_output e) ⊎ Same) → (IsTrue (is_output e) → HasCause out.before out.after) → IsUnwritten c out
unwritten c out e Same silent (inl is) cause = inl is
unwritten c out e Same silent (inr (inl output)) cause = inr (inl (cause output))
unwritten c out e Same silent (inr (inr same)) cause = inr (inr (silent same))

-- What its function does, what it tells and its status are the answer of a command.
pub command_answers : (g : Files) (n : Traces) (c : Command) (all rest : List (List ℕ)) (out err : Stream) (status : ℕ) (r : Result Bool Ending) (shown : List ℕ) (SameOut SameErr : Type 0)
    → (SameOut → IsSilent out) → (SameErr → IsSilent err) → all ≡ word_of c ∷ rest
    → status ≤ 2 → ((status ≡ 0) ↔ (r ≡ Ok true)) → ((status ≡ 1) ↔ (r ≡ Ok false))
    → IfOk r (Writes g n c rest out.old out.new) → IfErr r (Ends g n c rest out.old out.new) → IfErr r (IsUnasked c rest)
    → IfErr r (λ e. (c ≡ Trace) ⊎ (IsTrue (is_output e) ⊎ SameOut)) → IfErr r (λ e. IsTrue (is_output e) → HasCause out.before out.after)
    → OnOk r (c ≢ View → shown ≡ []) → (NameNoMemberTwice g rest → OnOk r (shown ≡ [])) → AreLines shown → (IsTask c → shown ≡ [])
    → IfErr r (λ e. Tells err (ending_text (usage_told c) e ++ shown)) → OnOk r (Tells err shown) → OnOk r (shown ≡ [] → SameErr)
    → Answers g n all out err status
command_answers g n c all rest out err status (Ok true) shown SameOut SameErr silent_out silent_err are within well not_well writes ends no_question nothing cause unhelped unwarned lines alone told warned quiet =
    done c rest true are (well.1 refl) writes (λ other. silent_err (quiet (unhelped other)), (λ single. silent_err (quiet (unwarned single)), (shown, (lines, warned))))
command_answers g n c all rest out err status (Ok false) shown SameOut SameErr silent_out silent_err are within well not_well writes ends no_question nothing cause unhelped unwarned lines alone told warned quiet =
    done c rest false are (not_well.1 refl) writes (λ other. silent_err (quiet (unhelped other)), (λ single. silent_err (quiet (unwarned single)), (shown, (lines, warned))))
command_answers g n c all rest out err status (Err e) shown SameOut SameErr silent_out silent_err are within well not_well writes ends no_question nothing cause unhelped unwarned lines alone told warned quiet =
    ended c rest e shown are (two e status within well not_well) ends no_question (unwritten c out e SameOut silent_out nothing cause) (lines, alone) told

-- where nothing was added to no help
pub shown_nothing : (A : Type 0) (begun help shown : List ℕ) (r : Result Bool Ending) → begun ≡ [] → shown ≡ help → OnOk r (A → help ≡ begun) → OnOk r (A → shown ≡ [])
shown_nothing A begun help shown (Ok well) none is kept = λ a. is ∙ (kept a ∙ none)
shown_nothing A begun help shown (Err e) none is kept = tt

pub shown_nothing_where : (begun help shown : List ℕ) (r : Result Bool Ending) → begun ≡ [] → shown ≡ help → OnOk r (help ≡ begun) → OnOk r (shown ≡ [])
shown_nothing_where begun help shown (Ok well) none is kept = is ∙ (kept ∙ none)
shown_nothing_where begun help shown (Err e) none is kept = tt

-- The same of the sinks themselves.
pub fault_or_trace : (c : Command) (before after status : ℕ) (r : Result Bool Ending) (Same : Type 0)
    → ((status ≡ 0) ↔ (r ≡ Ok true)) → ((status ≡ 1) ↔ (r ≡ Ok false))
    → IfErr r (λ e. (c ≡ Trace) ⊎ (IsTrue (is_output e) ⊎ Same)) → IfErr r (λ e. IsTrue (is_output e) → HasCause before after)
    → status ≡ 2 → (c ≡ Trace) ⊎ (HasCause before after ⊎ Same)
fault_or_trace c before after status (Ok true) Same well not_well nothing cause two = absurd (omega (arith, well.1 refl))
fault_or_trace c before after status (Ok false) Same well not_well nothing cause two = absurd (omega (arith, not_well.1 refl))
fault_or_trace c before after status (Err e) Same well not_well (inl is) cause two = inl is
fault_or_trace c before after status (Err e) Same well not_well (inr (inl output)) cause two = inr (inl (cause output))
fault_or_trace c before after status (Err e) Same well not_well (inr (inr same)) cause two = inr (inr same)

pub silent_or_two : (c : Command) (Single : Type 0) (status : ℕ) (r : Result Bool Ending) (shown : List ℕ) (Same : Type 0)
    → status ≤ 2 → ((status ≡ 0) ↔ (r ≡ Ok true)) → ((status ≡ 1) ↔ (r ≡ Ok false))
    → OnOk r (c ≢ View → shown ≡ []) → (Single → OnOk r (shown ≡ [])) → OnOk r (shown ≡ [] → Same)
    → (c ≡ View) ⊎ (c ≢ View) → (c ≡ View → Single) → Same ⊎ (status ≡ 2)
silent_or_two c Single status (Ok well) shown Same within zero one unhelped unwarned quiet (inl is) names = inl (quiet (unwarned (names is)))
silent_or_two c Single status (Ok well) shown Same within zero one unhelped unwarned quiet (inr other) names = inl (quiet (unhelped other))
silent_or_two c Single status (Err e) shown Same within zero one unhelped unwarned quiet which names = inr (two e status within zero one)

-- the status of an answered question
pub question_status : (n : ℕ) (r : Result Bool Ending) (A B : Type 0) → n ≤ 2 → ((n ≡ 0) ↔ (r ≡ Ok true)) → ((n ≡ 1) ↔ (r ≡ Ok false)) → ((r ≡ Ok true) × A) ⊎ ((r ≡ Err Output) × B) → ((n ≡ 0) × A) ⊎ ((n ≡ 2) × B)
question_status n r A B within well not_well (inl (is, a)) = inl (well.1 is, a)
question_status n (Ok b) A B within well not_well (inr (is, b')) = absurd (cc)
question_status n (Err e) A B within well not_well (inr (is, b')) = inr (two e n within well not_well, b')

-- and of words of no form
pub unknown_status : (n : ℕ) (r : Result Bool Ending) (Same : Type 0) (usage shown begun help : List ℕ) (Told : List ℕ → Type 0) → n ≤ 2 → ((n ≡ 0) ↔ (r ≡ Ok true)) → ((n ≡ 1) ↔ (r ≡ Ok false))
    → begun ≡ [] → shown ≡ help → IfErr r (λ e. Told (ending_text usage e ++ shown)) → (r ≡ Err NotUnderstood) × (Same × (help ≡ begun)) → (n ≡ 2) × (Same × Told (ending_text usage NotUnderstood))
unknown_status n (Ok b) Same usage shown begun help Told within well not_well none is_help told (is, (same, kept)) = absurd (cc)
unknown_status n (Err e) Same usage shown begun help Told within well not_well none is_help told (is, (same, kept)) =
    let other : e ≡ NotUnderstood = cc in
    let empty : shown ≡ [] = is_help ∙ (kept ∙ none) in
    let here : Told (ending_text usage NotUnderstood ++ shown) = subst (λ (x : Ending). Told (ending_text usage x ++ shown)) other told in
    let text = ending_text usage NotUnderstood in
    (two e n within well not_well, (same, subst Told (ap (λ (h : List ℕ). text ++ h) empty ∙ append-nil text) here))

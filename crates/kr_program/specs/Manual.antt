-- What the program says of itself.
use Rattle.std.specs.Prelude.{ℕ, List, [], ◌∷◌, ◌++◌, codes}
use Rattle.kr_program.specs.declared.commands.Command.{Command}
use Rattle.kr_program.specs.declared.commands.Command.TheVariants.{Check, Run, Judge, Threads, Explain, View, Trace, Suite, Relax, Help, Version}
use Rattle.kr_program.specs.declared.manual.TheConstants.{VERSION, CHECK_USAGE, CHECK_WORDS, RUN_USAGE, RUN_WORDS, JUDGE_USAGE, JUDGE_WORDS, THREADS_USAGE, THREADS_WORDS, EXPLAIN_USAGE, EXPLAIN_WORDS, VIEW_USAGE, VIEW_WORDS, TRACE_USAGE, TRACE_WORDS, SUITE_USAGE, SUITE_WORDS, RELAX_USAGE, RELAX_WORDS, HELP_USAGE, HELP_WORDS, VERSION_USAGE, VERSION_WORDS}

-- The line that says which words a command takes.
abbrev pub usage_of : Command → List ℕ
usage_of Check = CHECK_USAGE.now
usage_of Run = RUN_USAGE.now
usage_of Judge = JUDGE_USAGE.now
usage_of Threads = THREADS_USAGE.now
usage_of Explain = EXPLAIN_USAGE.now
usage_of View = VIEW_USAGE.now
usage_of Trace = TRACE_USAGE.now
usage_of Suite = SUITE_USAGE.now
usage_of Relax = RELAX_USAGE.now
usage_of Help = HELP_USAGE.now
usage_of Version = VERSION_USAGE.now

-- What these words mean, and the statuses.
abbrev pub meanings_of : Command → List ℕ
meanings_of Check = CHECK_WORDS.now
meanings_of Run = RUN_WORDS.now
meanings_of Judge = JUDGE_WORDS.now
meanings_of Threads = THREADS_WORDS.now
meanings_of Explain = EXPLAIN_WORDS.now
meanings_of View = VIEW_WORDS.now
meanings_of Trace = TRACE_WORDS.now
meanings_of Suite = SUITE_WORDS.now
meanings_of Relax = RELAX_WORDS.now
meanings_of Help = HELP_WORDS.now
meanings_of Version = VERSION_WORDS.now

-- What a command takes and answers.
abbrev pub page_of : Command → List ℕ
page_of c = usage_of c ++ meanings_of c

-- What stands below the line of words that aren't understood: nothing for the four commands whose faults are one line.
abbrev pub usage_told : Command → List ℕ
usage_told Check = []
usage_told Run = []
usage_told Judge = []
usage_told Threads = []
usage_told Explain = EXPLAIN_USAGE.now
usage_told View = VIEW_USAGE.now
usage_told Trace = TRACE_USAGE.now
usage_told Suite = SUITE_USAGE.now
usage_told Relax = RELAX_USAGE.now
usage_told Help = HELP_USAGE.now
usage_told Version = VERSION_USAGE.now

-- The program's name and its version.
abbrev pub version_text : List ℕ
version_text = codes "kr " ++ (VERSION.now ++ 10 ∷ [])

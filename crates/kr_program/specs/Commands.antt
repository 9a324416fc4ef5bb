-- The commands, by their words.
use Rattle.std.specs.Prelude.{◌≡◌, ℕ, List, codes}
use Rattle.kr_program.specs.declared.commands.Command.{Command}
use Rattle.kr_program.specs.declared.commands.Command.TheVariants.{Check, Run, Judge, Threads, Explain, View, Trace, Suite, Relax, Help, Version}

-- The word of a command.
abbrev pub word_of : Command → List ℕ
word_of Check = codes "check"
word_of Run = codes "run"
word_of Judge = codes "judge"
word_of Threads = codes "threads"
word_of Explain = codes "explain"
word_of View = codes "view"
word_of Trace = codes "trace"
word_of Suite = codes "suite"
word_of Relax = codes "relax"
word_of Help = codes "help"
word_of Version = codes "version"

-- A word is that of no command.
abbrev pub IsNoCommand : List ℕ → Type 0
IsNoCommand word = (c : Command) → word ≡ word_of c → ⊥

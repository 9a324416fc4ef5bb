use Rattle.std.specs.Prelude.{◌≡◌, ◌<◌, ◌+◌, length}
use Rattle.kr_explain_causes.proofs.Tried.{passed}
use Rattle.kr_explain_causes.proofs.trials.modes_but.Given as goal

-- there are so many as were passed, without the one, or with the one before them
abbrev pub invariant-loop-mode : goal.invariant-loop-mode
invariant-loop-mode l = record {
  some : 0 < l.mode;
  few : length l.modes.items + passed l.one l.mode + 1 ≡ length l.initial.modes.items + l.mode;
}

use Rattle.std.proofs.Common.{◌≡◌}
use Rattle.std.specs.Prelude.{filter}
use Rattle.kr_model.specs.Covers.{count_up}
use Rattle.kr_explain_text.proofs.Sets.{has}
use Rattle.kr_explain_text.proofs.edits.modes_in.Given as goal

-- the modes of the set so far
abbrev pub invariant-loop-mode : goal.invariant-loop-mode
invariant-loop-mode l = l.modes.items ≡ filter (has l.set) (count_up 0 l.mode)

use Rattle.std.proofs.Common.{ℕ, ◌<◌}
use Rattle.kr_table.specs.Matrix.{IsNamed}
use Rattle.kr_table.proofs.modes.Modes.find.Given as goal

-- no mode so far has the name
abbrev pub invariant-loop-mode : goal.invariant-loop-mode
invariant-loop-mode l = (m : ℕ) → m < l.mode → IsNamed l.self l.name m → ⊥

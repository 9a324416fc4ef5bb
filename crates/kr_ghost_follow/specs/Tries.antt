-- What comes of a step, with what it leaves.
use Rattle.std.specs.Prelude.{List}
use Rattle.kr_ghost.specs.State.{GhostState}
use Rattle.kr_trace_follow.specs.declared.scans.Progress.{Progress}
use Rattle.kr_ghost_follow.specs.Points.{Moment, Tried}
use Rattle.kr_trace_follow.specs.Lines.{Line}
use Rattle.kr_ghost_follow.specs.declared.line.Logged.{Logged}
use Rattle.kr_ghost_follow.specs.declared.tries.Outcome.{Outcome}

-- A moment.
abbrev pub moment : GhostState → List Progress → Moment
moment s scans = record { state = s; scans = scans }

-- What came of a step that left this moment.
abbrev pub tried_so : Outcome → Moment → Tried
tried_so y m = record { op = y.op; ahead = y.ahead.items; reply = y.reply; left = m }

-- A line.
abbrev pub line_of : Logged → Line
line_of l = record { number = l.number; event = l.event; observed = l.observed.now }

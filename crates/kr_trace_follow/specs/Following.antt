-- How far the lines of a trace have been followed.
use Rattle.std.specs.Prelude.{ℕ, ◌+◌, ◌-◌, ◌^◌, Bool, List, [], ◌∷◌, ◌++◌, Option, Some, None, if◌then◌else◌, min}
use Rattle.kr_model.specs.declared.Event.{Event}
use Rattle.kr_model.specs.Protocol.{Protocol}
use Rattle.kr_model.specs.Map.{Map}
use Rattle.kr_model.specs.Locks.{Locks, Holder}
use Rattle.kr_model.specs.State.{State, start}
use Rattle.kr_trace_lines.specs.declared.deviation.Deviation.{Deviation}
use Rattle.kr_trace_follow.specs.Deviates.{since_left, deviation_at, is_queued_at}
use Rattle.kr_trace_follow.specs.Lines.{Line}
use Rattle.kr_trace_follow.specs.Since.{lines_of}
use Rattle.kr_trace_follow.specs.Steps.{attempt_at, last_of, steps_of, outcome_of}
use Rattle.kr_trace_follow.specs.Waits.{waiting_after}

-- Where lines have led --

-- The state under the table, the holders of locks with the lines since which they hold them, the locks that are waited for, and how many lines were queued.
pub record Point : Type 0 where
  pub state : State
  pub since : List (Holder × ℕ)
  pub waiting : Locks
  pub queued : ℕ

-- Before any line.
abbrev pub at_start : Map → Point
at_start opening = record { state = start opening; since = []; waiting = []; queued = 0 }

-- One line more is queued, or none; the count stays at its greatest number.
abbrev pub counted : ℕ → Bool → ℕ
counted n is_queued = if is_queued then min (n + 1) (2 ^ 64 - 1) else n

-- After a line.
abbrev pub point_after : Protocol → Point → Line → Point
point_after p at l =
    let done = outcome_of p at.waiting at.state l in
    let last = last_of p at.waiting at.state l in
    record {
      state = done.1;
      since = let s = done.1 in lines_of s.locks (since_left p at.since at.waiting at.state l);
      waiting = waiting_after p at.waiting l.event.txn (attempt_at done.1 last.op) l.observed;
      queued = counted at.queued (is_queued_at p at.waiting at.state l);
    }

-- The first line that deviates --

-- The first, or else the later.
abbrev pub or_later : Option Deviation → Option Deviation → Option Deviation
or_later (Some d) later = Some d
or_later None later = later

-- The deviation of the first of the lines that deviates, where they are followed one after another.
abbrev pub deviation : Protocol → Point → List Line → Option Deviation
deviation p at [] = None
deviation p at (l ∷ ls) = or_later (deviation_at p at.since at.waiting at.state l) (deviation p (point_after p at l) ls)

-- Where all the lines lead.
abbrev pub point_left : Protocol → Point → List Line → Point
point_left p at [] = at
point_left p at (l ∷ ls) = point_left p (point_after p at l) ls

-- The steps of all the lines, in their order.
abbrev pub steps_in : Protocol → Point → List Line → List Event
steps_in p at [] = []
steps_in p at (l ∷ ls) = steps_of p at.waiting at.state l ++ steps_in p (point_after p at l) ls

-- A follower --

-- Where the lines so far have led, and the deviation of the first of them that deviates: behind that line none is followed.
pub record Following : Type 0 where
  pub at : Point
  pub found : Option Deviation

-- No line has been followed from this opening map.
abbrev pub begun : Map → Following
begun opening = record { at = at_start opening; found = None }

-- A line is followed where none before it deviates.
abbrev pub followed : Protocol → Option Deviation → Following → Line → Following
followed p (Some d) f l = f
followed p None f l = record { at = point_after p f.at l; found = let at = f.at in deviation_at p at.since at.waiting at.state l }

-- One more line.
abbrev pub next : Protocol → Following → Line → Following
next p f l = followed p f.found f l

-- Lines one after another.
abbrev pub after_lines : Protocol → Following → List Line → Following
after_lines p f [] = f
after_lines p f (l ∷ ls) = after_lines p (next p f l) ls

-- A follower as contracts see it: its protocol, how far it has followed lines, and whether it was given up, for want of memory.
pub record Follows (P : Type 0) : Type 0 where
  pub protocol : P
  pub following : Following
  pub lost : Bool

use Rattle.std.proofs.Common.{◌<◌, ℕ}
use Rattle.kr_records.specs.Notes.{AgreeAt}
use Rattle.kr_records.proofs.watch.Watch.meet.Given as goal

-- they agree at the places looked at so far
abbrev pub invariant-loop-place : goal.invariant-loop-place
invariant-loop-place g l = (k : ℕ) → k < l.place → AgreeAt l.self l.other k

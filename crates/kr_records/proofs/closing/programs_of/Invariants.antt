use Rattle.std.proofs.Common.{◌≡◌, take}
use Rattle.kr_model.specs.Log.{log_after, no_log}
use Rattle.kr_records.specs.Histories.{events_with_replies}
use Rattle.kr_records.proofs.closing.programs_of.Given as goal

-- the log is that of the entries so far
abbrev pub invariant-loop-entry : goal.invariant-loop-entry
invariant-loop-entry l = l.log.log ≡ log_after no_log (events_with_replies (take l.entry-index l.entries))

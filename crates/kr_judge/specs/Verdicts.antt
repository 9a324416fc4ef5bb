-- Verdicts on committed programs, and on runs.
use Rattle.std.specs.Prelude.{List, Option, Some, None}
use Rattle.kr_model.specs.declared.Event.{Event}
use Rattle.kr_model.specs.Protocol.{Protocol}
use Rattle.kr_model.specs.Map.{Map}
use Rattle.kr_model.specs.State.{start}
use Rattle.kr_model.specs.Run.{run, programs}
use Rattle.kr_model.specs.Difference.{Difference, first_difference}
use Rattle.kr_judge.specs.declared.verdict.Verdict.{Verdict}
use Rattle.kr_judge.specs.declared.verdict.Verdict.TheVariants.{Serial, NotSerial}

-- The verdict that tells a first difference: programs that have none are serializable.
abbrev pub verdict_of : Option Difference → Verdict
verdict_of None = Serial
verdict_of (Some d) = NotSerial d.txn d.operation d.given d.serial

-- The verdict on the run of the events under a protocol from an opening map: that of its committed programs.
abbrev pub verdict_of_run : Protocol → Map → List Event → Verdict
verdict_of_run p opening events = verdict_of (first_difference opening (programs (run p (start opening) events).history))

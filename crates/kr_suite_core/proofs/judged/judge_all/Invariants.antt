use Rattle.std.proofs.Common.{◌≡◌, take, All}
use Rattle.kr_suite_core.specs.Judged.{IsJudged, changes_in}
use Rattle.kr_suite_core.proofs.judged.judge_all.Given as goal

-- the changes so far were judged
abbrev pub invariant-loop-change : goal.invariant-loop-change
invariant-loop-change g l = (changes_in l.judged.items ≡ take l.change-index l.changes) × All (IsJudged (g.P.IndexProtocol.index l.protocol)) l.judged.items

use Rattle.std.proofs.Common.{◌≡◌, take, All}
use Rattle.kr_kinds.specs.Kinds.{Gone}
use Rattle.kr_suite_core.specs.Judged.{IsJudged, changes_in}
use Rattle.kr_suite_core.proofs.again.look_at_all.Given as goal

-- the changes so far were judged again
abbrev pub invariant-loop-one : goal.invariant-loop-one
invariant-loop-one g l = (changes_in l.again.items ≡ changes_in (take l.one-index l.judged)) × All (IsJudged (Gone (g.P.Protocol.table l.protocol))) l.again.items

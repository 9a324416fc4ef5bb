use Rattle.kr_explain_runs.specs.Moments.{AreAside}
use Rattle.kr_explain_runs.proofs.marks.is_last.Given as goal

-- The places so far have no other step of the holder about the name.
abbrev pub invariant-loop-place : goal.invariant-loop-place
invariant-loop-place g l = AreAside (g.P.Protocol.table l.protocol) l.script l.name l.place

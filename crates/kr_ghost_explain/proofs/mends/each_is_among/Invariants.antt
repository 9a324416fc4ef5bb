use Rattle.std.specs.Prelude.{All, take}
use Rattle.kr_ghost_explain.specs.Mends.{IsAmong}
use Rattle.kr_ghost_explain.proofs.mends.each_is_among.Given as goal

-- each so far is of one of the cases
abbrev pub invariant-loop-case : goal.invariant-loop-case
invariant-loop-case l = All (λ f. IsAmong f l.cases) (take l.case-index l.failed)

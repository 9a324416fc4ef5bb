use Rattle.std.proofs.Common.{sym, subst, ap, All}
use Rattle.kr_explain_causes.specs.declared.cause.Tally.{Tally}
use Rattle.kr_explain_causes.specs.Shares.{IsNamedBy}
use Rattle.kr_explain_causes.proofs.Named.{reason_at}
use Rattle.kr_explain_causes.proofs.cause.count_each.Goals as goal
use Rattle.kr_explain_causes.proofs.cause.count_each.Goals.{in-Some+in_ok-count, in_default}

-- one reason more was counted, before a growth was refused
pub returns-in_err-count : goal.returns-in_err-count
returns-in_err-count c = λ suspects named all.
    c.count.ensures suspects (named c.in-Some.blame (reason_at c.args.reasons.now c.loop-reason.reason-index _ c.in-Some.blame c.loop-reason-test.true c.in-Some.is)) (c.loop-reason.invariant suspects named all)

-- one reason more is counted, if it is there
pub loop-reason-preserved : goal.loop-reason-preserved
loop-reason-preserved c = λ suspects named all.
    let P : Tally → Type 0 = λ t. IsNamedBy suspects t.blame t.first in
    let before = c.loop-reason.invariant suspects named all in
    elim c.match-reason.branch [
      | in-Some+in_ok-count w ↦
          subst (All P) (sym (ap (λ v. v.items) w.tallies-is))
          (w.count.ensures suspects (named w.in-Some.blame (reason_at c.args.reasons.now c.loop-reason.reason-index _ w.in-Some.blame c.loop-reason-test.true w.in-Some.is)) before)
      | in_default w ↦ subst (All P) (sym (ap (λ v. v.items) w.tallies-is)) before
    ]

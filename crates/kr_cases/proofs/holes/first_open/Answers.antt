use Rattle.std.proofs.Common.{◌≡◌, ◌<◌, Some, length, get_or, sym, subst}
use Rattle.std.specs.List.{filter}
use Rattle.kr_model.specs.declared.Row.TheVariants.{FetchHit}
use Rattle.kr_model.specs.declared.Side.TheVariants.{Current}
use Rattle.kr_model.specs.Covers.{is_open, requesters_at, must_conflict}
use Rattle.kr_model.specs.Firsts.{first}
use Rattle.kr_cases.proofs.Firsts.{listed_found}
use Rattle.kr_cases.proofs.holes.first_open.Goals as goal

pub returns-in-Some : goal.returns-in-Some
returns-in-Some g c =
    let p = g.P.Protocol.table c.args.protocol.now in
    let i = c.loop-ask.ask-index in
    let asks = c.must_conflict-ask-items.ensures in
    sym (listed_found (is_open p c.args.held) (requesters_at p) (must_conflict p c.args.cover) i (FetchHit, Current) c.in-Some.requester
    (subst (λ xs. i < length xs) asks c.loop-ask-test.true) c.loop-ask.invariant
    (sym (subst (λ xs. Some c.in-Some.requester ≡ first (filter (is_open p c.args.held) (requesters_at p (get_or xs i (FetchHit, Current))))) asks c.in-Some.ensures)))

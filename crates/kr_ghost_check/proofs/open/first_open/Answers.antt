use Rattle.std.proofs.Common.{◌≡◌, ◌<◌, Some, length, get_or, sym, subst}
use Rattle.std.specs.List.{filter}
use Rattle.kr_model.specs.Firsts.{first}
use Rattle.kr_ghost.specs.declared.cases.Access.TheVariants.{Fetch}
use Rattle.kr_ghost.specs.Covers.{is_open, requesters, accesses}
use Rattle.kr_cases.proofs.Firsts.{listed_found}
use Rattle.kr_ghost_check.proofs.open.first_open.Goals as goal

pub returns-in-Some : goal.returns-in-Some
returns-in-Some g c =
    let p = g.P.GhostProtocol.ghosts c.args.protocol.now in
    let i = c.loop-access.access-index in
    let listed = c.accesses-access-items.ensures in
    sym (listed_found (is_open p c.args.held) (requesters p) (accesses p c.args.cover) i Fetch c.in-Some.requester
    (subst (λ xs. i < length xs) listed c.loop-access-test.true) c.loop-access.invariant
    (sym (subst (λ xs. Some c.in-Some.requester ≡ first (filter (is_open p c.args.held) (requesters p (get_or xs i Fetch)))) listed c.in-Some.ensures)))

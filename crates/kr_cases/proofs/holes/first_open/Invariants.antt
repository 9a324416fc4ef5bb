use Rattle.std.proofs.Common.{◌≡◌, take, []}
use Rattle.std.specs.List.{filter, flat_map}
use Rattle.kr_model.specs.Covers.{requesters_at, must_conflict, is_open}
use Rattle.kr_cases.proofs.holes.first_open.Given as goal

-- no requester so far gets through
abbrev pub invariant-loop-ask : goal.invariant-loop-ask
invariant-loop-ask g l =
    let p = g.P.Protocol.table l.protocol in
    filter (is_open p l.held) (flat_map (requesters_at p) (take l.ask-index (must_conflict p l.fn.cover))) ≡ []

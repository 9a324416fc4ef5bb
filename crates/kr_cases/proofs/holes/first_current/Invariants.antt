use Rattle.std.proofs.Common.{◌≡◌, map, []}
use Rattle.std.specs.List.{filter, flat_map}
use Rattle.kr_model.specs.Covers.{count_up, requester, is_open, modes_or_none}
use Rattle.kr_model.specs.declared.Side.TheVariants.{Current}
use Rattle.kr_cases.proofs.holes.first_current.Given as goal

-- no requester so far gets through
abbrev pub invariant-loop-own : goal.invariant-loop-own
invariant-loop-own g l =
    let p = g.P.Protocol.table l.protocol in
    filter (is_open p l.held) (flat_map (λ o. map (λ n. requester (l.row, Current) o n) (modes_or_none p)) (count_up 0 l.own)) ≡ []

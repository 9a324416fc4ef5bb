use Rattle.std.proofs.Common.{◌≡◌, map, []}
use Rattle.std.specs.List.{filter}
use Rattle.kr_model.specs.Covers.{count_up, requester, is_open}
use Rattle.kr_model.specs.declared.Side.TheVariants.{Current}
use Rattle.kr_cases.proofs.holes.first_holding.Given as goal

-- no requester so far gets through
abbrev pub invariant-loop-own_next : goal.invariant-loop-own_next
invariant-loop-own_next g l = filter (is_open (g.P.Protocol.table l.protocol) l.held) (map (λ o. requester (l.row, Current) l.own o) (count_up 0 l.own_next)) ≡ []

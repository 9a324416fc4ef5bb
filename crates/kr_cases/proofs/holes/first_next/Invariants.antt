use Rattle.std.proofs.Common.{◌≡◌, map, []}
use Rattle.std.specs.List.{filter}
use Rattle.kr_model.specs.Covers.{count_up, requester, is_open}
use Rattle.kr_model.specs.declared.Side.TheVariants.{Next}
use Rattle.kr_cases.proofs.holes.first_next.Given as goal

-- no requester so far gets through
abbrev pub invariant-loop-own : goal.invariant-loop-own
invariant-loop-own g l = filter (is_open (g.P.Protocol.table l.protocol) l.held) (map (λ o. requester (l.row, Next) o o) (count_up 0 l.own)) ≡ []

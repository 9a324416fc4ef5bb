-- the own modes so far that lead to the request
use Rattle.std.proofs.Common.{◌≡◌}
use Rattle.std.specs.List.{filter}
use Rattle.kr_model.specs.Covers.{count_up}
use Rattle.kr_change.specs.Every.{is_same_request}
use Rattle.kr_view_table.proofs.rules.owns_of.Given as goal

abbrev pub invariant-loop-own : goal.invariant-loop-own
invariant-loop-own g l = l.owns.items ≡ filter (λ o. is_same_request ((g.P.Protocol.table l.protocol).ask l.row l.side o) l.asked) (count_up 0 l.own)

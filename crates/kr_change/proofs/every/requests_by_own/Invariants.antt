use Rattle.std.proofs.Common.{◌≡◌, ◌++◌}
use Rattle.std.specs.List.{flat_map}
use Rattle.kr_model.specs.Covers.{count_up}
use Rattle.kr_change.specs.Every.{requests_with}
use Rattle.kr_change.proofs.every.requests_by_own.Given as goal

-- the changes so far stand behind those of before
abbrev pub invariant-loop-own : goal.invariant-loop-own
invariant-loop-own g l =
    let p = g.P.Protocol.table l.protocol in
    l.changes.items ≡ l.fn.changes.items ++ flat_map (requests_with p l.row l.side) (count_up 0 l.own)

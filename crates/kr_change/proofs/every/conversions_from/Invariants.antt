use Rattle.std.proofs.Common.{◌≡◌, ◌-◌, ◌++◌}
use Rattle.std.specs.List.{flat_map}
use Rattle.kr_model.specs.Covers.{count_up}
use Rattle.kr_change.specs.Every.{converted_to}
use Rattle.kr_change.proofs.every.conversions_from.Given as goal

-- the changes so far stand behind those of before
abbrev pub invariant-loop-mode : goal.invariant-loop-mode
invariant-loop-mode g l =
    let p = g.P.Protocol.table l.protocol in
    l.changes.items ≡ l.fn.changes.items ++ flat_map (converted_to p l.held l.requested) (count_up 1 (l.mode - 1))

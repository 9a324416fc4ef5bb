use Rattle.std.proofs.Common.{◌≡◌, ◌-◌, ◌++◌}
use Rattle.std.specs.List.{flat_map}
use Rattle.kr_model.specs.Covers.{count_up}
use Rattle.kr_change.specs.Every.{conversions_of}
use Rattle.kr_change.proofs.every.conversions.Given as goal

-- the changes so far stand behind those of before
abbrev pub invariant-loop-held : goal.invariant-loop-held
invariant-loop-held g l =
    let p = g.P.Protocol.table l.protocol in
    l.changes.items ≡ l.fn.changes.items ++ flat_map (conversions_of p) (count_up 1 (l.held - 1))

use Rattle.std.proofs.Common.{◌≡◌, ◌-◌, ◌++◌}
use Rattle.std.specs.List.{flat_map}
use Rattle.kr_model.specs.Covers.{count_up}
use Rattle.kr_change.specs.Every.{compatibles_of}
use Rattle.kr_change.proofs.every.compatibles.Given as goal

-- the changes so far stand behind those of before
abbrev pub invariant-loop-requested : goal.invariant-loop-requested
invariant-loop-requested g l =
    let p = g.P.Protocol.table l.protocol in
    l.changes.items ≡ l.fn.changes.items ++ flat_map (compatibles_of p) (count_up 1 (l.requested - 1))

use Rattle.std.proofs.Common.{◌≡◌, ◌-◌, ◌++◌}
use Rattle.std.specs.List.{flat_map}
use Rattle.kr_model.specs.Covers.{count_up}
use Rattle.kr_relax_core.specs.Unused.{pairs_with}
use Rattle.kr_relax_core.proofs.unused.pairs.Given as goal

-- the entries so far stand behind those of before
abbrev pub invariant-loop-requested : goal.invariant-loop-requested
invariant-loop-requested g l =
    let p = g.P.Protocol.table l.protocol in
    l.entries.items ≡ l.fn.entries.items ++ flat_map (pairs_with p) (count_up 1 (l.requested - 1))

use Rattle.std.proofs.Common.{◌≡◌, ◌-◌, ◌++◌, None}
use Rattle.std.specs.List.{flat_map}
use Rattle.kr_model.specs.Covers.{count_up}
use Rattle.kr_change.specs.Every.{requests_in, offered}
use Rattle.kr_change.proofs.every.requests_to.Given as goal

-- the changes so far stand behind those of before
abbrev pub invariant-loop-mode : goal.invariant-loop-mode
invariant-loop-mode g l =
    let p = g.P.Protocol.table l.protocol in
    l.changes.items ≡ (l.fn.changes.items ++ offered l.entry None) ++ flat_map (requests_in l.entry) (count_up 1 (l.mode - 1))

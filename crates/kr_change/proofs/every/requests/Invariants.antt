use Rattle.std.proofs.Common.{◌≡◌, ◌++◌, take}
use Rattle.std.specs.List.{flat_map}
use Rattle.kr_change.specs.Every.{requests_at, places}
use Rattle.kr_change.proofs.every.requests.Given as goal

-- the changes of the places so far stand behind those of before
abbrev pub invariant-loop-place : goal.invariant-loop-place
invariant-loop-place g l =
    let p = g.P.Protocol.table l.protocol in
    l.changes.items ≡ l.fn.changes.items ++ flat_map (requests_at p) (take l.place-index (places p))

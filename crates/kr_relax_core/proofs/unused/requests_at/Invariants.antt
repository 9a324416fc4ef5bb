use Rattle.std.proofs.Common.{◌≡◌, ◌++◌, ◌∷◌, []}
use Rattle.std.specs.List.{flat_map}
use Rattle.kr_model.specs.Covers.{count_up}
use Rattle.kr_relax_core.specs.declared.unused.Entry.TheVariants.{Request}
use Rattle.kr_relax_core.proofs.unused.requests_at.Given as goal

-- the entries so far stand behind those of before
abbrev pub invariant-loop-own_next : goal.invariant-loop-own_next
invariant-loop-own_next g l =
    let p = g.P.Protocol.table l.protocol in
    l.entries.items ≡ l.fn.entries.items ++ flat_map (λ o. Request l.row l.side o ∷ []) (count_up 0 l.own_next)

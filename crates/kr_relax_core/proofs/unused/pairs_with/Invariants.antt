use Rattle.std.proofs.Common.{◌≡◌, ◌-◌, ◌++◌, ◌∷◌, []}
use Rattle.std.specs.List.{flat_map}
use Rattle.kr_model.specs.Covers.{count_up}
use Rattle.kr_relax_core.specs.declared.unused.Entry.TheVariants.{Pair}
use Rattle.kr_relax_core.proofs.unused.pairs_with.Given as goal

-- the entries so far stand behind those of before
abbrev pub invariant-loop-held : goal.invariant-loop-held
invariant-loop-held g l =
    let p = g.P.Protocol.table l.protocol in
    l.entries.items ≡ l.fn.entries.items ++ flat_map (λ h. Pair l.requested h ∷ []) (count_up 1 (l.held - 1))

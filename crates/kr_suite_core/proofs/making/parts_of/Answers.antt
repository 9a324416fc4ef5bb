use Rattle.std.proofs.Common.{◌∙◌, sym, subst, All, List}
use Rattle.std.specs.List.{Contains, filter_map}
use Rattle.kr_change.specs.declared.change.Change.{Change}
use Rattle.kr_change.specs.GhostEvery.{index_changes_of}
use Rattle.kr_suite_core.specs.Judged.{other_of}
use Rattle.kr_suite_core.proofs.Tried.{others_within}
use Rattle.kr_suite_core.proofs.making.parts_of.Goals as goal

-- the others are changes of the table
pub try_all-requires : goal.try_all-requires
try_all-requires g c =
    let p = g.P.IndexProtocol.index c.args.protocol.now in
    subst (λ (cs : List Change). All (Contains (index_changes_of p)) cs) (sym (c.deref-2.ensures.value ∙ c.in_ok-others.ensures))
    (subst (λ (xs : List Change). All (Contains xs) (filter_map other_of c.args.judged.now)) c.requires (others_within c.args.judged.now))

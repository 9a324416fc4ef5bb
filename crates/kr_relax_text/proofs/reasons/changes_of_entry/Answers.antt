use Rattle.std.proofs.Common.{◌≡◌, ◌∙◌, IfOk, List, sym, subst}
use Rattle.kr_change.specs.GhostEvery.{index_changes_of}
use Rattle.kr_change.specs.declared.change.Change.{Change}
use Rattle.kr_model.specs.Protocol.{Protocol}
use Rattle.kr_relax_core.proofs.OfKind.{same_table}
use Rattle.kr_relax_text.specs.Reasons.{of_entry}
use Rattle.kr_relax_text.proofs.reasons.changes_of_entry.Goals as goal

pub returns : goal.returns
returns g c =
    let p = g.P.IndexProtocol.index c.args.protocol.now in
    let names = g.P.Protocol.names c.args.protocol.now in
    let same = same_table p _ _ (g.met.P.IndexProtocol.has_tables c.args.protocol.now) (g.met.P.GhostProtocol.tables c.args.protocol.now) in
    subst (λ (t : Protocol). IfOk c.of_entry.result (λ list. list.items ≡ of_entry t names c.args.name.now (index_changes_of p))) (sym same)
    (subst (λ (all : List Change). IfOk c.of_entry.result (λ list. list.items ≡ of_entry (g.P.Protocol.table c.args.protocol.now) names c.args.name.now all)) (c.deref.ensures.value ∙ c.in_ok-all.ensures) c.of_entry.ensures)

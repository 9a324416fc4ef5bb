use Rattle.std.proofs.Common.{◌≡◌, ◌∙◌, ap, sym}
use Rattle.kr_model.specs.Protocol.{Protocol}
use Rattle.kr_kinds.specs.Kinds.{table_of}
use Rattle.kr_stepping.proofs.EitherRuns.{same_table}
use Rattle.kr_suite_text.proofs.either.offers_updates.Goals as goal

pub returns : goal.returns
returns g c =
    let p = c.args.protocol.now in
    let same : table_of (g.P.IndexProtocol.index p) ≡ g.P.Protocol.table p = same_table (g.P.IndexProtocol.index p) _ _ (g.met.P.IndexProtocol.has_tables p) (g.met.P.GhostProtocol.tables p) in
    c.updates.ensures ∙ ap (λ (t : Protocol). t.updates) (sym same)

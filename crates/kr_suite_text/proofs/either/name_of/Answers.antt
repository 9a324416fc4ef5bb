use Rattle.std.proofs.Common.{◌≡◌, IfOk, string_bytes, subst, sym}
use Rattle.kr_model.specs.Protocol.{Protocol}
use Rattle.kr_change.specs.ChangeNames.{change_words}
use Rattle.kr_kinds.specs.Kinds.{table_of}
use Rattle.kr_stepping.proofs.EitherRuns.{same_table}
use Rattle.kr_suite_text.proofs.either.name_of.Goals as goal

pub returns : goal.returns
returns g c =
    let p = c.args.protocol.now in
    let same : table_of (g.P.IndexProtocol.index p) ≡ g.P.Protocol.table p = same_table (g.P.IndexProtocol.index p) _ _ (g.met.P.IndexProtocol.has_tables p) (g.met.P.GhostProtocol.tables p) in
    subst (λ (t : Protocol). IfOk c.change_text.result (λ text. string_bytes text ≡ change_words t (g.P.Protocol.names p) c.args.change)) (sym same) c.change_text.ensures

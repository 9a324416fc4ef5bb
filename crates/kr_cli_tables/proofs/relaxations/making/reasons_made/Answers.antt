use Rattle.std.proofs.Common.{◌≡◌, ◌==◌, length, rules, string_bytes}
use Rattle.kr_relax_core.proofs.OfKind.{same_table}
use Rattle.kr_cli_tables.proofs.RelaxMade.{tells_reasons}
use Rattle.kr_cli_tables.proofs.relaxations.making.reasons_made.Goals as goal

pub returns : goal.returns
returns g c =
    let p = g.P.IndexProtocol.index c.args.protocol.now in
    let empty : c.is_empty.result ≡ (length c.in_ok-changes.changes.items == 0) = search (rules, c.is_empty.ensures) in
    tells_reasons p (g.P.Protocol.table c.args.protocol.now) (g.P.Protocol.names c.args.protocol.now) c.args.entry.now (string_bytes c.in_ok-reasons_text.field-0) c.in_ok-changes.changes.items c.deref.result.now c.in_ok-list.list.items c.deref-2.result.now c.deref-3.result.now c.is_empty.result c.one_relaxes.result
    (same_table p _ _ (g.met.P.IndexProtocol.has_tables c.args.protocol.now) (g.met.P.GhostProtocol.tables c.args.protocol.now))
    c.in_ok-changes.ensures empty c.if-is_empty.false c.deref.ensures.value c.in_ok-list.ensures c.deref-2.ensures.value c.in_ok-reasons_text.ensures c.deref-3.ensures.value c.one_relaxes.ensures

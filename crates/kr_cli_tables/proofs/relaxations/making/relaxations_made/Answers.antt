use Rattle.std.proofs.Common.{◌≡◌, ◌==◌, ◌++◌, length, rules, string_bytes}
use Rattle.kr_relax_core.proofs.OfKind.{same_table}
use Rattle.kr_cli_tables.proofs.RelaxMade.{tells_all}
use Rattle.kr_cli_tables.proofs.relaxations.making.relaxations_made.Goals as goal

pub returns : goal.returns
returns g c =
    let verdict : c.is_empty.result ≡ (length c.in_ok-found.found.items == 0) = search (rules, c.is_empty.ensures) in
    let text : string_bytes c.in_ok-text.text ≡ string_bytes c.in_ok-relaxed.relaxed ++ string_bytes c.in_ok-unused.unused = search (rules, c.in_ok-text.ensures) in
    tells_all (g.P.IndexProtocol.index c.args.protocol.now) (g.P.Protocol.table c.args.protocol.now) (g.P.Protocol.names c.args.protocol.now) c.deref.result.now c.in_ok-found.found.items c.deref-2.result.now c.in_ok-list.list.items c.deref-3.result.now c.in_ok-entries.entries.items
    (string_bytes c.in_ok-relaxed.relaxed) (string_bytes c.in_ok-unused.unused) (string_bytes c.in_ok-text.text) c.is_empty.result
    (same_table (g.P.IndexProtocol.index c.args.protocol.now) _ _ (g.met.P.IndexProtocol.has_tables c.args.protocol.now) (g.met.P.GhostProtocol.tables c.args.protocol.now))
    c.in_ok-found.ensures.exactly
    c.deref.ensures.value
    c.in_ok-list.ensures
    c.deref-2.ensures.value
    c.in_ok-relaxed.ensures
    c.in_ok-entries.ensures
    c.deref-3.ensures.value
    c.in_ok-unused.ensures
    text
    verdict

use Rattle.std.specs.Prelude.{string_bytes}
use Rattle.kr_model.specs.declared.Row.TheVariants.{FetchHit}
use Rattle.kr_view_table.specs.Rules.{offered, rule_row}
use Rattle.kr_view_table.proofs.Pieces.{item_more}
use Rattle.kr_view_table.proofs.rules.rule_rows.Goals as goal

pub loop-row-preserved : goal.loop-row-preserved
loop-row-preserved g c =
    let p = g.P.Protocol.table c.args.protocol.now in
    item_more (rule_row p (g.P.Protocol.names c.args.protocol.now) c.args.causes.now) c.offered-row-items.result.now (offered p) c.loop-row.row-index FetchHit (string_bytes c.loop-row.out) (string_bytes c.in_ok-piece.piece) c.as_str.result.now (string_bytes c.push_str.new.self) c.offered-row-items.ensures c.loop-row-test.true c.loop-row.invariant c.as_str.ensures.value c.in_ok-piece.ensures c.in_ok-push_str.ensures.bytes

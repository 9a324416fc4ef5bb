use Rattle.toml.proofs.Views.{items_view-drop}
use Rattle.kr_table.proofs.Lists.{tells_more}
use Rattle.kr_table.proofs.walk.rules.test_clauses.Goals as goal

pub returns-in-Err : goal.returns-in-Err
returns-in-Err c =
    let list = c.args.list.now in
    let i = c.loop-i.i in
    let drops = items_view-drop list i c.index-list-i.result c.loop-i-test.true in
    rw (c.loop-i.invariant, drops, ← c.index-list-i.is) (tells_more c.in-Err.e _ _ c.in-Err.ensures)

use Rattle.std.proofs.Common.{◌≡◌, ◌<◌, length, rules, vec_len}
use Rattle.kr_cli_tables.proofs.RelaxTaken.{is_one, not_tight, some_if, tight_if_none}
use Rattle.kr_cli_tables.proofs.relaxations.tightest.take_shown.Goals as goal

pub returns-then-is_empty : goal.returns-then-is_empty
returns-then-is_empty g c =
    let none : length c.in_ok-list.list.items ≡ 0 = search (rules, c.is_empty.ensures, c.if-is_empty.true) in
    tight_if_none (g.P.IndexProtocol.index c.args.table.now) c.in_ok-list.list.items none c.in_ok-list.ensures.exactly

pub take-requires : goal.take-requires
take-requires g c =
    let least : 0 < vec_len c.in_ok-list.list = some_if (vec_len c.in_ok-list.list) c.is_empty.result c.is_empty.ensures c.if-is_empty.false in
    let some : 0 < length c.in_ok-list.list.items = search (rules, least) in
    is_one (g.P.IndexProtocol.index c.args.table.now) c.in_ok-list.list.items 0 c.index-first.result.now c.in_ok-list.ensures.exactly some c.index-first.ensures

pub take-requires-then-is_shown-2 : goal.take-requires-then-is_shown-2
take-requires-then-is_shown-2 g c =
    let within : c.loop-at.at < length c.in_ok-list.list.items = search (rules, c.loop-at-test.true, c.len-at-end.ensures) in
    is_one (g.P.IndexProtocol.index c.args.table.now) c.in_ok-list.list.items c.loop-at.at c.index.result.now c.loop-at.invariant within c.index.ensures

pub returns : goal.returns
returns g c =
    let least : 0 < vec_len c.in_ok-list.list = some_if (vec_len c.in_ok-list.list) c.is_empty.result c.is_empty.ensures c.if-is_empty.false in
    let some : 0 < length c.in_ok-list.list.items = search (rules, least) in
    not_tight (g.P.IndexProtocol.index c.args.table.now) c.in_ok-list.list.items some c.in_ok-list.ensures.exactly c.in_ok-list.ensures.tight

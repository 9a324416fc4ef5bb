use Rattle.std.proofs.Common.{◌≢◌, ◌+◌, [], take, get_or, rules}
use Rattle.std.proofs.lemmas.List.{take_more}
use Rattle.kr_model.specs.declared.Cover.TheVariants.{ReadKey}
use Rattle.kr_model.specs.Covers.{failure, row_cover, row_cases}
use Rattle.kr_cases.specs.Cases.{failures}
use Rattle.kr_cases.proofs.Listed.{in_listed, list_more, list_gives}
use Rattle.kr_cases.proofs.finder.Finder.row.Goals as goal

pub returns-in_err-row_covers-clause-err : goal.returns-in_err-row_covers-clause-err
returns-in_err-row_covers-clause-err g c =
    let p = g.P.Protocol.table c.args.self.now.protocol.now in
    let some : failures p (row_cases p c.args.rule c.args.row c.args.side c.args.covers.now) ≢ [] = list_gives (failure p) (row_cover p c.args.rule c.args.row c.args.side) c.args.covers.now (get_or c.args.covers.now c.loop-cover.cover-index ReadKey) (in_listed c.args.covers.now c.loop-cover.cover-index ReadKey c.loop-cover-test.true) c.in_err-row_covers.ensures.err in
    search (rules, some)

pub loop-cover-preserved : goal.loop-cover-preserved
loop-cover-preserved g c =
    let p = g.P.Protocol.table c.args.self.now.protocol.now in
    list_more (failure p) (row_cover p c.args.rule c.args.row c.args.side) c.args.failed.now.items c.loop-cover.failed.items c.row_covers.new.failed.items (take c.loop-cover.cover-index c.args.covers.now) (take (c.loop-cover.cover-index + 1) c.args.covers.now) (get_or c.args.covers.now c.loop-cover.cover-index ReadKey) (take_more c.args.covers.now c.loop-cover.cover-index ReadKey c.loop-cover-test.true) c.loop-cover.invariant c.in_ok-row_covers.ensures.ok

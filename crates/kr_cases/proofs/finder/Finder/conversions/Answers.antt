use Rattle.std.proofs.Common.{◌≢◌, ◌+◌, [], take, get_or, rules}
use Rattle.std.specs.List.{flat_map}
use Rattle.std.proofs.lemmas.List.{take_more}
use Rattle.kr_model.specs.declared.Cover.TheVariants.{ReadKey}
use Rattle.kr_model.specs.Covers.{failure, conversions_of}
use Rattle.kr_cases.specs.Cases.{failures}
use Rattle.kr_cases.proofs.Listed.{in_listed, list_more, list_gives}
use Rattle.kr_cases.proofs.finder.Finder.conversions.Goals as goal

pub returns-in_err-conversions_of-clause-err : goal.returns-in_err-conversions_of-clause-err
returns-in_err-conversions_of-clause-err g c =
    let p = g.P.Protocol.table c.args.self.now.protocol.now in
    let some : failures p (flat_map (conversions_of p) c.args.covers.now) ≢ [] = list_gives (failure p) (conversions_of p) c.args.covers.now (get_or c.args.covers.now c.loop-cover.cover-index ReadKey) (in_listed c.args.covers.now c.loop-cover.cover-index ReadKey c.loop-cover-test.true) c.in_err-conversions_of.ensures.err in
    search (rules, some)

pub loop-cover-preserved : goal.loop-cover-preserved
loop-cover-preserved g c =
    let p = g.P.Protocol.table c.args.self.now.protocol.now in
    list_more (failure p) (conversions_of p) c.args.failed.now.items c.loop-cover.failed.items c.conversions_of.new.failed.items (take c.loop-cover.cover-index c.args.covers.now) (take (c.loop-cover.cover-index + 1) c.args.covers.now) (get_or c.args.covers.now c.loop-cover.cover-index ReadKey) (take_more c.args.covers.now c.loop-cover.cover-index ReadKey c.loop-cover-test.true) c.loop-cover.invariant c.in_ok-conversions_of.ensures.ok

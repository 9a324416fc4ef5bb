use Rattle.std.proofs.Common.{◌≢◌, ◌+◌, [], ◌∷◌, take, get_or, rules}
use Rattle.std.proofs.lemmas.List.{take_more}
use Rattle.kr_model.specs.declared.Cover.TheVariants.{ReadKey, ReadGap, DeletedGap}
use Rattle.kr_model.specs.declared.Rule.TheVariants as rule
use Rattle.kr_model.specs.Covers.{failure, splits_of, cases_of}
use Rattle.kr_cases.specs.Cases.{failures}
use Rattle.kr_cases.proofs.Listed.{in_listed, list_more, list_gives}
use Rattle.kr_cases.proofs.finder.Finder.splits.Goals as goal

pub returns-in_err-splits_of-clause-err : goal.returns-in_err-splits_of-clause-err
returns-in_err-splits_of-clause-err g c =
    let p = g.P.Protocol.table c.args.self.now.protocol.now in
    let some : failures p (cases_of p rule.Split) ≢ [] = list_gives (failure p) (splits_of p) (ReadGap ∷ DeletedGap ∷ []) (get_or (ReadGap ∷ DeletedGap ∷ []) c.loop-cover.cover-index ReadKey) (in_listed (ReadGap ∷ DeletedGap ∷ []) c.loop-cover.cover-index ReadKey c.loop-cover-test.true) c.in_err-splits_of.ensures.err in
    search (rules, some)

pub loop-cover-preserved : goal.loop-cover-preserved
loop-cover-preserved g c =
    let p = g.P.Protocol.table c.args.self.now.protocol.now in
    list_more (failure p) (splits_of p) c.args.failed.now.items c.loop-cover.failed.items c.splits_of.new.failed.items (take c.loop-cover.cover-index (ReadGap ∷ DeletedGap ∷ [])) (take (c.loop-cover.cover-index + 1) (ReadGap ∷ DeletedGap ∷ [])) (get_or (ReadGap ∷ DeletedGap ∷ []) c.loop-cover.cover-index ReadKey) (take_more (ReadGap ∷ DeletedGap ∷ []) c.loop-cover.cover-index ReadKey c.loop-cover-test.true) c.loop-cover.invariant c.in_ok-splits_of.ensures.ok

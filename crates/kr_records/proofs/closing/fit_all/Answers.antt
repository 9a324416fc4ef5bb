use Rattle.std.proofs.Common.{◌≡◌, ◌∙◌, List, All, Bool, true, subst, sym, arith}
use Rattle.std.specs.Prelude.{◌&&◌}
use Rattle.std.proofs.lemmas.List.{take_all}
use Rattle.std.proofs.lemmas.List.Elements.{All-more}
use Rattle.std.proofs.lemmas.List.Folds.{list_all_more}
use Rattle.kr_records.specs.Closed.{Lent, fits, StandsIn}
use Rattle.kr_records.proofs.closing.fit_all.Goals as goal

pub loop-share-preserved : goal.loop-share-preserved
loop-share-preserved g c =
    let f : Lent → Bool = fits c.args.seats.now c.args.history.now in
    let P : Lent → Type 0 = StandsIn c.args.seats.now c.args.history.now in
    let shares : List Lent = c.args.shares.now in
    let x : Lent = c.share-item.result in
    let here : f x ≡ true = sym c.is_fitting.ensures.fits ∙ c.if-not-is_fitting.false in
    record {
      fit = list_all_more f shares c.loop-share.share-index x c.loop-share-test.true ∙ (λ i. c.loop-share.invariant.fit i && subst (λ (y : Lent). f y ≡ true) c.share-item.is here i);
      stand = λ counts. All-more P shares c.loop-share.share-index x c.loop-share-test.true (c.loop-share.invariant.stand counts) (subst P c.share-item.is (c.is_fitting.ensures.stands counts c.if-not-is_fitting.false));
    }

pub returns-clause-stand : goal.returns-clause-stand
returns-clause-stand g c =
    let all : List Lent → Type 0 = All (StandsIn c.args.seats.now c.args.history.now) in
    λ counts _. subst all (take_all c.loop-share.share-index c.args.shares.now (omega (arith, c.loop-share-test.false))) (c.loop-share.invariant.stand counts)

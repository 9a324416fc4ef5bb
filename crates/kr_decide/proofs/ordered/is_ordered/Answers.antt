use Rattle.std.proofs.Common.{◌≡◌, true}
use Rattle.kr_model.specs.declared.Row.TheVariants.{Insert, Delete}
use Rattle.kr_model.specs.declared.Side.TheVariants.{Current, Next}
use Rattle.kr_decide.specs.Rising.{AllGoUp, Rises, AllKeepNone}
use Rattle.kr_decide.proofs.Parts.{ordered_by_parts, part_rises}
use Rattle.kr_decide.proofs.ordered.is_ordered.Goals as goal
use Rattle.kr_decide.proofs.ordered.is_ordered.Goals.{then-all_go_up, else-all_go_up, then-all_keep_none, else-all_keep_none, then-rises, else-rises, then-rises-2, else-rises-2}

pub returns-then-rises-3 : goal.returns-then-rises-3
returns-then-rises-3 g c =
    let p = g.P.Protocol.table c.args.protocol.now in
    let laws = g.met.P.Protocol.lawful c.args.protocol.now in
    let four = c.if-rises-3.true in
    let three : (c.if-rises.value ≡ true) × Rises p Delete Current = elim c.if-rises-2.branch [
      | then-rises-2 w ↦ let is = w.value-is in (w.if-rises-2.true, w.rises-then-rises-2.ensures.0 (cc))
      | else-rises-2 w ↦ let is = w.value-is in absurd (cc)
    ] in
    let now_three = three.0 in
    let two : (c.if-all_keep_none.value ≡ true) × Rises p Insert Next = elim c.if-rises.branch [
      | then-rises w ↦ let is = w.value-is in (w.if-rises.true, w.rises-then-rises.ensures.0 (cc))
      | else-rises w ↦ let is = w.value-is in absurd (cc)
    ] in
    let now_two = two.0 in
    let one : (c.if-all_go_up.value ≡ true) × Rises p Insert Current = elim c.if-all_keep_none.branch [
      | then-all_keep_none w ↦ let is = w.value-is in (w.if-all_keep_none.true, w.rises.ensures.0 (cc))
      | else-all_keep_none w ↦ let is = w.value-is in absurd (cc)
    ] in
    let now_one = one.0 in
    let none : AllGoUp p × AllKeepNone p = elim c.if-all_go_up.branch [
      | then-all_go_up w ↦ let is = w.value-is in (c.all_go_up.ensures.0 w.if-all_go_up.true, w.all_keep_none.ensures.0 (cc))
      | else-all_go_up w ↦ let is = w.value-is in absurd (cc)
    ] in
    (λ last. ordered_by_parts p laws none.0 none.1 one.1 two.1 three.1 (c.rises-then-rises-3.ensures.0 last), λ ordered. c.rises-then-rises-3.ensures.1 (part_rises p ordered Delete Next))

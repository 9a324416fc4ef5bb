use Rattle.std.proofs.Common.{◌≡◌, ◌∙◌, true, false, ap, sym}
use Rattle.std.specs.List.{list_all}
use Rattle.kr_model.specs.Serial.{AreSerial}
use Rattle.kr_ghost_explain.specs.Wrong.{is_done}
use Rattle.kr_ghost_explain.proofs.Judged.{undone, not_serial}
use Rattle.kr_ghost_explain.proofs.judging.is_wrong.Goals as goal

pub returns-then-not-are_done : goal.returns-then-not-are_done
returns-then-not-are_done c =
    let answers = c.args.ran.now.answers in
    let isnt : list_all is_done answers ≡ false = ap (list_all is_done) (sym c.as_slice.ensures) ∙ sym c.are_done.ensures ∙ c.if-not-are_done.true in
    undone (AreSerial c.args.opening.now c.args.ran.now.programs → ⊥) answers isnt

pub returns : goal.returns
returns c =
    let answers = c.args.ran.now.answers in
    let done : list_all is_done answers ≡ true = ap (list_all is_done) (sym c.as_slice.ensures) ∙ sym c.are_done.ensures ∙ c.if-not-are_done.false in
    not_serial c.in_ok-judge_programs.field-0 c.is_serial.result c.args.opening.now c.as_slice-2.result.now c.args.ran.now.programs answers done c.in_ok-judge_programs.ensures c.as_slice-2.ensures c.is_serial.ensures

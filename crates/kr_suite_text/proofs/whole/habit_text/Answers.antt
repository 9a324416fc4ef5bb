use Rattle.std.proofs.Common.{◌∙◌, ap, map, string_bytes}
use Rattle.kr_suite_text.proofs.Played.{played_is}
use Rattle.kr_suite_text.proofs.whole.habit_text.Goals as goal

pub returns : goal.returns
returns g c =
    played_is (g.P.IndexProtocol.index c.args.protocol.now) c.args.habit c.opening.result.now c.opening-2.result.now (map string_bytes c.as_slice.result.now) c.habit_steps-steps.result.now c.as_slice-2.result.now
    c.opening.ensures
    c.opening-2.ensures
    (ap (map string_bytes) c.as_slice.ensures.value ∙ c.in_ok-tests.ensures)
    c.habit_steps-steps.ensures
    (c.as_slice-2.ensures.value ∙ c.in_ok-replies.ensures)
    c.part_text.result
    c.part_text.ensures

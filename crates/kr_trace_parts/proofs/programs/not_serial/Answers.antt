use Rattle.std.specs.Prelude.{◌≡◌, List, Some}
use Rattle.std.proofs.Common.{◌∙◌, subst, sym}
use Rattle.std.proofs.lemmas.Option.{get_or_from_slice_get}
use Rattle.kr_trace_follow.specs.Given.{IsFirstDifference}
use Rattle.kr_trace_parts.specs.Committed.{Committed, IsFirstFound, IsFound, map_left}
use Rattle.kr_trace_parts.specs.Kept.{shown}
use Rattle.kr_trace_parts.specs.declared.programs.Committed.{Committed as Noted}
use Rattle.kr_trace_parts.proofs.WrongLaws.{found_of}
use Rattle.kr_trace_parts.proofs.programs.not_serial.Goals as goal

pub returns : goal.returns
returns c m txns h =
    let one = c.swap_remove-one.result in
    let own : one ≡ h.one = c.swap_remove-one.ensures.value ∙ get_or_from_slice_get c.args.committed.items c.args.wrong.place h.one one h.here in
    let at = map_left m h.before in
    let difference : IsFirstDifference at one.program.items c.args.wrong.difference = subst (λ (x : Noted). IsFirstDifference at x.program.items c.args.wrong.difference) (sym own) h.difference in
    let found : IsFound at h.one.txn h.one.program.items (Some c.wrong_answer.result) =
    subst (λ (x : Noted). IsFound at x.txn x.program.items (Some c.wrong_answer.result)) own (c.wrong_answer.ensures at difference) in
    subst (λ (ds : List Committed). IsFirstFound m ds (Some c.wrong_answer.result)) (sym h.place) (found_of m h.before h.rest (shown h.one) c.wrong_answer.result h.serial_before found)

use Rattle.std.proofs.Common.{◌∙◌, ◌++◌, ap, sym, string_bytes, arith}
use Rattle.std.proofs.lemmas.List.{append-nil}
use Rattle.kr_suite_text.proofs.Unanswered.{no_lines}
use Rattle.kr_suite_text.proofs.parts.lines_text.Goals as goal

-- no reply is left
pub returns-then-place-replies : goal.returns-then-place-replies
returns-then-place-replies c =
    let place = c.loop-place.place in
    let out = string_bytes c.loop-place.out in
    sym (append-nil out)
    ∙ ap (λ t. out ++ t) (sym (no_lines place c.args.events.now c.args.replies.now (omega (arith, c.if-place-replies.true))))
    ∙ c.loop-place.invariant

use Rattle.std.specs.Prelude.{string_bytes}
use Rattle.std.proofs.lemmas.Result.{IfOk-weaker}
use Rattle.kr_cli_trace.proofs.OnePartLaws.{cut_shown}
use Rattle.kr_cli_trace.proofs.texts.with_cut.Goals as goal

pub returns-in-Some-cut : goal.returns-in-Some-cut
returns-in-Some-cut c =
    IfOk-weaker c.with_left_out.result _ _ (λ longer is. cut_shown (string_bytes c.args.text) (string_bytes longer) c.args.found.now c.args.cut _ c.in-Some-cut.line c.in-Some.is c.in-Some-cut.is is) c.with_left_out.ensures

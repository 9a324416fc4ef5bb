use Rattle.std.proofs.Common.{◌++◌, string_bytes, ap, ◌∙◌}
use Rattle.kr_explain_core.proofs.Shown.{with_prose}
use Rattle.kr_explain_core.proofs.text.with_run.Goals as goal

pub returns : goal.returns
returns g c =
    let ran = string_bytes c.write_run.new.out in
    with_prose (g.P.Protocol.table c.args.protocol.now) (g.P.Protocol.names c.args.protocol.now) c.args.run.now.script (string_bytes c.in_ok-out.out) ran (string_bytes c.in_ok-case.case) (string_bytes c.push_str.new.self) c.in_ok-write_run.ensures (c.in_ok-push_str.ensures.bytes ∙ ap (λ z. ran ++ z) c.as_str.ensures.value)

use Rattle.std.proofs.Common.{◌++◌, string_bytes, ap, ◌∙◌}
use Rattle.kr_explain_text.proofs.Schedule.{between}
use Rattle.kr_explain_text.proofs.runs.write_run.Goals as goal

pub returns : goal.returns
returns g c =
    let old = string_bytes c.args.out.now in
    let first = string_bytes c.push_str.new.self in
    let second = string_bytes c.write_steps.new.out in
    between (g.P.Protocol.table c.args.protocol.now) (g.P.Protocol.names c.args.protocol.now) c.args.script.now old (string_bytes c.in_ok-before.before) first second (string_bytes c.in_ok-behind.behind) (string_bytes c.push_str-2.new.self) (c.in_ok-push_str.ensures.bytes ∙ ap (λ z. old ++ z) c.as_str.ensures.value) c.in_ok-write_steps.ensures (c.in_ok-push_str-2.ensures.bytes ∙ ap (λ z. second ++ z) c.as_str-2.ensures.value)

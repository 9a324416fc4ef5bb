use Rattle.std.proofs.Common.{◌∙◌, ap}
use Rattle.std.proofs.lemmas.Result.{IfOk-weaker}
use Rattle.kr_trace_follow.specs.Since.{last_noted}
use Rattle.kr_ghost_follow.specs.Points.{kind_at}
use Rattle.kr_ghost_follow.specs.Tries.{line_of}
use Rattle.kr_ghost_follow.proofs.stand.Stand.take.Goals as goal

pub returns-clause-kind : goal.returns-clause-kind
returns-clause-kind g c =
    let since = last_noted c.take_line.new.notes in
    IfOk-weaker c.take_line.result _ _
    (λ kind is. (since, is ∙ ap (λ v. kind_at (g.P.GhostProtocol.ghosts v.protocol) since v.point (line_of c.args.line)) c.self.view_is)) c.take_line.ensures.kind

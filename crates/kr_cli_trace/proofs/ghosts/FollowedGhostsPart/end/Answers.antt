use Rattle.std.specs.Prelude.{◌≡◌, ◌++◌, ◌∷◌, [], ℕ, List, Option, length, map, string_bytes}
use Rattle.std.proofs.Common.{ap, ◌∙◌, subst, sym}
use Rattle.std.proofs.lemmas.Result.{IfOk-weaker}
use Rattle.kr_ghost_follow.specs.Following.{Stand}
use Rattle.kr_ghost_follow.specs.Report.{ghost_part_text}
use Rattle.kr_ghost_follow.specs.Stands.{points_of}
use Rattle.kr_ghost_follow.proofs.Standing.{followed_points}
use Rattle.kr_trace_lines.specs.declared.deviation.Deviation.{Deviation}
use Rattle.kr_trace_parts.specs.Tales.{committed_in}
use Rattle.kr_cli_trace.proofs.SerialLaws.{well_where_safe}
use Rattle.kr_cli_trace.proofs.ghosts.FollowedGhostsPart.end.Goals as goal

pub returns : goal.returns
returns g c s h _ =
    let ghosts = g.P.GhostProtocol.ghosts in
    let q = c.args.self.protocol.now in
    let names = g.P.Protocol.names q in
    let f = c.args.self.follower in
    let found = c.args.self.found in
    let v = c.verdict_of-verdict.result in
    let points = points_of f.found f.first f.others in
    let told = λ (n : ℕ) (ts : List (List ℕ)). ghost_part_text names c.args.part found c.queued.result n c.cut.result ts v ++ 10 ∷ [] in
    let stands : Stand (ghosts q) s.opening s.steps points c.queued.result found =
    subst (λ (n : ℕ). Stand (ghosts q) s.opening s.steps points n found) (sym c.queued.ensures)
    (subst (λ (d : Option Deviation). Stand (ghosts q) s.opening s.steps points f.queued d) (sym h.deviates) (followed_points ghosts q s.opening s.steps f.first f.others f.queued f.found h.followed)) in
    let texts : map string_bytes c.as_slice.result.now ≡ s.tests = ap (map string_bytes) c.as_slice.ensures.value ∙ h.texts in
    let text = ap (λ n. told n (map string_bytes c.as_slice.result.now)) c.states.ensures ∙ ap (λ ts. told (length points) ts) texts in
    let verdict = c.verdict_of-verdict.ensures s.opening (committed_in s.steps) h.judged.first in
    IfOk-weaker c.told.result _ _
    (λ end k. (points, c.queued.result, found, c.cut.result, v, stands, verdict, k.0 ∙ text, k.1, well_where_safe (ghosts q) s h.rising points c.queued.result found stands v verdict end.1 k.1))
    c.told.ensures

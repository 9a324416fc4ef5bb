use Rattle.std.proofs.Common.{[], subst, sym, refl}
use Rattle.kr_ghost_follow.specs.Stands.{HasFollowed}
use Rattle.kr_trace_parts.specs.Judged.{AreJudged}
use Rattle.kr_cli_trace.proofs.ghosts.AgainstGhostsAsks.begin.Goals as goal

pub returns-clause-begun : goal.returns-clause-begun
returns-clause-begun g c =
    let q = c.args.self.now.protocol.now in
    let j = c.in_ok-judging.judging in
    record {
      rising = c.requires;
      followed = subst (λ m. HasFollowed g.P.GhostProtocol.ghosts q m [] c.in_ok-follower.follower) c.as_slice-2.ensures c.in_ok-follower.ensures.followed;
      deviates = sym c.in_ok-follower.ensures.found;
      texts = refl;
      judged = subst (λ m. AreJudged m [] j.tales j.judge.map j.found) c.as_slice.ensures c.in_ok-judging.ensures;
    }

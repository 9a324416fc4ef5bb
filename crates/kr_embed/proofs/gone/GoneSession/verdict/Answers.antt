use Rattle.std.proofs.Common.{◌∙◌, ap}
use Rattle.kr_model.specs.Difference.{first_difference}
use Rattle.kr_judge.specs.Verdicts.{verdict_of}
use Rattle.kr_judge.proofs.Wholes.{serial_exactly}
use Rattle.kr_embed.specs.Session.{Seen}
use Rattle.kr_embed.proofs.gone.GoneSession.verdict.Goals as goal

-- The programs that are judged are those that have committed, from the map that the session was opened on.
pub returns-clause-serial : goal.returns-clause-serial
returns-clause-serial c =
    let s = c.args.self.now in
    let own = c.self.inside in
    let same = ap (λ m. verdict_of (first_difference m c.as_slice-2.result.now)) c.as_slice.ensures.pairs
    ∙ ap (λ ps. verdict_of (first_difference own.opening ps)) (c.as_slice-2.ensures ∙ c.in_ok-programs.ensures)
    ∙ ap (λ (v : Seen). verdict_of (first_difference v.opening v.log.committed)) c.self.view_is in
    let exactly = serial_exactly c.in_ok-verdict.verdict s.opening s.log.committed (c.in_ok-verdict.ensures ∙ same) in
    (λ yes. exactly.0 (c.is_serial.ensures.0 yes), λ serial. c.is_serial.ensures.1 (exactly.1 serial))

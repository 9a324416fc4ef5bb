use Rattle.kr_judge.proofs.Wholes.{serial_exactly}
use Rattle.kr_ghost_view.proofs.page.judged.Goals as goal

pub returns-clause-serial : goal.returns-clause-serial
returns-clause-serial g c =
    let exactly = serial_exactly c.in_ok-verdict.verdict c.args.script.now.opening c.args.ran.programs (rw (c.opening.ensures.pairs, c.as_slice.ensures) at c.in_ok-verdict.ensures) in
    let tells = c.is_serial-is_serial.ensures in
    (λ told. exactly.0 (tells.0 told), λ serial. tells.1 (exactly.1 serial))

use Rattle.kr_serial.proofs.covered.run.Goals as goal

pub returns-clause-serial : goal.returns-clause-serial
returns-clause-serial g c = c.run_any.ensures.covered (g.met.P.Covered.covered c.args.protocol.now)

pub returns-clause-serial_run : goal.returns-clause-serial_run
returns-clause-serial_run g c = c.run_any.ensures.covered_run (g.met.P.Covered.covered c.args.protocol.now)

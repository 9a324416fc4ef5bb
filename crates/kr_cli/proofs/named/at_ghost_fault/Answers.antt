use Rattle.kr_cli.proofs.named.at_ghost_fault.Goals as goal

pub returns-in-Ok-clause-line : goal.returns-in-Ok-clause-line
returns-in-Ok-clause-line c = rw (c.in-Purge.is, ← c.in-Ok.ensures.ok, ← c.as_str.ensures.value) c.told.ensures.line

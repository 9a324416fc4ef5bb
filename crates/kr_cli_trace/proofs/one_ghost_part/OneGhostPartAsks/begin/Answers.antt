use Rattle.std.specs.Prelude.{map, string_bytes}
use Rattle.std.proofs.Common.{rules}
use Rattle.kr_cli_trace.proofs.one_ghost_part.OneGhostPartAsks.begin.Goals as goal

pub returns-clause-begun : goal.returns-clause-begun
returns-clause-begun g c = (search rules, c.in_ok-watched.ensures (map string_bytes c.args.tests.items))

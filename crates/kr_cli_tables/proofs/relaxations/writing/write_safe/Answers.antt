use Rattle.std.proofs.Common.{rules}
use Rattle.kr_cli_tables.specs.Relax.{IsUnmade}
use Rattle.kr_cli_tables.proofs.RelaxEnded.{unmade_ends}
use Rattle.kr_cli_tables.proofs.relaxations.writing.write_safe.Goals as goal

pub returns-in_default-clause-err : goal.returns-in_default-clause-err
returns-in_default-clause-err g c =
    let p = g.P.IndexProtocol.index c.args.protocol.now in
    let names = g.P.Protocol.names c.args.protocol.now in
    let is : IsUnmade p names c.args.wanted = search (rules, c.in_ok-made.ensures, c.in_default.not-Some) in
    unmade_ends p names c.args.word.now c.args.wanted c.unmade_ending.result is c.unmade_ending.ensures.line

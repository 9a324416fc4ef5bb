use Rattle.std.proofs.Common.{rules, string_bytes}
use Rattle.kr_cli_tables.specs.Relax.{ReadsAs}
use Rattle.kr_cli_tables.specs.Tightest.{IsTightest}
use Rattle.kr_cli_tables.proofs.RelaxMade.{tells_it}
use Rattle.kr_cli_tables.proofs.relaxations.making.tightest_made.Goals as goal

pub returns : goal.returns
returns g c =
    let p = g.P.IndexProtocol.index c.args.protocol.now in
    let names = g.P.Protocol.names c.args.protocol.now in
    let is : IsTightest p names c.in-Some.found.table c.in-Some.found.is_tight = search (rules, c.in_ok-found.ensures, c.in-Some.is) in
    let reads : ReadsAs (string_bytes c.in-Some-2.text) c.in-Some.found.table = search (rules, c.in_ok-text.ensures, c.in-Some-2.is) in
    tells_it p names c.in-Some.found.table c.in-Some.found.is_tight (string_bytes c.in-Some-2.text) is reads

use Rattle.kr_cli_tables.proofs.SuiteMade.{made_is}
use Rattle.kr_cli_tables.proofs.suites.writing.make.Goals as goal

pub returns : goal.returns
returns g c =
    made_is (g.P.IndexProtocol.index c.args.protocol.now) (g.P.Protocol.names c.args.protocol.now) c.args.wanted c.in_ok-suite.suite c.made_of.result c.in_ok-suite.ensures c.made_of.ensures.text c.made_of.ensures.complete

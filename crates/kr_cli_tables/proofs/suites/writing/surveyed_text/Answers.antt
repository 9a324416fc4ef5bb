use Rattle.kr_cli_tables.proofs.SuiteMade.{left_told}
use Rattle.kr_cli_tables.proofs.suites.writing.surveyed_text.Goals as goal

pub returns : goal.returns
returns g c =
    left_told (g.P.IndexProtocol.index c.args.protocol.now) (g.P.Protocol.names c.args.protocol.now) c.args.suite.now c.in_ok-survey.survey c.left_text.result c.in_ok-survey.ensures c.left_text.ensures

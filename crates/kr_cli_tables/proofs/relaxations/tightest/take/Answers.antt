use Rattle.std.proofs.Common.{ap, rules}
use Rattle.kr_change.specs.GhostChanges.{changed_index}
use Rattle.kr_table_copy.specs.Same.{IsCopy}
use Rattle.kr_cli_tables.proofs.RelaxTaken.{takes}
use Rattle.kr_cli_tables.proofs.relaxations.tightest.take.Goals as goal

pub returns-in-Some-2 : goal.returns-in-Some-2
returns-in-Some-2 g c =
    let base = c.in-Some.changed.base.now in
    let copy : IsCopy (changed_index (g.P.IndexProtocol.index base) c.in-Some.changed.change) (g.P.Protocol.names base) c.in-Some-2.copy = search (rules, c.in_ok-copy.ensures, c.in-Some-2.is) in
    takes (g.P.IndexProtocol.index c.args.table.now) (g.P.IndexProtocol.index base) (g.P.Protocol.names c.args.table.now) (g.P.Protocol.names base) c.in-Some-2.copy c.args.change c.in-Some.changed.change c.requires
    (ap (λ x. g.P.IndexProtocol.index x) c.in-Some.ensures.base) (ap (λ x. g.P.Protocol.names x) c.in-Some.ensures.base) c.in-Some.ensures.change copy

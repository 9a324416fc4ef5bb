use Rattle.std.specs.Prelude.{◌↔◌, Bool, IsTrue}
use Rattle.std.proofs.Common.{subst, sym}
use Rattle.kr_model.specs.Safe.{IsSafe}
use Rattle.kr_view_table.proofs.page.table_page.Goals as goal

pub returns-clause-safe : goal.returns-clause-safe
returns-clause-safe g c =
    let p = g.P.Protocol.table c.args.protocol.now in
    let Says : Bool → Type 0 = λ b. IsTrue b ↔ IsSafe p in
    subst Says (sym c.is_safe.ensures) c.in_ok-explanation.ensures.safe

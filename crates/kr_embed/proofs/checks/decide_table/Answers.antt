use Rattle.std.proofs.Common.{◌↔◌, IfOk, IsTrue, subst, sym}
use Rattle.kr_kinds.specs.Kinds.{IsSafeIndex}
use Rattle.kr_cli.specs.declared.named.Named.{Named}
use Rattle.kr_embed.specs.Tables.{index_of}
use Rattle.kr_embed.proofs.checks.decide_table.Goals as goal

-- The table is of the kind that was decided.
pub returns-in-Table : goal.returns-in-Table
returns-in-Table c = subst (λ (t : Named). IfOk c.decide_gone.result (λ safe. IsTrue safe ↔ IsSafeIndex (index_of t))) (sym c.in-Table.is) c.decide_gone.ensures

pub returns-in-Ghosts : goal.returns-in-Ghosts
returns-in-Ghosts c = subst (λ (t : Named). IfOk c.decide_leaving.result (λ safe. IsTrue safe ↔ IsSafeIndex (index_of t))) (sym c.in-Ghosts.is) c.decide_leaving.ensures

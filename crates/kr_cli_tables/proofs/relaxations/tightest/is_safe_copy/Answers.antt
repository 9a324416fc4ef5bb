use Rattle.std.proofs.Common.{◌↔◌, IfOk, IsTrue, sym, subst}
use Rattle.kr_kinds.specs.Kinds.{IsSafeIndex}
use Rattle.kr_table_copy.specs.declared.copying.Copy.{Copy}
use Rattle.kr_table_copy.specs.Same.{index_in}
use Rattle.kr_cli_tables.proofs.relaxations.tightest.is_safe_copy.Goals as goal

pub returns-in-Gone : goal.returns-in-Gone
returns-in-Gone c = subst (λ (t : Copy). IfOk c.is_safe_index.result (λ safe. IsTrue safe ↔ IsSafeIndex (index_in t))) (sym c.in-Gone.is) c.is_safe_index.ensures

pub returns-in-Leaving : goal.returns-in-Leaving
returns-in-Leaving c = subst (λ (t : Copy). IfOk c.is_safe_index-in-Leaving.result (λ safe. IsTrue safe ↔ IsSafeIndex (index_in t))) (sym c.in-Leaving.is) c.is_safe_index-in-Leaving.ensures

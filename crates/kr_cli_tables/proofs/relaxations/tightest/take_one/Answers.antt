use Rattle.std.proofs.Common.{IfOk, sym, subst}
use Rattle.kr_table_copy.specs.declared.copying.Copy.{Copy}
use Rattle.kr_table_copy.specs.Same.{index_in, names_in}
use Rattle.kr_cli_tables.specs.Tightest.{IsTaken}
use Rattle.kr_cli_tables.proofs.relaxations.tightest.take_one.Goals as goal

pub returns-in-Gone : goal.returns-in-Gone
returns-in-Gone c = subst (λ (t : Copy). IfOk c.take_shown.result (IsTaken (index_in t) (names_in t))) (sym c.in-Gone.is) c.take_shown.ensures

pub returns-in-Leaving : goal.returns-in-Leaving
returns-in-Leaving c = subst (λ (t : Copy). IfOk c.take_shown-in-Leaving.result (IsTaken (index_in t) (names_in t))) (sym c.in-Leaving.is) c.take_shown-in-Leaving.ensures

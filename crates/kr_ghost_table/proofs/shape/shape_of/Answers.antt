use Rattle.std.proofs.Common.{◌≡◌, [], subst}
use Rattle.std.specs.Prelude.{unwrap_or}
use Rattle.toml.specs.Data.{no_members}
use Rattle.toml.specs.View.{view, items_view}
use Rattle.kr_ghost_table.specs.DocumentFaults.{name_faults}
use Rattle.kr_ghost_table.proofs.Whole.{names_told}
use Rattle.kr_ghost_table.proofs.shape.shape_of.Goals as goal

pub returns-in-Err : goal.returns-in-Err
returns-in-Err c =
    names_told c.in-Err.e (view c.args.value.now) (items_view c.in_ok-list.list.now) (view c.in_ok-compatible.compatible.now) (view c.in_ok-convert.convert.now) (view c.in_ok-rules.rules.now)
    c.in_ok-test_format.ensures (subst (λ o. name_faults (unwrap_or o no_members) ≡ []) c.in-Some.ensures c.in_ok-test_names.ensures) c.in_ok-test_deletes.ensures c.in_ok-list.ensures
    c.in_ok-compatible.ensures.0 c.in_ok-compatible.ensures.1 c.in_ok-convert.ensures.0 c.in_ok-convert.ensures.1 c.in_ok-rules.ensures.0 c.in_ok-rules.ensures.1
    c.in_ok-purge.ensures.1 c.in_ok-test_count.ensures c.in-Err.ensures

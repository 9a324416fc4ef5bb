use Rattle.std.proofs.Common.{◌≡◌, [], map, string_bytes, subst, sym}
use Rattle.kr_table.specs.Shown.{data_of}
use Rattle.kr_table.specs.Reading.{table_of_parts}
use Rattle.std.specs.Prelude.{unwrap_or}
use Rattle.toml.specs.Data.{no_members}
use Rattle.toml.specs.View.{view, items_view}
use Rattle.kr_table.specs.DocumentFaults.{content_faults, name_faults}
use Rattle.kr_table.proofs.Sound.{few_names}
use Rattle.kr_table.proofs.Whole.{names_told, table_sound, modes_sound, judged_whole}
use Rattle.kr_table.proofs.reading.table_of.Goals as goal

pub returns-in-Err : goal.returns-in-Err
returns-in-Err c =
    names_told c.in_ok-updates.updates c.in-Err.e (view c.args.value.now) (items_view c.in_ok-list.list.now) (view c.in_ok-compatible.compatible.now) (view c.in_ok-convert.convert.now) (view c.in_ok-rules.rules.now)
    c.in_ok-updates.ensures.0 c.in_ok-updates.ensures.1 (subst (λ o. name_faults (unwrap_or o no_members) ≡ []) c.in-Some.ensures c.in_ok-test_names.ensures) c.in_ok-list.ensures
    c.in_ok-compatible.ensures.0 c.in_ok-compatible.ensures.1 c.in_ok-convert.ensures.0 c.in_ok-convert.ensures.1 c.in_ok-rules.ensures.0 c.in_ok-rules.ensures.1
    c.in_ok-test_count.ensures c.in-Err.ensures

pub parts_of-requires-clause-few : goal.parts_of-requires-clause-few
parts_of-requires-clause-few c = few_names c.in-Ok.names.items (items_view c.in_ok-list.list.now) c.in_ok-test_count.ensures c.in-Ok.ensures.0 c.in-Ok.ensures.1

pub parts_of-requires-clause-matrix : goal.parts_of-requires-clause-matrix
parts_of-requires-clause-matrix c =
    modes_sound c.new-rows.result c.in-Ok.names.items (items_view c.in_ok-list.list.now) (view c.in_ok-compatible.compatible.now) (view c.in_ok-convert.convert.now) (view c.in_ok-rules.rules.now)
    c.in_ok-test_count.ensures c.in-Ok.ensures.0 c.in-Ok.ensures.1
    (subst (λ xs. content_faults c.new-rows.result (map string_bytes xs) (view c.in_ok-compatible.compatible.now) (view c.in_ok-convert.convert.now) (view c.in_ok-rules.rules.now) ≡ []) c.as_slice.ensures.value c.in_ok-test_content.ensures)

pub new-requires : goal.new-requires
new-requires c =
    table_sound c.new-rows.result c.in_ok-updates.updates c.in-Ok-parts_of.parts c.in-Ok.names.items (items_view c.in_ok-list.list.now) (view c.in_ok-compatible.compatible.now) (view c.in_ok-convert.convert.now) (view c.in_ok-rules.rules.now)
    c.in_ok-test_count.ensures c.in-Ok.ensures.0 c.in-Ok.ensures.1
    (subst (λ xs. content_faults c.new-rows.result (map string_bytes xs) (view c.in_ok-compatible.compatible.now) (view c.in_ok-convert.convert.now) (view c.in_ok-rules.rules.now) ≡ []) c.as_slice.ensures.value c.in_ok-test_content.ensures)
    c.in-Ok-parts_of.ensures

pub returns-in-Ok-parts_of : goal.returns-in-Ok-parts_of
returns-in-Ok-parts_of c =
    judged_whole c.in_ok-updates.updates (view c.args.value.now) _ (items_view c.in_ok-list.list.now) (map string_bytes c.in-Ok.names.items) (view c.in_ok-compatible.compatible.now) (view c.in_ok-convert.convert.now) (view c.in_ok-rules.rules.now)
    c.in_ok-updates.ensures.0 c.in_ok-updates.ensures.1 (subst (λ o. name_faults (unwrap_or o no_members) ≡ []) c.in-Some.ensures c.in_ok-test_names.ensures) c.in_ok-list.ensures
    c.in_ok-compatible.ensures.0 c.in_ok-compatible.ensures.1 c.in_ok-convert.ensures.0 c.in_ok-convert.ensures.1 c.in_ok-rules.ensures.0 c.in_ok-rules.ensures.1
    c.in_ok-test_count.ensures c.in-Ok.ensures.0 c.in-Ok.ensures.1
    (subst (λ r. content_faults r (map string_bytes c.in-Ok.names.items) (view c.in_ok-compatible.compatible.now) (view c.in_ok-convert.convert.now) (view c.in_ok-rules.rules.now) ≡ []) c.new-rows.ensures
    (subst (λ xs. content_faults c.new-rows.result (map string_bytes xs) (view c.in_ok-compatible.compatible.now) (view c.in_ok-convert.convert.now) (view c.in_ok-rules.rules.now) ≡ []) c.as_slice.ensures.value c.in_ok-test_content.ensures))
    (subst (λ p. data_of p ≡ table_of_parts c.in_ok-updates.updates (map string_bytes c.in-Ok.names.items) (view c.in_ok-compatible.compatible.now) (view c.in_ok-convert.convert.now) (view c.in_ok-rules.rules.now)) (sym c.new.ensures) c.in-Ok-parts_of.ensures)

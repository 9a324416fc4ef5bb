use Rattle.std.proofs.Common.{◌≡◌, [], map, string_bytes, subst}
use Rattle.toml.specs.View.{view}
use Rattle.kr_ghost_table.specs.Faults.{Tells}
use Rattle.kr_ghost_table.specs.DocumentFaults.{heir_faults}
use Rattle.kr_ghost_table.specs.Answer.{ghost_data}
use Rattle.kr_ghost_table.proofs.Whole.{heir_told, members_sound, judged_whole}
use Rattle.kr_ghost_table.proofs.reading.table_of.Goals as goal

pub returns-in-Err-test_heirs : goal.returns-in-Err-test_heirs
returns-in-Err-test_heirs c =
    let shape = c.in-Ok.shape in
    let seen = c.in-Ok.ensures in
    heir_told c.in-Err-test_heirs.e (view c.args.value.now) (map string_bytes shape.names.items) (view shape.purge.now) seen.0 seen.1 seen.5
    (subst (λ xs. Tells c.in-Err-test_heirs.e (heir_faults (map string_bytes xs) (view shape.purge.now))) c.as_slice.ensures.value c.in-Err-test_heirs.ensures)

pub made-requires : goal.made-requires
made-requires c =
    let shape = c.in-Ok.shape in
    let seen = c.in-Ok.ensures in
    members_sound (view c.args.value.now) (map string_bytes shape.names.items) (view shape.compatible.now) (view shape.convert.now) (view shape.rules.now) (view shape.purge.now) seen.0 seen.1 seen.2 seen.3 seen.4 seen.5

pub returns-in-Ok-made : goal.returns-in-Ok-made
returns-in-Ok-made c =
    let shape = c.in-Ok.shape in
    let seen = c.in-Ok.ensures in
    judged_whole (view c.args.value.now) (ghost_data c.in-Ok-made.table) (map string_bytes shape.names.items) (view shape.compatible.now) (view shape.convert.now) (view shape.rules.now) (view shape.purge.now) seen.0 seen.1 seen.2 seen.3 seen.4 seen.5
    (subst (λ xs. heir_faults (map string_bytes xs) (view shape.purge.now) ≡ []) c.as_slice.ensures.value c.in_default.ensures)
    c.in-Ok-made.ensures

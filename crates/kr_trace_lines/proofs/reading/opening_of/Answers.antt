use Rattle.std.proofs.Common.{◌≡◌, ◌∙◌, arith, nat_lt, length, true, false, refl}
use Rattle.std.proofs.lemmas.Bool.Decides.{nat_tests}
use Rattle.serde_json.proofs.Views.{items_len-items_view}
use Rattle.serde_json.specs.Events.{items_len}
use Rattle.serde_json.specs.View.{items_view}
use Rattle.kr_trace_lines.proofs.Values.{opening_told}
use Rattle.kr_trace_lines.proofs.reading.opening_of.Goals as goal

pub returns-then-list-gt-MAX_ELEMENTS : goal.returns-then-list-gt-MAX_ELEMENTS
returns-then-list-gt-MAX_ELEMENTS c =
    let many : nat_lt (length c.args.list.now) 100001 ≡ false = grind (arith, nat_tests) in
    λ _. rw (items_len-items_view c.args.list.now, many) refl

pub returns-in-Ok : goal.returns-in-Ok
returns-in-Ok c =
    let few : nat_lt (length c.args.list.now) 100001 ≡ true = grind (arith, nat_tests) in
    (rw (items_len-items_view c.args.list.now, few, c.in-Ok.ensures.0) refl, c.from_vec.ensures ∙ c.in-Ok.ensures.1)

pub returns-in-Err : goal.returns-in-Err
returns-in-Err c =
    let ds = items_view c.args.list.now in
    let few : nat_lt (length c.args.list.now) 100001 ≡ true = grind (arith, nat_tests) in
    let short : nat_lt (items_len ds) 100001 ≡ true = rw (items_len-items_view c.args.list.now) few in
    opening_told c.in-Err.fault c.fault_of_opening.result ds short c.in-Err.ensures c.fault_of_opening.ensures

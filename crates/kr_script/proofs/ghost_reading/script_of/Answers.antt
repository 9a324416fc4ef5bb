use Rattle.std.proofs.Common.{◌≡◌, ◌++◌, None, codes, rules, arith, ap, length}
use Rattle.std.proofs.lemmas.Result.{err_from_is_err_and}
use Rattle.serde_json.specs.Events.{items_len}
use Rattle.serde_json.specs.View.{view, items_view}
use Rattle.kr_script.specs.Json.{items_in}
use Rattle.kr_script.specs.Faults.{opening_faults, too_many}
use Rattle.kr_script.proofs.Kept.{rising, few, length-pairs_of}
use Rattle.kr_script.specs.GhostReading.{faults, format_in, move_faults, script_in}
use Rattle.kr_script.proofs.GhostFirsts.{tells_more}
use Rattle.kr_script.proofs.Kept.{length-moves_of}
use Rattle.kr_script.proofs.ghost_reading.script_of.Goals as goal

pub returns-in_err-opening-2 : goal.returns-in_err-opening-2
returns-in_err-opening-2 c =
    let p = err_from_is_err_and c.from_residual-in_err-opening-2.result c.from_residual-in_err-opening-2.ensures.1 in
    let d = view c.args.value.now in
    let here = opening_faults 0 None (items_view c.in_ok-opening.opening.now) in
    let rest = move_faults (format_in d) 0 (items_in (codes "steps") d) in
    let e : faults d ≡ here ++ rest = search rules in
    rw (p.1, p.2, e) (tells_more c.in_err-opening-2.field-0.0 here rest (script_in d) c.in_err-opening-2.ensures)

pub new-requires : goal.new-requires
new-requires c =
    let ds = items_view c.in_ok-opening.opening.now in
    let es = items_view c.in_ok-steps.steps.now in
    let pairs = c.in_ok-opening-2.ensures.1 in
    let moves = c.in_ok-moves.ensures.1 in
    let few_pairs = few (items_len ds) (too_many (codes "opening")) c.in_ok-test_size.ensures in
    let few_moves = few (items_len es) (too_many (codes "steps")) c.in_ok-test_size-2.ensures in
    record {
      rising = rw pairs (rising ds c.in_ok-opening-2.ensures.0);
      few_pairs = omega (arith, ap length pairs, length-pairs_of ds, few_pairs);
      few_moves = omega (arith, ap length moves, length-moves_of c.in_ok-format.format es, few_moves);
    }

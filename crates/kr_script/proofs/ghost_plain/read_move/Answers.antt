use Rattle.std.proofs.Common.{◌≡◌, Some, sym, subst, arith}
use Rattle.json.specs.Json.{after_end_array}
use Rattle.kr_script.specs.Tokens.{IsNext, step_of_move, values_of_move}
use Rattle.kr_script.proofs.Documents.{array_next}
use Rattle.kr_script.proofs.ghost_plain.read_move.Goals as goal

pub returns-then-take_end_array-clause-next : goal.returns-then-take_end_array-clause-next
returns-then-take_end_array-clause-next c =
    let next = c.in_ok-next.next in
    let last = c.take_end_array.new.self in
    let end : after_end_array c.read_values.new.reader ≡ Some last = grind arith in
    subst (λ ts. IsNext 125 ts (step_of_move next) last) (sym c.in_ok-open_array.ensures)
    (array_next 125 c.open_array.new.reader c.read_values.new.reader last (values_of_move next) (omega arith) c.in_ok-next.ensures.next end)

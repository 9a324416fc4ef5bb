use Rattle.std.proofs.Common.{◌≡◌, ◌∷◌, [], Some, sym, subst, arith}
use Rattle.json.specs.Json.{after_end_array}
use Rattle.kr_script.specs.Json.{whole}
use Rattle.kr_script.specs.Pairs.{pair_data}
use Rattle.kr_script.specs.Tokens.{IsNext}
use Rattle.kr_script.proofs.Documents.{array_next}
use Rattle.kr_script.proofs.plain.read_pair.Goals as goal

pub returns-then-take_end_array : goal.returns-then-take_end_array
returns-then-take_end_array c =
    let pair = c.in_ok-pair.pair in
    let end : after_end_array c.read_two.new.reader ≡ Some c.take_end_array.new.self = grind arith in
    subst (λ ts. IsNext 125 ts (pair_data pair) c.take_end_array.new.self) (sym c.in_ok-open_array.ensures)
    (array_next 125 c.open_array.new.reader c.read_two.new.reader c.take_end_array.new.self (whole pair.0 ∷ whole pair.1 ∷ []) (omega arith) c.in_ok-pair.ensures end)

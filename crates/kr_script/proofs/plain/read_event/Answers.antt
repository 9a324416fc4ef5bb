use Rattle.std.proofs.Common.{◌≡◌, ◌∷◌, ℕ, Some, sym, subst, arith}
use Rattle.json.specs.Json.{after_end_array}
use Rattle.serde_json.specs.Data.{string, array, item}
use Rattle.serde_json.specs.View.{items_of}
use Rattle.kr_script.specs.Json.{whole}
use Rattle.kr_script.specs.Tokens.{IsNext, word_of, behind_word}
use Rattle.kr_script.proofs.Documents.{array_next, items_of_step}
use Rattle.kr_script.proofs.plain.read_event.Goals as goal

pub returns-then-take_end_array-clause-next : goal.returns-then-take_end_array-clause-next
returns-then-take_end_array-clause-next c =
    let event = c.in_ok-event.event in
    let op = event.op in
    let txn : ℕ = event.txn in
    let last = c.take_end_array.new.self in
    let end : after_end_array c.read_step.new.reader ≡ Some last = grind arith in
    let number : IsNext 124 c.open_array.new.reader (whole txn) c.read_number.new.reader = subst (λ (n : ℕ). IsNext 124 c.open_array.new.reader (whole n) c.read_number.new.reader) (sym c.in_ok-event.ensures.txn) (c.in_ok-txn.ensures 124) in
    let all = array_next 125 c.open_array.new.reader c.read_step.new.reader last (whole txn ∷ string (word_of op) ∷ behind_word op) (omega arith)
    (c.read_number.new.reader, number, c.in_ok-event.ensures.next) end in
    subst (λ ds. IsNext 125 c.args.reader.now (array (item (whole txn) ds)) last) (items_of_step op)
    (subst (λ ts. IsNext 125 ts (array (item (whole txn) (item (string (word_of op)) (items_of (behind_word op))))) last) (sym c.in_ok-open_array.ensures) all)

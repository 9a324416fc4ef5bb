use Rattle.std.proofs.Common.{◌≡◌, ◌++◌, ◌∷◌, [], map, Some, sym, subst, ap, ◌∙◌, arith}
use Rattle.std.proofs.lemmas.List.{map-append}
use Rattle.json.specs.Json.{after_end_array}
use Rattle.serde_json.specs.Data.{array}
use Rattle.serde_json.specs.View.{items_of}
use Rattle.kr_script.specs.Moves.{move_of}
use Rattle.kr_script.specs.Tokens.{IsNext, AreNext, step_of_move}
use Rattle.kr_script.proofs.Documents.{array_next, one_more_next, back_further, ReadBack}
use Rattle.kr_script.proofs.ghost_plain.read_moves.Goals as goal

pub moves-preserved : goal.moves-preserved
moves-preserved c =
    let l = c.moves in
    let one = c.in_ok-next.next in
    let before = l.moves.items in
    let start = c.open_array.new.reader in
    let same : c.take_end_array.new.self ≡ l.reader = grind arith in
    let items : c.push.new.self.items ≡ before ++ one ∷ [] = grind arith in
    let next : IsNext 125 l.reader (step_of_move one) c.read_move.new.reader = subst (λ ts. IsNext 125 ts (step_of_move one) c.read_move.new.reader) same c.in_ok-next.ensures.next in
    record {
      next = subst (λ ds. AreNext 125 start ds c.read_move.new.reader) (sym (ap (map step_of_move) items ∙ map-append step_of_move before (one ∷ [])))
          (one_more_next 125 start l.reader c.read_move.new.reader (map step_of_move before) (step_of_move one) l.invariant.next next);
      opened = l.invariant.opened;
      back = subst (ReadBack step_of_move (move_of c.args.format)) (sym items) (back_further step_of_move (move_of c.args.format) before one l.invariant.back c.in_ok-next.ensures.back);
      few = grind arith;
    }

pub returns-clause-next : goal.returns-clause-next
returns-clause-next c =
    let l = c.moves in
    let end : after_end_array l.reader ≡ Some c.take_end_array.new.self = grind arith in
    subst (λ ts. IsNext 126 ts (array (items_of (map step_of_move l.moves.items))) c.take_end_array.new.self) (sym l.invariant.opened)
    (array_next 126 c.open_array.new.reader l.reader c.take_end_array.new.self (map step_of_move l.moves.items) (omega arith) l.invariant.next end)

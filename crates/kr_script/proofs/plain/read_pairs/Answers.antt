use Rattle.std.proofs.Common.{◌≡◌, ◌++◌, ◌∷◌, [], map, Some, None, true, sym, subst, ap, ◌∙◌, arith}
use Rattle.std.proofs.lemmas.List.{map-append}
use Rattle.json.specs.Json.{after_end_array}
use Rattle.kr_script.specs.Pairs.{pair_data, pairs_data}
use Rattle.kr_model.specs.Map.{is_above, is_rising}
use Rattle.kr_script.specs.Tokens.{IsNext, AreNext}
use Rattle.kr_script.proofs.Documents.{array_next, one_more_next, last_key, rises_further, last_of_more, no_opening_fault}
use Rattle.kr_script.proofs.plain.read_pairs.Goals as goal

pub pairs-preserved : goal.pairs-preserved
pairs-preserved c =
    let l = c.pairs in
    let pair = c.in_ok-pair.pair in
    let before = l.pairs.items in
    let start = c.open_array.new.reader in
    let same : c.take_end_array.new.self ≡ l.reader = grind arith in
    let items : c.push.new.self.items ≡ before ++ pair ∷ [] = grind arith in
    let next : IsNext 125 l.reader (pair_data pair) c.read_pair.new.reader = subst (λ ts. IsNext 125 ts (pair_data pair) c.read_pair.new.reader) same c.in_ok-pair.ensures in
    let above : is_above pair.0 (last_key None before) ≡ true = ap (is_above pair.0) l.invariant.last ∙ sym c.is_above.ensures ∙ c.if-not-is_above.false in
    record {
      next = subst (λ ds. AreNext 125 start ds c.read_pair.new.reader) (sym (ap (map pair_data) items ∙ map-append pair_data before (pair ∷ [])))
          (one_more_next 125 start l.reader c.read_pair.new.reader (map pair_data before) (pair_data pair) l.invariant.next next);
      opened = l.invariant.opened;
      rising = ap (is_rising None) items ∙ rises_further None before pair l.invariant.rising above;
      last = ap (last_key None) items ∙ last_of_more None before pair;
      few = grind arith;
    }

pub returns-clause-next : goal.returns-clause-next
returns-clause-next c =
    let l = c.pairs in
    let end : after_end_array l.reader ≡ Some c.take_end_array.new.self = grind arith in
    subst (λ ts. IsNext 126 ts (pairs_data l.pairs.items) c.take_end_array.new.self) (sym l.invariant.opened)
    (array_next 126 c.open_array.new.reader l.reader c.take_end_array.new.self (map pair_data l.pairs.items) (omega arith) l.invariant.next end)

pub returns-clause-rising : goal.returns-clause-rising
returns-clause-rising c = no_opening_fault 0 None c.pairs.pairs.items c.pairs.invariant.rising

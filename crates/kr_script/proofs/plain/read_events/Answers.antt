use Rattle.std.proofs.Common.{◌≡◌, ◌++◌, ◌∷◌, [], map, Some, sym, subst, ap, ◌∙◌, arith}
use Rattle.std.proofs.lemmas.List.{map-append}
use Rattle.json.specs.Json.{after_end_array}
use Rattle.serde_json.specs.Data.{array}
use Rattle.serde_json.specs.View.{items_of}
use Rattle.kr_script.specs.Steps.{event_of, step_of}
use Rattle.kr_script.specs.Tokens.{IsNext, AreNext}
use Rattle.kr_script.proofs.Documents.{array_next, one_more_next, back_further, ReadBack}
use Rattle.kr_script.proofs.plain.read_events.Goals as goal

pub events-preserved : goal.events-preserved
events-preserved c =
    let l = c.events in
    let event = c.in_ok-event.event in
    let before = l.events.items in
    let start = c.open_array.new.reader in
    let same : c.take_end_array.new.self ≡ l.reader = grind arith in
    let items : c.push.new.self.items ≡ before ++ event ∷ [] = grind arith in
    let next : IsNext 125 l.reader (step_of event) c.read_event.new.reader = subst (λ ts. IsNext 125 ts (step_of event) c.read_event.new.reader) same c.in_ok-event.ensures.next in
    record {
      next = subst (λ ds. AreNext 125 start ds c.read_event.new.reader) (sym (ap (map step_of) items ∙ map-append step_of before (event ∷ [])))
          (one_more_next 125 start l.reader c.read_event.new.reader (map step_of before) (step_of event) l.invariant.next next);
      opened = l.invariant.opened;
      back = subst (ReadBack step_of (event_of c.args.two)) (sym items) (back_further step_of (event_of c.args.two) before event l.invariant.back c.in_ok-event.ensures.back);
      few = grind arith;
    }

pub returns-clause-next : goal.returns-clause-next
returns-clause-next c =
    let l = c.events in
    let end : after_end_array l.reader ≡ Some c.take_end_array.new.self = grind arith in
    subst (λ ts. IsNext 126 ts (array (items_of (map step_of l.events.items))) c.take_end_array.new.self) (sym l.invariant.opened)
    (array_next 126 c.open_array.new.reader l.reader c.take_end_array.new.self (map step_of l.events.items) (omega arith) l.invariant.next end)

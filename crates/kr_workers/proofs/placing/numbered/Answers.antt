use Rattle.std.proofs.Common.{◌+◌, ℕ, ◌∙◌, ap}
use Rattle.std.proofs.lemmas.List.{get_or_default}
use Rattle.kr_model.specs.declared.Event.{Event}
use Rattle.kr_workers.proofs.Counts.{numbers_more, counts_more, next_number, longer_by_one}
use Rattle.kr_workers.proofs.placing.numbered.Goals as goal

pub loop-event-preserved : goal.loop-event-preserved
loop-event-preserved c =
    let es = c.args.events.now in
    let i = c.loop-event.event-index in
    let m = c.loop-event.counts in
    let before = c.loop-event.invariant in
    let number = ap (λ (n : ℕ). n + 1) c.count_of-number.ensures in
    record {
      long = longer_by_one c.loop-event.numbers.items c.push.new.self.items _ i c.in_ok-push.ensures.items before.long;
      numbers = numbers_more c.loop-event.numbers.items c.push.new.self.items es i _ before.numbers before.long c.in_ok-push.ensures.items (number ∙ next_number m es i _ before.counts c.loop-event-test.true (ap (λ (e : Event). e.txn) (get_or_default es i _ _ c.loop-event-test.true)));
      counts = counts_more m c.insert.new.self es i _ _ before.counts c.loop-event-test.true (ap (λ (e : Event). e.txn) (get_or_default es i _ _ c.loop-event-test.true)) number c.in_ok-insert.ensures.updates.0;
    }

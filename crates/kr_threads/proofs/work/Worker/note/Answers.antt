use Rattle.std.proofs.Common.{◌∙◌, sym, ap, subst}
use Rattle.kr_records.specs.Histories.{events_with_replies}
use Rattle.kr_threads.specs.Told.{Working, IsCaused}
use Rattle.kr_threads.proofs.Told.{worker_note}
use Rattle.kr_threads.proofs.work.Worker.note.Goals as goal

pub invariant_of-self-2 : goal.invariant_of-self-2
invariant_of-self-2 g c =
    let p = g.K.EngineName.table in
    let opening = g.K.EngineName.opening in
    let w : Working = record { seat = c.self.inside.seat; last = c.self.inside.last; recent = c.self.inside.recent.items; passed = c.self.inside.passed; left_out = c.self.inside.left_out.items } in
    worker_note p opening w c.push.new.self.items c.args.fault c.in_ok-push.ensures.items
    (ap (λ (x : Working). x.passed) c.self.view_is ∙ c.requires.passed)
    (subst (λ (x : Working). IsCaused p opening (events_with_replies x.seat.view) c.args.fault) (sym c.self.view_is) c.requires.caused)
    c.self.invariant

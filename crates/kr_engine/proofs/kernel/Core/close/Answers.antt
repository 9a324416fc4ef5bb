use Rattle.std.proofs.Common.{◌≡◌, List, ap, sym, subst, rules}
use Rattle.std.specs.Prelude.{All}
use Rattle.kr_records.specs.declared.name.Entry.{Entry}
use Rattle.kr_records.specs.declared.notes.SeatNote.{SeatNote}
use Rattle.kr_records.specs.Closed.{StandsIn}
use Rattle.kr_records.specs.Cores.{CountsAre}
use Rattle.kr_records.proofs.ClosedEngines.{closed_of}
use Rattle.kr_engine.proofs.kernel.Core.close.Goals as goal

pub returns-in-Ok-clause-closed : goal.returns-in-Ok-clause-closed
returns-in-Ok-clause-closed g c =
    let h = c.in-Ok.ensures in
    let core = c.args.self.now in
    let law = c.lemma_invariant.ensures in
    let seats : c.deref.result.now ≡ core.seats = search rules in
    let entries : c.self.inside.history ≡ core.entries = ap (λ (v : _). v.entries) c.self.view_is in
    let counts : CountsAre c.deref.result.now c.self.inside.history = subst (λ (x : List SeatNote × List Entry). CountsAre x.0 x.1) (λ i. (sym seats i, sym entries i)) law.counts in
    let stand : All (StandsIn core.seats core.entries) c.args.shares.now =
    subst (λ (x : List SeatNote × List Entry). All (StandsIn x.0 x.1) c.args.shares.now) (λ i. (seats i, entries i)) (c.fit_all.ensures.stand counts c.if-not-fit_all.false) in
    closed_of g.K.EngineName.table g.K.EngineName.opening c.args.shares.now c.in-Ok.history core.entries core.seats core.state h.entries h.seats h.index h.unfinished h.locks law.run law.counts core.numbers law.begun law.by_one law.lasts law.given law.one_seat law.serial stand

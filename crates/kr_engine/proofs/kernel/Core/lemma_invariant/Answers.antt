use Rattle.std.proofs.Common.{◌≡◌, ◌≤◌, ◌+◌, ◌∙◌, length, subst}
use Rattle.kr_model.specs.Protocol.{IsLawful}
use Rattle.kr_model.specs.Covers.{IsCovered}
use Rattle.kr_records.specs.Histories.{IsHistory, AreOfOneSeat, IsSerialHistory}
use Rattle.kr_records.specs.Cores.{CountsAre, LastAreOwn, LastAre, AreOfSeats, AreBegun, AreBegunByOne, unended}
use Rattle.kr_records.specs.Numbers.{begun_by}
use Rattle.kr_records.proofs.Spoken.{own_of_last, by_one_seat}
use Rattle.kr_records.proofs.Ended.{kept_unended}
use Rattle.kr_records.proofs.Histories.{of_one_seat, serial_history}
use Rattle.kr_engine.proofs.kernel.Core.lemma_invariant.Goals as goal

pub returns : goal.returns
returns g c =
    let i = c.self.invariant in
    let p = c.self.inside.machine.protocol in
    record {
      table = subst (λ v. g.P.Protocol.table v.protocol ≡ g.K.EngineName.table) c.self.view_is i.table;
      run = subst (λ v. IsHistory g.K.EngineName.table g.K.EngineName.opening v.entries v.state) c.self.view_is i.history;
      one_seat = subst (λ v. AreOfOneSeat v.entries) c.self.view_is (of_one_seat c.self.inside.numbers c.self.inside.history c.lemma_distinct.ensures i.begun);
      counts = subst (λ v. CountsAre v.seats v.entries) c.self.view_is i.counts;
      last_own = subst (λ v. LastAreOwn v.numbers v.seats) c.self.view_is (own_of_last (begun_by c.self.inside.numbers) c.self.inside.seats.items i.lasts);
      lasts = subst (λ v. LastAre v.numbers v.seats) c.self.view_is i.lasts;
      given = subst (λ v. AreOfSeats v.numbers v.seats) c.self.view_is i.given;
      begun = subst (λ v. AreBegun v.numbers v.entries) c.self.view_is i.begun;
      by_one = subst (λ v. AreBegunByOne v.numbers) c.self.view_is (by_one_seat c.self.inside.numbers c.lemma_distinct.ensures);
      kept = subst (λ v. v.kept ≡ unended v.state v.numbers) c.self.view_is (i.kept_is ∙ kept_unended c.self.inside.machine.state c.self.inside.numbers i.ends);
      room = subst (λ v. length v.entries + v.kept ≤ length g.K.EngineName.places) c.self.view_is i.room;
      serial = subst (λ v. IsSerialHistory g.K.EngineName.opening v.entries v.state) c.self.view_is
          (serial_history g.K.EngineName.table (subst IsLawful i.table (g.met.P.Protocol.lawful p)) (subst IsCovered i.table (g.met.P.Covered.covered p)) g.K.EngineName.opening c.self.inside.history c.self.inside.machine.state i.is_map i.history);
    }

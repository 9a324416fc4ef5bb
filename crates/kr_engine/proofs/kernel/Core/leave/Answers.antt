use Rattle.std.proofs.Common.{arith}
use Rattle.std.proofs.lemmas.Grind.{common_steps}
use Rattle.std.proofs.Common.{◌<◌, length, ap, refl}
use Rattle.kr_records.specs.Numbers.{begun_by}
use Rattle.kr_records.proofs.Counts.{counts_stay}
use Rattle.kr_records.proofs.Spoken.{last_stay, given_stay}
use Rattle.kr_engine.proofs.kernel.Core.leave.Goals as goal

pub invariant_of-self : goal.invariant_of-self
invariant_of-self g c =
    let i = c.self.invariant in
    let seat : c.args.seat < length c.self.inside.seats.items = rw (ap (λ (v : _). length v.seats) c.self.view_is) c.requires in
    record {
      table = i.table;
      at_rest = i.at_rest;
      is_map = i.is_map;
      history = i.history;
      counts = counts_stay c.self.inside.seats.items c.self.inside.history c.args.seat c.index_mut.result.now _ i.counts seat c.index_mut.ensures.value refl;
      lasts = last_stay (begun_by c.self.inside.numbers) c.self.inside.seats.items c.args.seat c.index_mut.result.now _ i.lasts seat c.index_mut.ensures.value refl;
      given = given_stay (begun_by c.self.inside.numbers) c.self.inside.seats.items c.args.seat _ i.given;
      begun = i.begun;
      ended = i.ended;
      ends = i.ends;
      kept_is = i.kept_is;
      room = i.room;
    }

pub returns-clause-left : goal.returns-clause-left
returns-clause-left g c = grind (arith, common_steps)

use Rattle.std.proofs.Common.{◌∙◌, subst, length, arith}
use Rattle.kr_txn.specs.Numbered.{AreOthers, IsPosition}
use Rattle.kr_txn.specs.Logs.{number_of, operations_of}
use Rattle.kr_txn.proofs.InPlace.{same_position}
use Rattle.kr_txn.proofs.Lists.{not_found}
use Rattle.kr_txn.proofs.LogSteps.{anew_apart}
use Rattle.kr_txn.proofs.unfinished.get_ready.Goals as goal

pub returns-in_ok-make_room_at-in-Some-clause-memory : goal.returns-in_ok-make_room_at-in-Some-clause-memory
returns-in_ok-make_room_at-in-Some-clause-memory c =
    let at : IsPosition number_of c.args.txn c.args.list.now.items c.in-Some.place = subst (λ xs. IsPosition number_of c.args.txn xs c.in-Some.place) c.deref.ensures.value c.in-Some.ensures.some in
    record {
      place = same_position number_of operations_of c.args.txn c.make_room_at.new.list.items c.args.list.now.items c.in-Some.place c.make_room_at.ensures.same at;
      operation = c.in_ok-make_room_at-in-Some.ensures.room;
    }

pub returns-in_ok-make_room_in-in-None-clause-memory : goal.returns-in_ok-make_room_in-in-None-clause-memory
returns-in_ok-make_room_in-in-None-clause-memory c =
    let others : AreOthers number_of c.args.txn c.args.list.now.items (length c.args.list.now.items) = subst (λ xs. AreOthers number_of c.args.txn xs (length xs)) c.deref.ensures.value c.in-None.ensures.none in
    record {
      apart = anew_apart c.args.txn c.make_room_in.new.unfinished.txn c.reserve.new.self.items c.args.list.now.items (c.make_room_in.ensures.txn ∙ c.new-unfinished.ensures.txn) c.reserve.ensures.items (not_found number_of operations_of c.args.txn c.args.list.now.items others);
      place = omega (arith, c.in_ok-reserve-in-None.ensures.ok);
      operation = c.in_ok-make_room_in-in-None.ensures.room;
      anew = c.make_room_in.ensures.operations ∙ c.new-unfinished.ensures.operations;
    }

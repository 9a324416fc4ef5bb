-- What a call tells that waited before.
use Rattle.std.proofs.Common.{◌≡◌, List, ◌++◌, ap, sym, ◌∙◌, append_assoc}
use mathlib.Core.List.{IsPrefix}
use Rattle.kr_model.specs.declared.Op.{Op}
use Rattle.kr_model.specs.Protocol.{Protocol}
use Rattle.kr_model.specs.Map.{Map}
use Rattle.kr_records.specs.declared.faults.EngineFault.{EngineFault}
use Rattle.kr_records.specs.declared.faults.EngineFault.TheVariants.{Deadlock, RowFull, Refused, Memory, Taken, NotBegun, Open, PlaceTaken}
use Rattle.kr_records.specs.Histories.{entries_of}
use Rattle.kr_records.specs.Cores.{is_active}
use Rattle.kr_records.specs.Seats.{Held, ToldFault, IsIdle}

further : {A : Type 0} (xs ys zs : List A) → IsPrefix xs ys → IsPrefix ys zs → IsPrefix xs zs
further xs ys zs h k = (h.0 ++ k.0, sym (append_assoc xs h.0 k.0) ∙ ap (λ l. l ++ k.0) h.1 ∙ k.1)

changed : (old mid new : Held) → mid ≡ record old { view = mid.view } → new ≡ record mid { view = new.view } → new ≡ record old { view = new.view }
changed old mid new same is = is ∙ ap (λ (h : Held). record h { view = new.view }) same

-- What a fault of the last attempt tells, it tells of the whole call, in which the seat has at most seen more.
pub told_from : (p : Protocol) (opening : Map) (old mid new : Held) (o : Op) (f : EngineFault) → mid ≡ record old { view = mid.view } → IsPrefix old.view mid.view → ToldFault p opening mid new o f → ToldFault p opening old new o f
told_from p opening old mid new o (Refused r) same begins t = record {
  state = t.state;
  txn = t.txn;
  run = t.run;
  begins = further old.view mid.view new.view begins t.begins;
  speaks = sym (ap (λ (h : Held). h.speaks) same) ∙ t.speaks;
  reply_is = t.reply_is;
  not_granted = t.not_granted;
  others = changed old mid new same t.others;
}
told_from p opening old mid new o (Deadlock c) same begins t = record {
  state = t.state;
  txn = t.txn;
  waiting = t.waiting;
  run = t.run;
  begins = further old.view mid.view new.view begins t.begins;
  speaks = sym (ap (λ (h : Held). h.speaks) same) ∙ t.speaks;
  is_cycle = t.is_cycle;
  others = changed old mid new same t.others;
}
told_from p opening old mid new o RowFull same begins t = changed old mid new same t
told_from p opening old mid new o Memory same begins t = changed old mid new same t
told_from p opening old mid new o Taken same begins t = changed old mid new same t
told_from p opening old mid new o NotBegun same begins t = changed old mid new same t
told_from p opening old mid new o Open same begins t = changed old mid new same t
told_from p opening old mid new o PlaceTaken same begins t = changed old mid new same t

-- A seat that is idle after what it has seen since is so after what it had seen.
pub idle_from : (p : Protocol) (opening : Map) (old mid : Held) → mid ≡ record old { view = mid.view } → IsPrefix old.view mid.view → IsIdle p opening mid → IsIdle p opening old
idle_from p opening old mid same begins h = record {
  state = h.state;
  entries = h.entries;
  run = h.run;
  begins = further old.view mid.view h.entries begins h.begins;
  own = sym (ap (λ (x : Held). entries_of x.seat h.entries) same) ∙ h.own ∙ ap (λ (x : Held). x.count) same;
  one_seat = h.one_seat;
  idle = sym (ap (λ (x : Held). is_active h.state x.speaks) same) ∙ h.idle;
}

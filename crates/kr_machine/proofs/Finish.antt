-- What a pending step says, and what the machine is once it is done or given up.
use Rattle.std.proofs.Common.{◌≡◌, ℕ, ◌+◌, ◌≤◌, arith, Bool, true, false, Option, Some, None, IfSome, List, sym, ap, ◌∙◌, ◌⊎◌, inl, inr, Vec, subst, cond}
use Rattle.std.specs.Prelude.{IsTrue}
use Rattle.std.specs.Option.{option_map}
use Rattle.std.specs.Vec.{vec_len}
use Rattle.std.specs.Ordering.{nat_cmp}
use Rattle.std.specs.FinMap.{find, put, is_sorted}
use Rattle.kr_model.specs.declared.Event.{Event}
use Rattle.kr_model.specs.State.{Active}
use Rattle.kr_txn.proofs.Lists.{in_order-put}
use Rattle.kr_machine.specs.declared.pending.Pending.{Pending}
use Rattle.kr_touch.specs.declared.parts.Ending.{Ending}
use Rattle.kr_machine.specs.declared.pending.PendingPart.{PendingPart}
use Rattle.kr_machine.specs.declared.pending.PendingPart.TheVariants as part
use Rattle.kr_machine.specs.Pending.{IsReserved, IsMachine, HasPins, locks_before, pending_pins, shown_active, shown_locks}
use Rattle.kr_touch.specs.Pins.{changes_of, all_changes_of}
use Rattle.kr_touch.proofs.Pins.{noted-put}
use Rattle.kr_model.proofs.Keep.{HasNoNone-release, AreWithin-release, IsLocks-release}
use Rattle.kr_txn.specs.Standings.{active_of, entries}
use Rattle.std.specs.declared.alloc.Global.{Global}
use Rattle.kr_model.specs.Protocol.{Protocol}
use Rattle.kr_model.specs.Map.{Map}
use Rattle.kr_model.specs.Locks.{Locks, IsLocks, AreWithin, HasNoNone, release}
use Rattle.kr_txn.specs.declared.Standing.{Standing}
use Rattle.kr_txn.specs.EndedNumbers.{EndedNumbers}

-- The step that is pending is granted, and has its memory.
pub reserved_now : (p : Protocol) (m : Map) (pins : ℕ → ℕ) (real : Locks) (ended : EndedNumbers) (active : Vec Standing Global) (o : Option Pending) (d : Pending) → o ≡ Some d → IfSome o (IsReserved p m pins real ended active) → IsReserved p m pins real ended active d
reserved_now p m pins real ended active None d e h = absurd (no e)
  where
    no : ◌≡◌ {A = Option Pending} None (Some d) → ⊥
    no e = cc
reserved_now p m pins real ended active (Some q) d e h = subst (IsReserved p m pins real ended active) same h
  where
    same : q ≡ d
    same = cc

-- The step that is pending is that of its event.
pub event_of_pending : (o : Option Pending) (d : Pending) (e : Event) → option_map (λ p. p.event) o ≡ Some e → o ≡ Some d → d.event ≡ e
event_of_pending o d e h is = some (ap (option_map (λ (p : Pending). p.event)) (sym is) ∙ h)
  where
    some : ◌≡◌ {A = Option Event} (Some d.event) (Some e) → d.event ≡ e
    some x = cc

-- With a transaction put back, the numbers rise.
pub put_down_order : (b : Bool) (t : ℕ) (a : Active) (xs : List (ℕ × Active)) → IsTrue (is_sorted nat_cmp xs) → IsTrue (is_sorted nat_cmp (cond b (put nat_cmp t a xs) xs))
put_down_order true t a xs h = in_order-put t xs h a
put_down_order false t a xs h = h

-- The pins while a step is pending.
pub pins_now : (pins : ℕ → ℕ) (es : List (ℕ × Active)) (o : Option Pending) (d : Pending) → o ≡ Some d → HasPins o pins es → (q : ℕ) → pins q ≡ all_changes_of es q + changes_of (active_of d.standing).changes q + pending_pins d.part q
pins_now pins es o d is h = subst (λ x. HasPins x pins es) is h

-- What the machine is after the end of the transaction whose step was pending.
pub ended_machine : (p : Protocol) (m n : Map) (pins left : ℕ → ℕ) (real : Locks) (t : ℕ) (ended more : EndedNumbers) (active : Vec Standing Global) (o : Option Pending) (d : Pending) (x : Ending)
    → o ≡ Some d → d.part ≡ part.End x → IsMachine p m pins real ended active o → ended.room ≤ more.room + 1 → ((q : ℕ) → left q + changes_of (active_of d.standing).changes q ≡ pins q)
    → IsMachine p n left (release real t) more active None
ended_machine p m n pins left real t ended more active o d x is ends inv room freed =
    let now = reserved_now p m pins real ended active o d is inv.reserved in
    record {
      in_order = IsLocks-release real t inv.in_order;
      within = AreWithin-release p.count real t inv.within;
      no_none = HasNoNone-release real t inv.no_none;
      standing = inv.standing;
      room = omega (arith, now.room_ended, room);
      has_pins = λ q.
          let u = pins_now pins (entries active.items) o d is inv.has_pins q in
          let v : pending_pins d.part q ≡ 0 = ap (λ x. pending_pins x q) ends in
          let w = freed q in
          omega (arith, u, v, w);
      reserved = tt;
    }

-- What the machine is after a step whose transaction goes on, with what it did noted.
pub going_machine : (p : Protocol) (m n : Map) (pins left : ℕ → ℕ) (real : Locks) (ended : EndedNumbers) (active more : Vec Standing Global) (o : Option Pending) (d : Pending) (done : Standing)
    → o ≡ Some d → IsMachine p m pins real ended active o → done.txn ≡ d.standing.txn → entries more.items ≡ put nat_cmp done.txn (active_of done) (entries active.items) → vec_len more ≡ vec_len active + 1
    → ((q : ℕ) → left q + pending_pins d.part q + changes_of (active_of d.standing).changes q ≡ pins q + changes_of (active_of done).changes q)
    → IsMachine p n left real ended more None
going_machine p m n pins left real ended active more o d done is inv itself items len freed =
    let now = reserved_now p m pins real ended active o d is inv.reserved in
    let apart = subst (λ t. find nat_cmp t (entries active.items) ≡ None) (sym (itself ∙ now.itself)) now.apart in
    record {
      in_order = inv.in_order;
      within = inv.within;
      no_none = inv.no_none;
      standing = subst (λ es. IsTrue (is_sorted nat_cmp es)) (sym items) (in_order-put done.txn (entries active.items) inv.standing (active_of done));
      room = omega (arith, now.room_ended, len);
      has_pins = λ q.
          let x = pins_now pins (entries active.items) o d is inv.has_pins q in
          let y = freed q in
          let z = ap (λ es. all_changes_of es q) items in
          let w = noted-put done.txn (active_of done) (entries active.items) q apart in
          omega (arith, x, y, z, w);
      reserved = tt;
    }

-- The end of a transaction and a change undone keep no lock.
pub keeps_no_lock : (real : Locks) (t : ℕ) (x : PendingPart) → ((y : Ending) × (x ≡ part.End y)) ⊎ (x ≡ part.Back) → real ≡ locks_before real t x
keeps_no_lock real t x (inl (y, is)) = ap (locks_before real t) (sym is)
keeps_no_lock real t x (inr is) = ap (locks_before real t) (sym is)

-- And they take no pin.
pub takes_no_pin : (x : PendingPart) → ((y : Ending) × (x ≡ part.End y)) ⊎ (x ≡ part.Back) → (q : ℕ) → pending_pins x q ≡ 0
takes_no_pin x (inl (y, is)) q = ap (λ z. pending_pins z q) is
takes_no_pin x (inr is) q = ap (λ z. pending_pins z q) is

-- What the machine is after the step that was pending is given up.
pub cancelled_machine : (p : Protocol) (m n : Map) (pins left : ℕ → ℕ) (real back : Locks) (ended : EndedNumbers) (active more : Vec Standing Global) (o : Option Pending) (d : Pending) (e : Event)
    → o ≡ Some d → d.event ≡ e → IsMachine p m pins real ended active o → back ≡ locks_before real e.txn d.part
    → entries more.items ≡ cond d.was_active (put nat_cmp e.txn (active_of d.standing) (entries active.items)) (entries active.items) → vec_len more ≤ vec_len active + 1
    → ((q : ℕ) → left q + pending_pins d.part q ≡ pins q)
    → IsMachine p n left back ended more None
cancelled_machine p m n pins left real back ended active more o d e is same inv given items len freed =
    let now = reserved_now p m pins real ended active o d is inv.reserved in
    let before : back ≡ shown_locks (Some d) real = given ∙ ap (λ (x : Event). locks_before real x.txn d.part) (sym same) in
    let seen : entries more.items ≡ shown_active (Some d) (entries active.items) = items ∙ ap (λ (x : Event). cond d.was_active (put nat_cmp x.txn (active_of d.standing) (entries active.items)) (entries active.items)) (sym same) in
    record {
      in_order = subst IsLocks (sym before) now.in_order;
      within = subst (AreWithin p.count) (sym before) now.within;
      no_none = subst HasNoNone (sym before) now.no_none;
      standing = subst (λ es. IsTrue (is_sorted nat_cmp es)) (sym items) (put_down_order d.was_active e.txn (active_of d.standing) (entries active.items) inv.standing);
      room = omega (arith, now.room_ended, len);
      has_pins = λ q.
          let x = pins_now pins (entries active.items) o d is inv.has_pins q in
          let y = freed q in
          let z = now.noted q in
          let w = ap (λ es. all_changes_of es q) seen in
          omega (arith, x, y, z, w);
      reserved = tt;
    }

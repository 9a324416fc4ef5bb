-- What a machine is where a transaction changes at its place in the list.
use Rattle.std.proofs.Common.{◌≡◌, ℕ, ◌+◌, None, sym, ap, subst, arith}
use Rattle.std.specs.Prelude.{IsTrue, Vec}
use Rattle.std.specs.Vec.{vec_len}
use Rattle.std.specs.declared.alloc.Global.{Global}
use Rattle.std.specs.Ordering.{nat_cmp}
use Rattle.std.specs.FinMap.{is_sorted}
use Rattle.kr_model.specs.Protocol.{Protocol}
use Rattle.kr_model.specs.Map.{Map}
use Rattle.kr_model.specs.Locks.{Locks, IsLocks, AreWithin, HasNoNone}
use Rattle.kr_txn.specs.Standings as standings
use Rattle.kr_txn.specs.Standings.{IsInOrder}
use Rattle.kr_txn.specs.declared.Standing.{Standing}
use Rattle.kr_txn.specs.EndedNumbers.{EndedNumbers}
use Rattle.kr_machine.specs.Pending.{IsMachine}
use Rattle.kr_touch.specs.Pins.{all_changes_of}

-- What the machine is where a transaction changed at its place, by as many changes as there are more pins.
pub placed_machine : (p : Protocol) (m n : Map) (pins left more_of : ℕ → ℕ) (real now : Locks) (ended : EndedNumbers) (active more : Vec Standing Global)
    → IsMachine p m pins real ended active None → IsLocks now → AreWithin p.count now → HasNoNone now → IsInOrder more.items → vec_len more ≡ vec_len active
    → ((q : ℕ) → left q ≡ pins q + more_of q) → ((q : ℕ) → all_changes_of (standings.entries more.items) q ≡ all_changes_of (standings.entries active.items) q + more_of q)
    → IsMachine p n left now ended more None
placed_machine p m n pins left more_of real now ended active more inv in_order within no_none standing len pinned noted =
    record {
      in_order = in_order;
      within = within;
      no_none = no_none;
      standing = standing;
      room = omega (arith, inv.room, len);
      has_pins = λ q. let x = inv.has_pins q in let y = pinned q in let z = noted q in omega (arith, x, y, z);
      reserved = tt;
    }

-- The same where nothing changed.
pub same_machine : (p : Protocol) (m n : Map) (pins left : ℕ → ℕ) (real now : Locks) (ended : EndedNumbers) (active more : Vec Standing Global)
    → IsMachine p m pins real ended active None → now ≡ real → standings.entries more.items ≡ standings.entries active.items → vec_len more ≡ vec_len active → ((q : ℕ) → left q ≡ pins q) → IsMachine p n left now ended more None
same_machine p m n pins left real now ended active more inv locks items len pinned =
    placed_machine p m n pins left (λ q. 0) real now ended active more inv (subst IsLocks (sym locks) inv.in_order) (subst (AreWithin p.count) (sym locks) inv.within) (subst HasNoNone (sym locks) inv.no_none)
    (subst (λ es. IsTrue (is_sorted nat_cmp es)) (sym items) inv.standing) len (λ q. let x = pinned q in omega (arith, x)) (λ q. let x = ap (λ es. all_changes_of es q) items in omega (arith, x))

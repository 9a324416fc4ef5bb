-- the order is the one before, and no order is serializable that goes on with one of those that were tried
use Rattle.std.specs.Prelude.{◌≡◌, ◌<◌, ◌++◌, ◌∷◌, ℕ, List, Some, length, map, slice_get}
use Rattle.std.specs.List.{remove}
use Rattle.kr_trace_parts.specs.Committed.{AreSerial}
use Rattle.kr_trace_parts.specs.Kept.{shown}
use Rattle.kr_trace_parts.specs.Orders.{AreArranged}
use Rattle.kr_trace_parts.specs.Printed.{in_order}
use Rattle.kr_trace_parts.proofs.orders.+add_serial_rest.Given as goal

abbrev pub invariant-loop-i : goal.invariant-loop-i
invariant-loop-i l = record {
  same : l.order.items ≡ l.fn.order.items;
  none : (k t : ℕ) (more : List ℕ) → k < l.i → slice_get l.rest k ≡ Some t → AreArranged (remove l.rest k) more
      → AreSerial l.opening (in_order (map shown l.committed) (l.fn.order.items ++ t ∷ more)) → ⊥;
}

-- how many are left to be added
abbrev pub decreases-add_serial_rest : goal.decreases-add_serial_rest
decreases-add_serial_rest l = length l.rest.now

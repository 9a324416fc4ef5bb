-- A transaction that changes where it stands in a list.
use Rattle.std.proofs.Common.{◌≡◌, ℕ, ◌+◌, length, List, Some, ap, arith}
use Rattle.std.specs.Prelude.{IsTrue, Vec}
use Rattle.std.specs.Vec.{vec_len}
use Rattle.std.specs.declared.alloc.Global.{Global}
use Rattle.std.specs.Ordering.{nat_cmp}
use Rattle.std.specs.FinMap.{find, put, is_sorted}
use Rattle.kr_model.specs.State.{Active}
use Rattle.kr_txn.specs.Numbered.{without_txn}
use Rattle.kr_txn.proofs.Lists.{find-without, put-rest}
use Rattle.kr_txn.specs.declared.Standing.{Standing}
use Rattle.kr_touch.specs.Pins.{changes_of, all_changes_of}
use Rattle.kr_touch.proofs.Pins.{noted-put, noted-without}

-- A transaction that is put over itself brings its changes in place of those that it had.
pub noted-over : (t : ℕ) (es : List (ℕ × Active)) (a b : Active) (q n : ℕ) → IsTrue (is_sorted nat_cmp es) → find nat_cmp t es ≡ Some a → changes_of b.changes q ≡ changes_of a.changes q + n → all_changes_of (put nat_cmp t b es) q ≡ all_changes_of es q + n
noted-over t es a b q n sorted found more =
    let x = noted-without t es a q sorted found in
    let y = noted-put t b (without_txn t es) q (find-without t es) in
    let z = ap (λ xs. all_changes_of xs q) (put-rest t es sorted b) in
    omega (arith, x, y, z, more)

-- How many transactions a list has.
pub standings_len : (v : Vec Standing Global) → vec_len v ≡ length v.items
standings_len v = omega arith

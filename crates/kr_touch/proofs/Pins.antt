-- Pins counted: what the changes of transactions need as they come and go.
use Rattle.std.proofs.Common.{◌≡◌, ℕ, ◌+◌, cond, Option, Some, None, List, [], ◌∷◌, sym, ◌∙◌, ap, arith}
use Rattle.std.specs.Prelude.{IsTrue}
use Rattle.std.proofs.lemmas.List.Sums.{sum_by-cons}
use Rattle.std.specs.declared.cmp.Ordering.{Ordering}
use Rattle.std.specs.declared.cmp.Ordering.TheVariants.{Less, Equal, Greater}
use Rattle.std.specs.Ordering.{nat_cmp, is_eq}
use Rattle.std.specs.FinMap.{find, put, is_sorted}
use Rattle.std.specs.FinMap.Entries.{by_order}
use Rattle.kr_model.specs.State.{Active}
use Rattle.kr_txn.specs.Numbered.{without_txn}
use Rattle.kr_txn.proofs.Lists.{find-without, put_back}
use Rattle.kr_touch.specs.Pins.{changes_of, all_changes_of}

some_none : (a : Active) → ◌≡◌ {A = Option Active} (Some a) None → ⊥
some_none a e = cc

all-cons : (e : ℕ × Active) (es : List (ℕ × Active)) (q : ℕ) → all_changes_of (e ∷ es) q ≡ changes_of e.1.changes q + all_changes_of es q
all-cons e es q = sum_by-cons (λ (x : ℕ × Active). changes_of x.1.changes q) e es

-- A transaction put in brings its changes along.
pub noted-put : (t : ℕ) (a : Active) (es : List (ℕ × Active)) (q : ℕ) → find nat_cmp t es ≡ None → all_changes_of (put nat_cmp t a es) q ≡ all_changes_of es q + changes_of a.changes q
noted-put t a [] q h = let e = all-cons (t, a) [] q in omega (arith, e)
noted-put t a (e ∷ es) q h = by (nat_cmp t e.0) h (λ n. noted-put t a es q n)
  where
    by : (o : Ordering) → cond (is_eq o) (Some e.1) (find nat_cmp t es) ≡ None → (find nat_cmp t es ≡ None → all_changes_of (put nat_cmp t a es) q ≡ all_changes_of es q + changes_of a.changes q)
        → all_changes_of (by_order o ((t, a) ∷ e ∷ es) ((e.0, a) ∷ es) (e ∷ put nat_cmp t a es)) q ≡ all_changes_of (e ∷ es) q + changes_of a.changes q
    by Less n more = let x = all-cons (t, a) (e ∷ es) q in omega (arith, x)
    by Equal n more = absurd (some_none e.1 n)
    by Greater n more = let x = all-cons e (put nat_cmp t a es) q in let y = all-cons e es q in let z = more n in omega (arith, x, y, z)

-- A transaction taken out takes its changes along.
pub noted-without : (t : ℕ) (es : List (ℕ × Active)) (a : Active) (q : ℕ) → IsTrue (is_sorted nat_cmp es) → find nat_cmp t es ≡ Some a → all_changes_of es q ≡ all_changes_of (without_txn t es) q + changes_of a.changes q
noted-without t es a q sorted found =
    ap (λ xs. all_changes_of xs q) (sym (put_back t es sorted a found)) ∙ noted-put t a (without_txn t es) q (find-without t es)

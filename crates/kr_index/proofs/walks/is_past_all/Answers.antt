use Rattle.std.proofs.Common.{◌≡◌, ℕ, ◌≤◌, true, false, Bool, Option, Some, None, arith, sym, ◌∙◌, refl}
use Rattle.std.specs.Prelude.{IsSome, nat_lt}
use Rattle.std.specs.Ordering.{nat_cmp, is_lt}
use Rattle.std.specs.BTreeMap as tree
use Rattle.std.proofs.lemmas.Bool.Decides.{nat_tests}
use mathlib.Core.Bool.{false≢true}
use Rattle.kr_model.proofs.Trees.{lookup_is_find}
use Rattle.kr_index.specs.declared.slots.Slot.{Slot}
use Rattle.kr_index.proofs.walks.is_past_all.Goals as goal

is_below : (l k q : ℕ) → nat_lt l k ≡ true → k ≤ q → is_lt (nat_cmp l q) ≡ true
is_below l k q lt le = grind (arith, nat_tests)

none_of : (o : Option Slot) (b : Bool) → b ≡ true → (IsSome o → b ≡ false) → o ≡ None
none_of None b e h = refl
none_of (Some s) b e h = absurd (false≢true (sym (h refl) ∙ e))

pub returns-in-Some : goal.returns-in-Some
returns-in-Some c lt q le =
    sym (lookup_is_find nat_cmp c.args.slots.now.entries q)
    ∙ none_of (tree.get nat_cmp c.args.slots.now q) (is_lt (nat_cmp c.in-Some.last.now q)) (is_below c.in-Some.last.now c.args.key q lt le) (λ some. c.in-Some.ensures.greatest q some)

-- Transactions of operations, rising.
use Rattle.std.specs.Prelude.{◌==◌}
use Rattle.std.specs.List.{list_any}
use Rattle.std.specs.List.Sorted.{IsStrictlyIncreasing}
use Rattle.std.proofs.Common.{◌≡◌, ℕ, ◌+◌, ◌<◌, ◌≤◌, length, get_or, take, Bool, true, false, List, ◌||◌, sym, ◌∙◌, ap, refl, subst}
use Rattle.std.proofs.lemmas.List.{take_all}
use Rattle.std.proofs.lemmas.List.Folds.{list_any_more}
use Rattle.kr_model.specs.declared.Event.{Event}
use Rattle.kr_model.specs.Locks.{add_once}
use Rattle.kr_model.proofs.Actives.{any_add_once}
use Rattle.kr_model.proofs.Numbers.{increasing_add}
use Rattle.kr_records.specs.Waits.{AreTxnsOf}

or_comm : (a b : Bool) → (a || b) ≡ (b || a)
or_comm true true = refl
or_comm true false = refl
or_comm false true = refl
or_comm false false = refl

-- One operation more.
pub txns_more : (es : List Event) (i : ℕ) (d : Event) (ts us : List ℕ) → AreTxnsOf ts (take i es) → i < length es → us ≡ add_once (get_or es i d).txn ts → AreTxnsOf us (take (i + 1) es)
txns_more es i d ts us are within is = record {
  rising = subst IsStrictlyIncreasing (sym is) (increasing_add (get_or es i d).txn ts are.rising);
  each = λ t.
      ap (list_any (λ (u : ℕ). u == t)) is ∙ any_add_once (λ (u : ℕ). u == t) (get_or es i d).txn ts ∙ ap (λ (b : Bool). ((get_or es i d).txn == t) || b) (are.each t)
      ∙ or_comm ((get_or es i d).txn == t) (list_any (λ (e : Event). e.txn == t) (take i es)) ∙ sym (list_any_more (λ (e : Event). e.txn == t) es i d within);
}

-- All of them.
pub txns_all : (es : List Event) (i : ℕ) (ts : List ℕ) → AreTxnsOf ts (take i es) → length es ≤ i → AreTxnsOf ts es
txns_all es i ts are past = subst (AreTxnsOf ts) (take_all i es past) are

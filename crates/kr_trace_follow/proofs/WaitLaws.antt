-- Laws of the locks that are waited for.
use Rattle.std.specs.Prelude.{◌≡◌, ℕ, ◌≤◌, ◌==◌, not, List, ◌++◌, All, map, refl}
use Rattle.std.proofs.Common.{sym, subst, append-nil}
use Rattle.std.proofs.lemmas.List.Elements.{All-filter, All-append, All-map}
use Rattle.kr_model.specs.Locks.{Locks, Lock, holder_of, mode_held, release}
use Rattle.kr_model.specs.Protocol.{Protocol}
use Rattle.kr_trace_lines.specs.declared.observed.Observed.{Observed}
use Rattle.kr_trace_lines.specs.declared.observed.Observed.TheVariants as observed
use Rattle.kr_trace_follow.specs.declared.conflict.Tested.{Tested}
use Rattle.kr_trace_follow.specs.Conflicts.{wanted}
use Rattle.kr_trace_follow.specs.Lines.{Attempt}
use Rattle.kr_trace_follow.specs.Waits.{waiting_after}

-- Modes are left.
pub modes_left : (count : ℕ) (w left : Locks) (t : ℕ) → All (λ l. mode_held l ≤ count) w → left ≡ release w t → All (λ l. mode_held l ≤ count) left
modes_left count w left t h is = subst (λ xs. All (λ (l : Lock). mode_held l ≤ count) xs) (sym is) (All-filter (λ l. not (holder_of l == t)) (λ l. mode_held l ≤ count) w h)

-- Modes are added.
pub modes_added : (count : ℕ) (w more : Locks) (qs : List Tested) → All (λ l. mode_held l ≤ count) w → All (λ q. q.tested ≤ count) qs → more ≡ w ++ map wanted qs → All (λ l. mode_held l ≤ count) more
modes_added count w more qs h g is =
    subst (λ xs. All (λ (l : Lock). mode_held l ≤ count) xs) (sym is) (All-append (λ l. mode_held l ≤ count) w (map wanted qs) h (All-map (λ l. mode_held l ≤ count) wanted qs g))

-- Who isn't blocked waits for nothing.
pub waits_no_more : (p : Protocol) (w : Locks) (t : ℕ) (a : Attempt) (o : Observed) → ((named : List ℕ) → o ≡ observed.Blocked named → ⊥) → waiting_after p w t a o ≡ release w t
waits_no_more p w t a (observed.Blocked named) h = absurd (h named refl)
waits_no_more p w t a _ h = append-nil (release w t)

-- A scan that reads its range downwards.
use Rattle.std.specs.Prelude.{◌≡◌, ℕ, suc, ◌+◌, ◌-◌, ◌<◌, ◌≤◌, ◌==◌, true, false, List, [], ◌∷◌, ◌++◌, drop, get_or, length, refl, if◌then◌else◌}
use Rattle.std.proofs.Common.{ap, sym, ◌∙◌, arith, append_assoc, drop-cons}
use Rattle.std.proofs.lemmas.List.{drop_all}
use Rattle.kr_model.proofs.Actives.{tied, untied}
use Rattle.kr_model.specs.declared.Op.{Op}
use Rattle.kr_model.specs.declared.Op.TheVariants as op
use Rattle.kr_model.specs.Locks.{Locks}
use Rattle.kr_ghost.specs.Protocol.{GhostProtocol}
use Rattle.kr_ghost.specs.State.{GhostState, name_from}
use Rattle.kr_ghost_follow.specs.Points.{Tried, is_read, parts, read_down, read_on, upper_end}

-- Parts --

-- The parts from here on, where this is the end of the first.
part_first : (s : GhostState) (lo hi n i e : ℕ) → i < n → e ≡ upper_end (name_from s lo) hi
    → parts s (n - i) lo hi ≡ op.Scan lo e ∷ (if e == hi then [] else parts s (n - (i + 1)) (suc e) hi)
part_first s lo hi n i e below is =
    ap (λ k. parts s k lo hi) step ∙ ap (λ z. op.Scan lo z ∷ (if z == hi then [] else parts s (n - (i + 1)) (suc z) hi)) (sym is)
  where
    step : n - i ≡ suc (n - (i + 1))
    step = omega (arith, below)

-- One part more, and those behind it.
pub part_more : (s : GhostState) (lo hi n i e next : ℕ) (list more : List Op) → i < n → e ≡ upper_end (name_from s lo) hi → (e ≡ hi → ⊥) → next ≡ suc e → more ≡ list ++ op.Scan lo e ∷ []
    → more ++ parts s (n - (i + 1)) next hi ≡ list ++ parts s (n - i) lo hi
part_more s lo hi n i e next list more below is not_hi above is_more =
    ap (λ z. z ++ parts s (n - (i + 1)) next hi) is_more ∙ append_assoc list (op.Scan lo e ∷ []) (parts s (n - (i + 1)) next hi)
    ∙ ap (λ k. list ++ op.Scan lo e ∷ parts s (n - (i + 1)) k hi) above
    ∙ ap (λ z. list ++ z) (sym (part_first s lo hi n i e below is ∙ ap (λ b. op.Scan lo e ∷ (if b then [] else parts s (n - (i + 1)) (suc e) hi)) (untied e hi not_hi)))

-- The last part ends the range.
pub part_ends : (s : GhostState) (lo hi n i e : ℕ) (list more : List Op) → i < n → e ≡ upper_end (name_from s lo) hi → e ≡ hi → more ≡ list ++ op.Scan lo e ∷ [] → more ≡ list ++ parts s (n - i) lo hi
part_ends s lo hi n i e list more below is at_hi is_more =
    is_more
    ∙ ap (λ z. list ++ z) (sym (part_first s lo hi n i e below is ∙ ap (λ b. op.Scan lo e ∷ (if b then [] else parts s (n - (i + 1)) (suc e) hi)) (ap (λ z. z == hi) at_hi ∙ tied hi)))

-- So does one where there are no more names.
pub part_last : (s : GhostState) (lo hi n i : ℕ) (list : List Op) → n ≤ i → list ++ op.Scan lo hi ∷ [] ≡ list ++ parts s (n - i) lo hi
part_last s lo hi n i list past = ap (λ z. list ++ z) (sym (ap (λ k. parts s k lo hi) none))
  where
    none : n - i ≡ 0
    none = omega (arith, past)

-- Reading --

-- Where a part is read, the next is attempted.
pub reads : (p : GhostProtocol) (queue : Locks) (t : ℕ) (os : List Op) (i : ℕ) (o : Op) (y : Tried) → i < length os → o ≡ get_or os i o → is_read y.ahead y.reply ≡ true
    → read_down p queue t (drop i os) y ≡ read_down p queue t (drop (i + 1) os) (read_on p queue t y.left y.reply o)
reads p queue t os i o y below here is =
    ap (λ xs. read_down p queue t xs y) front ∙ ap (λ b. if b then read_down p queue t (drop (i + 1) os) (read_on p queue t y.left y.reply o) else y) is
  where
    front : drop i os ≡ o ∷ drop (i + 1) os
    front = grind (arith, drop-cons, below, here)

-- Where it isn't, it is the last.
pub stays : (p : GhostProtocol) (queue : Locks) (t : ℕ) (os : List Op) (y : Tried) → is_read y.ahead y.reply ≡ false → read_down p queue t os y ≡ y
stays p queue t [] y is = refl
stays p queue t (o ∷ os) y is = ap (λ b. if b then read_down p queue t os (read_on p queue t y.left y.reply o) else y) is

-- And where no part is left.
pub through : (p : GhostProtocol) (queue : Locks) (t : ℕ) (os : List Op) (i : ℕ) (y : Tried) → length os ≤ i → read_down p queue t (drop i os) y ≡ y
through p queue t os i y past = ap (λ xs. read_down p queue t xs y) (drop_all i os past)

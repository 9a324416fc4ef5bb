-- Since which line each lock is held in its mode.
use Rattle.std.specs.Prelude.{◌≡◌, ℕ, Bool, true, false, ◌==◌, ◌&&◌, List, [], ◌∷◌, Option, Some, None, if◌then◌else◌, option_map, unwrap_or, map}
use Rattle.std.specs.BTreeMap.{BTreeMap, get}
use Rattle.std.specs.FinMap.{find}
use Rattle.std.specs.Global.{Vec}
use Rattle.std.specs.Ordering.{nat_cmp, eq_by_cmp}
use Rattle.kr_model.specs.declared.Event.{Event}
use Rattle.kr_model.specs.declared.Name.{Name}
use Rattle.kr_model.specs.declared.Op.{Op}
use Rattle.kr_model.specs.declared.Plan.{Plan}
use Rattle.kr_model.specs.declared.Reply.{Reply}
use Rattle.kr_model.specs.declared.Reply.TheVariants as reply
use Rattle.kr_model.specs.Protocol.{Protocol}
use Rattle.kr_model.specs.Locks.{Locks, Holder, Request, holder_cmp, holder_of, name_asked, name_cmp, name_locked, own}
use Rattle.kr_model.specs.Plan.{plan_of}
use Rattle.kr_model.specs.State.{State, standing}
use Rattle.kr_model.specs.Step.{step}
use Rattle.kr_touch.specs.Attempts.{attempt_of}

-- The number of a line for each transaction and name: 0 where the transaction holds no lock on the name.
abbrev pub Since : Type 0
Since = ℕ → Name → ℕ

-- After a step of the line with this number: a lock that the step leaves in another mode than before it, or that wasn't held, is held since this line; any other keeps its line.
abbrev pub since_after : ℕ → Locks → Locks → Since → Since
since_after line before after f t n =
    if own after t n == 0 then 0
    else if own after t n == own before t n then f t n
    else line

-- After steps of this line from a state, one after another.
abbrev pub since_along : Protocol → ℕ → State → List Event → Since → Since
since_along p line s [] f = f
since_along p line s (e ∷ es) f =
    let done = step p s e.txn e.op in
    let new = done.1 in
    since_along p line new es (since_after line s.locks new.locks f)

-- There is no line where no lock is held.
abbrev pub IsSince : Locks → Since → Type 0
IsSince h f = (t : ℕ) (n : Name) → own h t n ≡ 0 → f t n ≡ 0

-- The holders of the held locks, each with its line.
abbrev pub lines_of : Locks → Since → List (Holder × ℕ)
lines_of h f = map (λ l. (l.0, f (holder_of l) (name_locked l))) h

-- The line that is listed for a transaction and a name, if one is.
abbrev pub line_of : List (Holder × ℕ) → Since
line_of xs t n = unwrap_or (find holder_cmp (n, t) xs) 0

-- Notes --

-- Of notes the last for a name, or else this line.
abbrev pub last_or : ℕ → List (Name × ℕ) → Name → ℕ
last_or line [] n = line
last_or line (x ∷ xs) n = last_or (if eq_by_cmp name_cmp x.0 n then x.1 else line) xs n

-- The notes of a transaction, where it has some.
abbrev pub notes_in : Option (Vec (Name × ℕ)) → List (Name × ℕ)
notes_in None = []
notes_in (Some xs) = xs.items

-- The last note of each transaction for each name.
abbrev pub last_noted : BTreeMap ℕ (Vec (Name × ℕ)) → Since
last_noted notes t n = last_or 0 (notes_in (get nat_cmp notes t)) n

-- With no notes of t.
abbrev pub without_notes : Since → ℕ → Since
without_notes f t u n = if u == t then 0 else f u n

-- With one more note of t, for a name.
abbrev pub with_note : Since → ℕ → Name → ℕ → Since
with_note f t m line u n = if u == t && eq_by_cmp name_cmp m n then line else f u n

-- With one more note of t for a name on which it had the mode that is given, where it has another now.
abbrev pub with_change : ℕ → Locks → ℕ → Option (Name × ℕ) → Since → Since
with_change line h t None f = f
with_change line h t (Some (n, was)) f = if own h t n == was then f else with_note f t n line

-- Whether a reply ends its transaction.
abbrev pub has_ended : Reply → Bool
has_ended reply.Committed = true
has_ended reply.Aborted = true
has_ended _ = false

-- After a step of t: with no notes, where the step ended it; else with a note for each of two names on which it has another mode.
abbrev pub with_changes : ℕ → Locks → ℕ → Option (Name × ℕ) × Option (Name × ℕ) → Bool → Since → Since
with_changes line h t before true f = without_notes f t
with_changes line h t before false f = with_change line h t before.1 (with_change line h t before.0 f)

-- The name of a request, with the mode that t has there.
abbrev pub own_at : Locks → ℕ → Option Request → Option (Name × ℕ)
own_at h t request = option_map (λ r. (name_asked r, own h t (name_asked r))) request

-- The same for both requests of a plan, if there is one.
abbrev pub own_at_both : Locks → ℕ → Option Plan → Option (Name × ℕ) × Option (Name × ℕ)
own_at_both h t None = (None, None)
own_at_both h t (Some plan) = (own_at h t plan.current, own_at h t plan.next)

-- What a step of t requests, if it requests locks at all.
abbrev pub plan_at : Protocol → State → ℕ → Op → Option Plan
plan_at p s t o = option_map (plan_of p s.map s.locks t) (attempt_of s.map (standing s t).scan o)

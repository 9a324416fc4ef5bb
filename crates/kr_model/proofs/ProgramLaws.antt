-- The committed programs of a history with one entry more.
use Rattle.std.specs.Prelude.{◌≡◌, ℕ, Bool, true, false, List, [], ◌∷◌, ◌++◌, Some, None, map, refl, if◌then◌else◌}
use Rattle.std.specs.List.{cons_option}
use Rattle.std.proofs.Common.{◌∙◌, ap, ap₂}
use Rattle.kr_model.specs.State.{State, has_ended}
use Rattle.kr_model.specs.Run.{Entry, Answered, Program, operations_of, committed, is_committed}
use Rattle.kr_model.proofs.LogReads.{IsSilent, operations_kept}

committed_append : (h g : List Entry) → committed (h ++ g) ≡ committed h ++ committed g
committed_append [] g = refl
committed_append ((e, a) ∷ h) g = one (is_committed a) e.txn (committed (h ++ g)) (committed h) (committed g) (committed_append h g)
  where
    one : (b : Bool) (t : ℕ) (xs ys zs : List ℕ) → xs ≡ ys ++ zs → cons_option (if b then Some t else None) xs ≡ cons_option (if b then Some t else None) ys ++ zs
    one true t xs ys zs h = ap (λ l. t ∷ l) h
    one false t xs ys zs h = h

pub committed_with : (h : List Entry) (x : Entry) (b : Bool) → is_committed x.1 ≡ b → committed (h ++ x ∷ []) ≡ committed h ++ (if b then x.0.txn ∷ [] else [])
committed_with h x b e = committed_append h (x ∷ []) ∙ ap (λ l. committed h ++ l) (ap (λ c. cons_option (if c then Some x.0.txn else None) []) e ∙ by b)
  where
    by : (b : Bool) → cons_option (if b then Some x.0.txn else None) [] ≡ (if b then x.0.txn ∷ [] else [])
    by true = refl
    by false = refl

-- The program of t in a history.
abbrev pub program_in : List Entry → ℕ → Program
program_in h t = record { txn = t; operations = operations_of t h }

-- All of these transactions have ended.
abbrev pub HaveEnded : State → List ℕ → Type 0
HaveEnded s [] = Unit {0}
HaveEnded s (u ∷ us) = (has_ended s u ≡ true) × HaveEnded s us

pub ended_stay : (s new : State) (us : List ℕ) → ((u : ℕ) → has_ended s u ≡ true → has_ended new u ≡ true) → HaveEnded s us → HaveEnded new us
ended_stay s new [] f h = tt
ended_stay s new (u ∷ us) f h = (f u h.0, ended_stay s new us f h.1)

pub ended_more : (s : State) (t : ℕ) (us : List ℕ) → has_ended s t ≡ true → HaveEnded s us → HaveEnded s (us ++ t ∷ [])
ended_more s t [] e h = (e, tt)
ended_more s t (u ∷ us) e h = (h.0, ended_more s t us e h.1)

-- Programs of ended transactions stay, where an entry adds nothing to theirs.
pub programs_stay : (s : State) (h : List Entry) (x : Entry) (us : List ℕ) → HaveEnded s us → ((u : ℕ) → has_ended s u ≡ true → IsSilent u x) → map (program_in (h ++ x ∷ [])) us ≡ map (program_in h) us
programs_stay s h x [] ended silent = refl
programs_stay s h x (u ∷ us) ended silent =
    ap₂ (λ (os : List Answered) (more : List Program). let q : Program = record { txn = u; operations = os } in q ∷ more) (operations_kept u x h (silent u ended.0)) (programs_stay s h x us ended.1 silent)

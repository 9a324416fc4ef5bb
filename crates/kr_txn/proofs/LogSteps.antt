-- What the steps of a log do to its unfinished transactions.
use Rattle.std.specs.Prelude.{◌≡◌, ℕ, ◌+◌, ◌≤◌, List, [], ◌∷◌, ◌++◌, Option, Some, None, IfSome, is_some, true, refl, IsTrue, unwrap_or, length, Vec, ◌⊎◌}
use Rattle.std.specs.Option.{option_map}
use Rattle.std.specs.Vec.{vec_len, vec_capacity}
use Rattle.std.specs.declared.alloc.Global.{Global}
use Rattle.std.specs.Ordering.{nat_cmp}
use Rattle.std.specs.FinMap.{find, put}
use Rattle.std.proofs.Common.{sym, ◌∙◌, ap, subst, inl, inr, arith}
use Rattle.kr_model.specs.declared.Op.{Op}
use Rattle.kr_model.specs.declared.Reply.{Reply}
use Rattle.kr_model.specs.Run.{Answered}
use Rattle.kr_model.specs.declared.Event.{Event}
use Rattle.kr_model.specs.declared.Program.{Program}
use Rattle.kr_model.specs.Log.{Log, last_answered, with_step, step_logged}
use Rattle.kr_txn.specs.declared.unfinished.Unfinished.{Unfinished}
use Rattle.kr_txn.specs.declared.unfinished.Ready.{Ready}
use Rattle.kr_txn.specs.Logs.{entries, txn_of, IsReady}

-- The last of some operations is answered anew.
pub last_answered_pushed : (os : List Answered) (o : Op) (a b : Reply) → last_answered b (os ++ (o, a) ∷ []) ≡ os ++ (o, b) ∷ []
last_answered_pushed [] o a b = refl
last_answered_pushed (x ∷ []) o a b = refl
last_answered_pushed (x ∷ y ∷ ys) o a b = ap (λ z. x ∷ z) (last_answered_pushed (y ∷ ys) o a b)

-- How many transactions a list has.
pub unfinished_len : (v : Vec Unfinished Global) → vec_len v ≡ length v.items
unfinished_len v = omega arith

-- A transaction that isn't in a list isn't in one with the same items.
pub anew_apart : (t u : ℕ) (xs ys : List Unfinished) → u ≡ t → xs ≡ ys → find nat_cmp t (entries ys) ≡ None → find nat_cmp u (entries xs) ≡ None
anew_apart t u xs ys same items none = subst (λ v. find nat_cmp v (entries xs) ≡ None) (sym same) (subst (λ zs. find nat_cmp t (entries zs) ≡ None) (sym items) none)

-- A log that may note a step has a transaction with its memory.
pub is_ready : (r : Option Ready) (t : ℕ) → option_map txn_of r ≡ Some t → r ≡ None → ⊥
is_ready None t e f = absurd (none_some t e)
  where
    none_some : (t : ℕ) → ◌≡◌ {A = Option ℕ} None (Some t) → ⊥
    none_some t e = cc
is_ready (Some x) t e f = some_none x f
  where
    some_none : (x : Ready) → Some x ≡ None → ⊥
    some_none x e = cc

-- A step that is done is logged.
pub step_noted : (t : ℕ) (e : Event) (a : Reply) (es new : List (ℕ × List Answered)) (ps : List Program) → Some t ≡ Some e.txn
    → new ≡ put nat_cmp t (with_step (unwrap_or (find nat_cmp t es) []) e.op a) es
    → ◌≡◌ {A = Log} (record { unfinished = new; committed = ps }) (step_logged (record { unfinished = es; committed = ps }) e.txn e.op a)
step_noted t e a es new ps same is =
    let s : t ≡ e.txn = cc in
    ap (λ us. let l : Log = record { unfinished = us; committed = ps } in l) (is ∙ ap (λ u. put nat_cmp u (with_step (unwrap_or (find nat_cmp u es) []) e.op a) es) s)

-- The program of a transaction that may be committed has room.
pub room_to_commit : (us : Vec Unfinished Global) (ps : Vec Program Global) (r : Option Ready) (t : ℕ) → IfSome r (IsReady us ps) → (option_map txn_of r ≡ Some t) ⊎ IsTrue (is_some (find nat_cmp t (entries us.items)))
    → (is_some (find nat_cmp t (entries us.items)) ≡ true) ⊎ (vec_len us + vec_len ps + 1 ≤ vec_capacity ps)
room_to_commit us ps r t ready (inr listed) = inl listed
room_to_commit us ps (Some x) t ready (inl e) = inr ready.program
room_to_commit us ps None t ready (inl e) = absurd (none_some t e)
  where
    none_some : (t : ℕ) → ◌≡◌ {A = Option ℕ} None (Some t) → ⊥
    none_some t e = cc

-- Which refusal applies, by what is known of a transaction.
use Rattle.std.proofs.Common.{◌≡◌, ℕ, Bool, true, false, cond, Option, Some, None, List, [], ◌∷◌, ap, sym, ◌∙◌, refl, length, is_some, suc, reverse, arith}
use Rattle.std.specs.Prelude.{Vec, nat_le, not, ◌&&◌, ◌==◌, unwrap_or}
use Rattle.std.specs.Vec.{vec_len}
use Rattle.std.specs.declared.alloc.Global.{Global}
use Rattle.std.proofs.lemmas.Bool.Decides.{nat_tests}
use Rattle.std.specs.List.{list_any}
use Rattle.std.proofs.lemmas.List.{length-reverse}
use Rattle.std.specs.Ordering.{nat_cmp}
use Rattle.std.specs.FinMap.{find}
use Rattle.std.specs.Option.{option_map}
use Rattle.kr_model.specs.declared.Op.{Op}
use Rattle.kr_model.specs.declared.Refusal.{Refusal}
use Rattle.kr_model.specs.declared.Refusal.TheVariants.{Ended, Full}
use Rattle.kr_model.specs.Protocol.{Protocol}
use Rattle.kr_model.specs.Map.{Map, Changes}
use Rattle.kr_model.specs.Locks.{Locks}
use Rattle.kr_model.specs.State.{Active, idle}
use Rattle.kr_model.specs.Covers.{is_empty}
use Rattle.kr_model.specs.Step.{refusal_of}
use Rattle.kr_txn.specs.declared.Scan as txn
use Rattle.kr_txn.specs.Standings.{scan_of}
use Rattle.kr_plan.specs.Refusals.{refusal_in}

-- The refusal of an operation whose transaction has not ended, by whether updates are offered and how it stands.
abbrev pub refused_by : Bool → Option Active → Bool → Op → Option Refusal
refused_by v None full o = cond full (Some Full) (refusal_in v false false true o)
refused_by v (Some a) full o = refusal_in v a.rolling (is_some a.scan) (is_empty a.changes) o

chain : (v x : Bool) (f : Option Active) (l : Bool) (o : Op) → cond x (Some Ended) (cond (not (is_some f) && l) (Some Full) (let a = unwrap_or f idle in refusal_in v a.rolling (is_some a.scan) (is_empty a.changes) o)) ≡ cond x (Some Ended) (refused_by v f l o)
chain v true f l o = refl
chain v false None l o = refl
chain v false (Some a) l o = refl

-- The refusal of an operation, by what is known of its transaction.
pub refusal_is : (p : Protocol) (m : Map) (h : Locks) (ended : List ℕ) (es : List (ℕ × Active)) (t : ℕ) (o : Op) → (x : Bool) → list_any (λ u. u == t) ended ≡ x → (f : Option Active) → find nat_cmp t es ≡ f → (l : Bool) → nat_le 64 (length es) ≡ l
    → refusal_of p (record { map = m; locks = h; ended = ended; active = es }) t o ≡ cond x (Some Ended) (refused_by p.updates f l o)
refusal_is p m h ended es t o x hx f hf l hl =
    chain p.updates (list_any (λ u. u == t) ended) (find nat_cmp t es) (nat_le 64 (length es)) o ∙ ap (λ y. cond y (Some Ended) (refused_by p.updates (find nat_cmp t es) (nat_le 64 (length es)) o)) hx
    ∙ ap (λ g. cond x (Some Ended) (refused_by p.updates g (nat_le 64 (length es)) o)) hf ∙ ap (λ k. cond x (Some Ended) (refused_by p.updates f k o)) hl

-- A scan in progress is one for the definitions too.
pub scanning : (c : Option txn.Scan) → is_some (option_map scan_of c) ≡ is_some c
scanning None = refl
scanning (Some c) = refl

empty_by_length : (cs : Changes) → (length cs == 0) ≡ is_empty cs
empty_by_length [] = refl
empty_by_length (c ∷ cs) = some (length cs)
  where
    some : (n : ℕ) → (suc n == 0) ≡ false
    some n = grind (arith, nat_tests)

-- How many changes a transaction has.
pub change_length : (v : Vec (ℕ × Option ℕ) Global) → vec_len v ≡ length v.items
change_length v = omega arith

-- A transaction without changes is one for the definitions too.
pub unchanged : (v : Vec (ℕ × Option ℕ) Global) → (vec_len v == 0) ≡ is_empty (reverse v.items)
unchanged v = ap (λ n. n == 0) (change_length v ∙ sym (length-reverse v.items)) ∙ empty_by_length (reverse v.items)

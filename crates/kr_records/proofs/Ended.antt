-- Which transactions have ended after a step, and which numbers have the memory of their end.
use Rattle.std.proofs.Common.{◌≡◌, ◌≢◌, ℕ, ◌<◌, ◌==◌, ◌||◌, Bool, true, false, not, List, [], ◌∷◌, ◌++◌, length, Option, Some, None, is_some, All, refl, ap, sym, ◌∙◌, subst, length-set, ⊎_elim, inl, inr, suc, cond}
use Rattle.std.specs.Prelude.{slice_set, slice_index_or, ◌⊎◌, Ok, Err, OnOk, OnErr}
use Rattle.std.specs.declared.result.Result.{Result}
use Rattle.std.specs.List.{list_any}
use Rattle.std.proofs.lemmas.Bool.{eqb-true}
use Rattle.std.proofs.lemmas.Bool.Decides.{eqb_tells}
use Rattle.std.proofs.lemmas.List.{get_or-set_same, get_or-set_other}
use Rattle.std.proofs.lemmas.List.Elements.{All-push, All-weaker, All-head, All-tail}
use Rattle.kr_model.specs.declared.Op.{Op}
use Rattle.kr_model.specs.declared.Op.TheVariants as op
use Rattle.kr_model.specs.declared.Refusal.{Refusal}
use Rattle.kr_model.specs.declared.Refusal.TheVariants as refusal
use Rattle.kr_model.specs.declared.Step.{Step}
use Rattle.kr_model.specs.declared.Step.TheVariants as attempt
use Rattle.kr_model.specs.Protocol.{Protocol}
use Rattle.kr_model.specs.Locks.{Request, add_once, blockers}
use Rattle.kr_model.specs.State.{State, Scan, has_ended, standing}
use Rattle.kr_model.specs.Step.{step, is_end, refusal_of, unless_refused, performed, granted_or_blocked, attempted, attempted_scan, name_to_look, looked, fetched, inserted, deleted, updated, one_taken_back, Effect}
use Rattle.kr_model.specs.Plan.{plan_of, requests}
use Rattle.kr_model.specs.Map.{Changes, get}
use Rattle.kr_model.specs.Run.{is_granted}
use Rattle.kr_model.proofs.Actives.{any_add_once, tied, untied}
use Rattle.kr_model.proofs.KindsOfSteps.{not_refused}
use Rattle.kr_records.specs.declared.numbers.Number.{Number}
use Rattle.kr_records.specs.declared.name.Entry.{Entry}
use Rattle.kr_records.specs.Numbers.{begun_by, was_begun, is_begun, nobody, IsPlace, HaveEnds, ends_kept}
use Rattle.kr_records.specs.Cores.{unended}
use Rattle.kr_records.proofs.Ends.{begun_more}
use Rattle.kr_records.proofs.Begun.{still_begun, still_begun_by}
use Rattle.kr_records.proofs.Lists.{get_or-default}

-- Steps --

stays_unless_blocked : (p : Protocol) (s : State) (t : ℕ) (rs : List Request) (e : Effect) (us : List ℕ) → (granted_or_blocked p s t rs e us).1.ended ≡ s.ended
stays_unless_blocked p s t rs e [] = refl
stays_unless_blocked p s t rs e (u ∷ us) = refl

stays_attempted : (p : Protocol) (s : State) (t : ℕ) (a : Step) (e : Effect) → (attempted p s t a e).1.ended ≡ s.ended
stays_attempted p s t a e =
    let rs = requests (plan_of p s.map s.locks t a) in
    stays_unless_blocked p s t rs e (blockers p s.locks t rs)

stays_scanned : (p : Protocol) (s : State) (t : ℕ) (c : Option Scan) → (attempted_scan p s t c).1.ended ≡ s.ended
stays_scanned p s t None = refl
stays_scanned p s t (Some c) =
    let n = name_to_look s.map c in
    stays_attempted p s t (attempt.Look n c.hi) (looked s.map (standing s t) c n)

stays_taken_back : (s : State) (t : ℕ) (l : Changes) → (one_taken_back s t l).1.ended ≡ s.ended
stays_taken_back s t [] = refl
stays_taken_back s t (c ∷ cs) = refl

stays_performed : (p : Protocol) (s : State) (t : ℕ) (o : Op) → is_end o ≡ false → (performed p s t o).1.ended ≡ s.ended
stays_performed p s t (op.Fetch k) e = stays_attempted p s t (attempt.Fetch k) (fetched s.map (standing s t) (get s.map k))
stays_performed p s t (op.Scan lo hi) e = stays_scanned p s t (Some (record { lo = lo; hi = hi; rows = [] }))
stays_performed p s t op.Go e = stays_scanned p s t (standing s t).scan
stays_performed p s t (op.Insert k v) e = stays_attempted p s t (attempt.Insert k) (inserted s.map (standing s t) k v (get s.map k))
stays_performed p s t (op.Delete k) e = stays_attempted p s t (attempt.Delete k) (deleted s.map (standing s t) k (get s.map k))
stays_performed p s t (op.Update k v) e = stays_attempted p s t (attempt.Update k) (updated s.map (standing s t) k v (get s.map k))
stays_performed p s t op.Back e = stays_taken_back s t (standing s t).changes
stays_performed p s t op.Commit e = absurd (cc)
stays_performed p s t op.Abort e = absurd (cc)

stays_unless : (p : Protocol) (s : State) (t : ℕ) (o : Op) (r : Option Refusal) → is_end o ≡ false → (unless_refused p s t o r).1.ended ≡ s.ended
stays_unless p s t o (Some r) e = refl
stays_unless p s t o None e = stays_performed p s t o e

-- a step that isn't an end ends nobody
pub ended_stays : (p : Protocol) (s : State) (t : ℕ) (o : Op) → is_end o ≡ false → (step p s t o).1.ended ≡ s.ended
ended_stays p s t o e = stays_unless p s t o (refusal_of p s t o) e

free_of : (p : Protocol) (s : State) (t : ℕ) (o : Op) (r : Option Refusal) → is_granted (unless_refused p s t o r).0 ≡ true → r ≡ None
free_of p s t o (Some r) granted = absurd (cc)
free_of p s t o None granted = refl

-- who is granted a step has not ended
pub works : (p : Protocol) (s : State) (t : ℕ) (o : Op) → is_granted (step p s t o).0 ≡ true → has_ended s t ≡ false
works p s t o granted = (not_refused (has_ended s t) refusal.Ended _ (free_of p s t o (refusal_of p s t o) granted)).0

ends_performed : (p : Protocol) (s : State) (t : ℕ) (o : Op) → is_end o ≡ true → (performed p s t o).1.ended ≡ add_once t s.ended
ends_performed p s t op.Commit e = refl
ends_performed p s t op.Abort e = refl
ends_performed p s t (op.Fetch k) e = absurd (cc)
ends_performed p s t (op.Scan lo hi) e = absurd (cc)
ends_performed p s t op.Go e = absurd (cc)
ends_performed p s t (op.Insert k v) e = absurd (cc)
ends_performed p s t (op.Delete k) e = absurd (cc)
ends_performed p s t (op.Update k v) e = absurd (cc)
ends_performed p s t op.Back e = absurd (cc)

-- a granted end ends its transaction
pub ended_by : (p : Protocol) (s : State) (t : ℕ) (o : Op) → is_end o ≡ true → is_granted (step p s t o).0 ≡ true → (step p s t o).1.ended ≡ add_once t s.ended
ended_by p s t o e granted = ap (λ (r : Option Refusal). (unless_refused p s t o r).1.ended) (free_of p s t o (refusal_of p s t o) granted) ∙ ends_performed p s t o e

after_end : (s new : State) (t u : ℕ) → new.ended ≡ add_once t s.ended → has_ended new u ≡ ((t == u) || has_ended s u)
after_end s new t u is = ap (list_any (λ (v : ℕ). v == u)) is ∙ any_add_once (λ v. v == u) t s.ended

-- who has ended after a granted step had ended, or is the one that did it
pub ended_after : (p : Protocol) (s new : State) (t : ℕ) (o : Op) → is_granted (step p s t o).0 ≡ true → new ≡ (step p s t o).1 → (u : ℕ) → has_ended new u ≡ true → (t ≡ u) ⊎ (has_ended s u ≡ true)
ended_after p s new t o granted is u h = by (is_end o) refl
  where
    either : (b c : Bool) → (b ≡ true → t ≡ u) → (b || c) ≡ true → (t ≡ u) ⊎ (c ≡ true)
    either true c f h = inl (f refl)
    either false c f h = inr h

    by : (b : Bool) → is_end o ≡ b → (t ≡ u) ⊎ (has_ended s u ≡ true)
    by true e = either (t == u) (has_ended s u) (eqb-true t u) (sym (after_end s new t u (ap (λ (x : State). x.ended) is ∙ ended_by p s t o e granted)) ∙ h)
    by false e = inr (sym (ap (list_any (λ (v : ℕ). v == u)) (ap (λ (x : State). x.ended) is ∙ ended_stays p s t o e)) ∙ h)

-- nobody more has ended where the state is that of a step which ends nobody, or nothing has changed
pub nobody_ended : {A E M : Type 0} (state_of : M → State) (r : Result A E) (old new : M) (after : State) → OnOk r (state_of new ≡ after) → OnErr r (new ≡ old) → after.ended ≡ (state_of old).ended
    → (state_of new).ended ≡ (state_of old).ended
nobody_ended state_of (Ok x) old new after ok err same = ap (λ (s : State). s.ended) ok ∙ same
nobody_ended state_of (Err e) old new after ok err same = ap (λ (m : _). (state_of m).ended) err

-- The memory of ends --

-- one number changes, and whether its transaction has ended
ends_set : (s new : State) (ns : List Number) (t i : ℕ) (n : Number) → IsPlace ns t i → n.txn ≡ t → is_some n.end ≡ not (has_ended new t)
    → ((u : ℕ) → t ≢ u → has_ended new u ≡ has_ended s u) → HaveEnds s ns → HaveEnds new (slice_set ns i n)
ends_set s new ns t i n p is own others all k d l = ⊎_elim mine other (eqb_tells k i)
  where
    within : k < length ns
    within = subst (λ (m : ℕ). k < m) (length-set ns i n) l

    mine : ((k == i) ≡ true) × (k ≡ i) → is_some (slice_index_or (slice_set ns i n) k d).end ≡ not (has_ended new (slice_index_or (slice_set ns i n) k d).txn)
    mine e =
        let there : slice_index_or (slice_set ns i n) k d ≡ n = ap (λ (j : ℕ). slice_index_or (slice_set ns i n) j d) e.1 ∙ get_or-set_same ns i n d p.within in
        subst (λ (x : Number). is_some x.end ≡ not (has_ended new x.txn)) (sym there) (own ∙ ap (λ (u : ℕ). not (has_ended new u)) (sym is))

    other : ((k == i) ≡ false) × (k ≢ i) → is_some (slice_index_or (slice_set ns i n) k d).end ≡ not (has_ended new (slice_index_or (slice_set ns i n) k d).txn)
    other e =
        let there : slice_index_or (slice_set ns i n) k d ≡ slice_index_or ns k d = get_or-set_other ns i k n d e.1 in
        let apart : t ≢ (slice_index_or ns k d).txn = λ (same : t ≡ (slice_index_or ns k d).txn). e.1 (p.only k within (ap (λ (x : Number). x.txn) (get_or-default ns k nobody d within) ∙ sym same)) in
        subst (λ (x : Number). is_some x.end ≡ not (has_ended new x.txn)) (sym there) (all k d within ∙ ap not (sym (others (slice_index_or ns k d).txn apart)))

-- nobody more has ended
pub ends_stay : (s new : State) (ns : List Number) → new.ended ≡ s.ended → HaveEnds s ns → HaveEnds new ns
ends_stay s new ns is all k d l = all k d l ∙ ap (λ (us : List ℕ). not (list_any (λ (v : ℕ). v == (slice_index_or ns k d).txn) us)) (sym is)

-- a transaction ends, and the memory of its end is taken
pub ends_taken : (p : Protocol) (s new : State) (t : ℕ) (o : Op) (ns : List Number) (i : ℕ) (n : Number) → is_end o ≡ true → is_granted (step p s t o).0 ≡ true → new ≡ (step p s t o).1
    → IsPlace ns t i → n.txn ≡ t → n.end ≡ None → HaveEnds s ns → HaveEnds new (slice_set ns i n)
ends_taken p s new t o ns i n e granted is place same none all = ends_set s new ns t i n place same own others all
  where
    ended : new.ended ≡ add_once t s.ended
    ended = ap (λ (x : State). x.ended) is ∙ ended_by p s t o e granted

    own : is_some n.end ≡ not (has_ended new t)
    own = ap is_some none ∙ sym (ap not (after_end s new t t ended ∙ ap (λ (b : Bool). b || has_ended s t) (tied t)))

    others : (u : ℕ) → t ≢ u → has_ended new u ≡ has_ended s u
    others u apart = after_end s new t u ended ∙ ap (λ (b : Bool). b || has_ended s u) (untied t u apart)

-- the memory is given back
pub ends_back : (s : State) (ns : List Number) (t i : ℕ) (n : Number) → IsPlace ns t i → n.txn ≡ t → is_some n.end ≡ true → has_ended s t ≡ false → HaveEnds s ns → HaveEnds s (slice_set ns i n)
ends_back s ns t i n place same some live all = ends_set s s ns t i n place same (some ∙ sym (ap not live)) (λ u apart. refl) all

-- one number more
pub ends_with : (s : State) (ns : List Number) (n : Number) → is_some n.end ≡ true → has_ended s n.txn ≡ false → HaveEnds s ns → HaveEnds s (ns ++ n ∷ [])
ends_with s ns n some live all = All-push (λ (x : Number). is_some x.end ≡ not (has_ended s x.txn)) ns n all (some ∙ sym (ap not live))

-- who never began has not ended
pub live : (s : State) (ns : List Number) (t : ℕ) → ((u : ℕ) → has_ended s u ≡ true → was_begun (begun_by ns) u ≡ true) → was_begun (begun_by ns) t ≡ false → has_ended s t ≡ false
live s ns t all none = by (has_ended s t) refl
  where
    by : (b : Bool) → has_ended s t ≡ b → b ≡ false
    by true h = sym (all t h) ∙ none
    by false h = refl

-- One number more: what was begun is begun still.
pub begun_with : (ns : List Number) (n : Number) (es : List Entry) → All (λ e. is_begun (begun_by ns) e.event.txn e.seat ≡ true) es → All (λ e. is_begun (begun_by (ns ++ n ∷ [])) e.event.txn e.seat ≡ true) es
begun_with ns n es all =
    subst (λ (l : List (ℕ × ℕ)). All (λ e. is_begun l e.event.txn e.seat ≡ true) es) (sym (begun_more ns n))
    (All-weaker (λ (e : Entry). is_begun (begun_by ns) e.event.txn e.seat ≡ true) (λ (e : Entry). is_begun (begun_by ns ++ (n.txn, n.seat) ∷ []) e.event.txn e.seat ≡ true)
    (λ e h. still_begun_by (begun_by ns) (n.txn, n.seat) e.event.txn e.seat h) es all)

pub ended_with_one : (s : State) (ns : List Number) (n : Number) → ((u : ℕ) → has_ended s u ≡ true → was_begun (begun_by ns) u ≡ true) → (u : ℕ) → has_ended s u ≡ true → was_begun (begun_by (ns ++ n ∷ [])) u ≡ true
ended_with_one s ns n all u h = ap (λ (l : List (ℕ × ℕ)). was_begun l u) (begun_more ns n) ∙ still_begun (begun_by ns) (n.txn, n.seat) u (all u h)

-- The kept ends are those of the numbers whose transactions haven't ended.
pub kept_unended : (s : State) (ns : List Number) → HaveEnds s ns → ends_kept ns ≡ unended s (begun_by ns)
kept_unended s [] all = refl
kept_unended s (x ∷ xs) all = by (is_some x.end) (has_ended s x.txn) (All-head (λ (n : Number). is_some n.end ≡ not (has_ended s n.txn)) x xs all) (kept_unended s xs (All-tail (λ (n : Number). is_some n.end ≡ not (has_ended s n.txn)) x xs all))
  where
    by : (b c : Bool) → b ≡ not c → ends_kept xs ≡ unended s (begun_by xs) → cond b (suc (ends_kept xs)) (ends_kept xs) ≡ cond c (unended s (begun_by xs)) (suc (unended s (begun_by xs)))
    by true true e h = absurd (cc)
    by true false e h = ap suc h
    by false true e h = h
    by false false e h = absurd (cc)

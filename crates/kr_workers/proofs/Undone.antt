-- Events taken off what their transactions are to do.
use Rattle.std.proofs.Common.{◌≡◌, ℕ, suc, ◌-◌, ◌<◌, ◌≤◌, List, [], ◌∷◌, ◌++◌, length, take, drop, get_or, map, Bool, true, false, ◌==◌, None, refl, ap, sym, ◌∙◌, subst, arith, append_assoc, drop-cons, length-drop}
use Rattle.std.specs.Prelude.{◌≢◌, All}
use Rattle.std.specs.BTreeMap.{get}
use Rattle.std.specs.Ordering.{nat_cmp}
use Rattle.std.proofs.lemmas.Bool.{eqb-true}
use Rattle.std.proofs.lemmas.Bool.Decides.{nat_tests}
use Rattle.std.proofs.lemmas.List.{append-nil, append_cancel_right, take-append-drop, take-take, drop-append-le, get_or-take, length-take-le}
use Rattle.std.proofs.lemmas.List.Elements.{All-cons, All-nil}
use Rattle.kr_model.specs.declared.Event.{Event}
use Rattle.kr_model.specs.declared.Op.{Op}
use Rattle.kr_workers.specs.Follows.{ops_of}
use Rattle.kr_workers.specs.Dealt.{between, hand_in, IsRun}
use Rattle.kr_workers.proofs.Hands.{Hands, ops_both, ops_own, ops_none}
use Rattle.kr_workers.proofs.Wants.{hand_found}

-- Places --

-- One event more before the place.
pub between_before : (start end : ℕ) (events : List Event) (d : Event) → 0 < start → start ≤ end → end ≤ length events → between (start - 1) end events ≡ get_or events (start - 1) d ∷ between start end events
between_before start end events d some from within =
    drop-cons (take end events) (start - 1) d (omega (arith, some, from, within, length-take-le end events within))
    ∙ ap (λ (e : Event). e ∷ drop (suc (start - 1)) (take end events)) (get_or-take end events (start - 1) d (omega (arith, some, from)))
    ∙ ap (λ (k : ℕ). get_or events (start - 1) d ∷ drop k (take end events)) one
  where
    one : suc (start - 1) ≡ start
    one = omega (arith, some)

-- None from the last on.
pub between_end : (end : ℕ) (events : List Event) → end ≤ length events → between end end events ≡ []
between_end end events within = none (between end end events) (omega (arith, length-drop end (take end events), length-take-le end events within))
  where
    none : (es : List Event) → length es ≡ 0 → es ≡ []
    none [] is = refl
    none (e ∷ es) is = absurd (omega (arith, is))

-- What stands from one place on: that up to another, and that from there on.
pub drop_between : (start end : ℕ) (events : List Event) → start ≤ end → end ≤ length events → drop start events ≡ between start end events ++ drop end events
drop_between start end events from within =
    ap (drop start) (sym (take-append-drop end events))
    ∙ drop-append-le start (take end events) (drop end events) (omega (arith, from, length-take-le end events within))

-- What stands up to one place: that up to another, and that from there on.
pub take_between : (start end : ℕ) (events : List Event) → start ≤ end → take end events ≡ take start events ++ between start end events
take_between start end events from = sym (take-append-drop start (take end events)) ∙ ap (λ (es : List Event). es ++ between start end events) (take-take start end events from)

-- A run --

-- One operation more is taken.
pub taken_more : (t start end : ℕ) (events : List Event) (d : Event) (before longer shorter : List Op) → 0 < start → start ≤ end → end ≤ length events
    → (get_or events (start - 1) d).txn ≡ t → longer ≡ shorter ++ (get_or events (start - 1) d).op ∷ []
    → All (λ e. e.txn ≡ t) (between start end events) → before ≡ longer ++ map (λ e. e.op) (between start end events)
    → All (λ e. e.txn ≡ t) (between (start - 1) end events) × (before ≡ shorter ++ map (λ e. e.op) (between (start - 1) end events))
taken_more t start end events d before longer shorter some from within own last of_one taken = (
  subst (All (λ e. e.txn ≡ t)) (sym more) (All-cons (λ (x : Event). x.txn ≡ t) e (between start end events) own of_one),
  taken ∙ ap (λ (os : List Op). os ++ map (λ x. x.op) (between start end events)) last
      ∙ append_assoc shorter (e.op ∷ []) (map (λ x. x.op) (between start end events))
      ∙ ap (λ (es : List Event). shorter ++ map (λ x. x.op) es) (sym more),
)
  where
    e : Event
    e = get_or events (start - 1) d

    more : between (start - 1) end events ≡ e ∷ between start end events
    more = between_before start end events d some from within

-- Where they end with the operations of the run so far, and with all of the transaction's, they end with the operation before the run.
pub last_of : (t start end : ℕ) (events : List Event) (d : Event) (before longer : List Op) → 0 < start → start ≤ end → end ≤ length events
    → (get_or events (start - 1) d).txn ≡ t
    → All (λ e. e.txn ≡ t) (between start end events) → before ≡ longer ++ map (λ e. e.op) (between start end events)
    → before ≡ ops_of t (take end events)
    → longer ≡ ops_of t (take (start - 1) events) ++ (get_or events (start - 1) d).op ∷ []
last_of t start end events d before longer some from within own of_one taken all =
    append_cancel_right longer (so_far ++ e.op ∷ []) (map (λ x. x.op) run)
    (sym taken ∙ all ∙ ap (ops_of t) (take_between (start - 1) end events (omega (arith, from)))
    ∙ ops_both (take (start - 1) events) (between (start - 1) end events) t
    ∙ ap (λ (os : List Op). so_far ++ os) (ops_own (between (start - 1) end events) t (subst (All (λ e. e.txn ≡ t)) (sym more) (All-cons (λ (x : Event). x.txn ≡ t) e run own of_one)))
    ∙ ap (λ (es : List Event). so_far ++ map (λ x. x.op) es) more
    ∙ sym (append_assoc so_far (e.op ∷ []) (map (λ x. x.op) run)))
  where
    e : Event
    e = get_or events (start - 1) d

    run : List Event
    run = between start end events

    so_far : List Op
    so_far = ops_of t (take (start - 1) events)

    more : between (start - 1) end events ≡ e ∷ run
    more = between_before start end events d some from within

-- Maps --

-- The operations of each transaction, where a run is taken off its own.
pub run_taken : (t start end : ℕ) (events : List Event) (m w : Hands) (longer shorter : List Op) → IsRun t start end events
    → hand_in m t ≡ longer → hand_in w t ≡ shorter → ((u : ℕ) → u ≢ t → hand_in w u ≡ hand_in m u)
    → longer ≡ shorter ++ map (λ e. e.op) (between start end events)
    → (u : ℕ) → hand_in m u ≡ hand_in w u ++ ops_of u (between start end events)
run_taken t start end events m w longer shorter run had has others taken u = by (t == u) refl
  where
    es : List Event
    es = between start end events

    by : (b : Bool) → (t == u) ≡ b → hand_in m u ≡ hand_in w u ++ ops_of u es
    by true is =
        subst (λ (x : ℕ). hand_in m x ≡ hand_in w x ++ ops_of x es) (eqb-true t u is)
        (had ∙ taken ∙ ap (λ (os : List Op). shorter ++ os) (sym (ops_own es t run.of_one)) ∙ ap (λ (os : List Op). os ++ ops_of t es) (sym has))
    by false is =
        sym (others u (λ same. absurd (grind (arith, nat_tests))))
        ∙ sym (append-nil (hand_in w u))
        ∙ ap (λ (os : List Op). hand_in w u ++ os) (sym (ops_none es t u is run.of_one))

-- A transaction that the map doesn't find has no operations, and the last event is one of its own.
pub none_there : (end : ℕ) (events : List Event) (d : Event) (m : Hands) → 0 < end → end ≤ length events
    → None ≡ get nat_cmp m (get_or events (end - 1) d).txn
    → hand_in m (get_or events (end - 1) d).txn ≡ ops_of (get_or events (end - 1) d).txn (take end events) → ⊥
none_there end events d m some within found all =
    not_pushed (ops_of t (take (end - 1) events)) _ (sym (hand_found m t None found)
    ∙ last_of t end end events d (hand_in m t) (hand_in m t) some (omega arith) within refl
    (subst (All (λ e. e.txn ≡ t)) (sym none) (All-nil (λ (e : Event). e.txn ≡ t)))
    (sym (append-nil (hand_in m t)) ∙ ap (λ (es : List Event). hand_in m t ++ map (λ e. e.op) es) (sym none)) all)
  where
    t : ℕ
    t = (get_or events (end - 1) d).txn

    none : between end end events ≡ []
    none = between_end end events within

    not_pushed : (os : List Op) (o : Op) → [] ≡ os ++ o ∷ [] → ⊥
    not_pushed [] o is = absurd (cc)
    not_pushed (p ∷ os) o is = absurd (cc)

-- One run more is taken.
pub undone_more : (start end : ℕ) (events : List Event) (m h w : Hands) → start ≤ end → end ≤ length events
    → ((t : ℕ) → hand_in m t ≡ hand_in h t ++ ops_of t (drop end events))
    → ((t : ℕ) → hand_in h t ≡ hand_in w t ++ ops_of t (between start end events))
    → (t : ℕ) → hand_in m t ≡ hand_in w t ++ ops_of t (drop start events)
undone_more start end events m h w from within so_far taken t =
    so_far t ∙ ap (λ (os : List Op). os ++ ops_of t (drop end events)) (taken t)
    ∙ append_assoc (hand_in w t) (ops_of t (between start end events)) (ops_of t (drop end events))
    ∙ ap (λ (os : List Op). hand_in w t ++ os) (sym (ops_both (between start end events) (drop end events) t))
    ∙ ap (λ (es : List Event). hand_in w t ++ ops_of t es) (sym (drop_between start end events from within))

-- Where the map had the operations of all events, it has those of the events that are left.
pub left_before : (end : ℕ) (events : List Event) (m h : Hands)
    → ((t : ℕ) → hand_in m t ≡ hand_in h t ++ ops_of t (drop end events))
    → ((t : ℕ) → hand_in m t ≡ ops_of t events)
    → (t : ℕ) → hand_in h t ≡ ops_of t (take end events)
left_before end events m h so_far all t =
    append_cancel_right (hand_in h t) (ops_of t (take end events)) (ops_of t (drop end events))
    (sym (so_far t) ∙ all t ∙ ap (ops_of t) (sym (take-append-drop end events)) ∙ ops_both (take end events) (drop end events) t)

-- A history follows a script where its events, taken off what each transaction is to do, leave nothing.
use Rattle.std.proofs.Common.{◌≡◌, ℕ, List, [], ◌∷◌, ◌++◌, ap, sym, ◌∙◌, subst}
use Rattle.std.specs.Prelude.{◌⊎◌, ◌≢◌, AllPairs, All, Contains, slice_index_or}
use mathlib.Core.Logic.{inl, inr}
use Rattle.std.proofs.lemmas.List.{append_cancel_right}
use Rattle.std.proofs.lemmas.List.Elements.{All-contains}
use Rattle.kr_model.specs.declared.Event.{Event}
use Rattle.kr_model.specs.declared.Op.{Op}
use Rattle.kr_script.specs.declared.not_done.StepFault.{StepFault}
use Rattle.kr_workers.specs.Follows.{ops_of, op_at, done_from, closed, AreRising, Follows}
use Rattle.kr_workers.specs.Dealt.{Dealing, AreDealt, AreWanted, firsts, ops_in, hand_in, IsAsked}
use Rattle.kr_workers.proofs.Firsts.{occurs}
use Rattle.kr_workers.proofs.Hands.{Hands}

module _ (steps : List Event) (faults : List StepFault) (events : List Event) (script : Dealing) (dealt : AreDealt steps script) where
  -- Where they follow, each fault is asked.
  pub all_asked : Follows steps faults events → All (IsAsked script) faults
  all_asked h k d within =
      let f = slice_index_or faults k d in
      ap (op_at f.step) (dealt.ops f.txn) ∙ h.asked k d within

  -- What a transaction is to do.
  abbrev pub wanted : ℕ → List Op
  wanted t = closed (done_from faults t 1 (ops_of t steps))

  -- One without steps is to do nothing.
  nothing_wanted : (t : ℕ) → ops_of t steps ≡ [] → wanted t ≡ []
  nothing_wanted t none = ap (λ (os : List Op). closed (done_from faults t 1 os)) none

  -- Each transaction of the script stands once.
  pub put_once : (before after : Hands) (ts : List ℕ) → ts ≡ script.txns → (AllPairs (λ t u. t ≢ u) ts → AreWanted faults ts before after) → AreWanted faults script.txns before after
  put_once before after ts is put = subst (λ (us : List ℕ). AreWanted faults us before after) is (put (subst (λ (us : List ℕ). AllPairs (λ t u. t ≢ u) us) (sym is) dealt.each_once))

  module _ (before after : Hands) (hands : (t : ℕ) → hand_in before t ≡ ops_in script t) (put : AreWanted faults script.txns before after) where
    -- The map has what each transaction is to do.
    pub all_wanted : (t : ℕ) → hand_in after t ≡ wanted t
    all_wanted t = by (occurs t steps)
      where
        own : hand_in before t ≡ ops_of t steps
        own = hands t ∙ dealt.ops t

        by : Contains (firsts steps) t ⊎ (ops_of t steps ≡ []) → hand_in after t ≡ wanted t
        by (inl has) =
            All-contains (λ u. hand_in after u ≡ closed (done_from faults u 1 (hand_in before u))) script.txns t put.own (subst (λ (ts : List ℕ). Contains ts t) (sym dealt.txns) has)
            ∙ ap (λ (os : List Op). closed (done_from faults t 1 os)) own
        by (inr none) = put.others t (λ has. (dealt.occur t).0 has none) ∙ own ∙ none ∙ sym (nothing_wanted t none)

    -- Where they follow, each has to do just what the events did.
    pub all_left : Follows steps faults events → (t : ℕ) → hand_in after t ≡ ops_of t events
    all_left h t = all_wanted t ∙ sym (h.done t)

    module _ (last : Hands) (undone : (t : ℕ) → hand_in after t ≡ hand_in last t ++ ops_of t events) where
      -- Where they follow, nothing is left.
      pub none_left : Follows steps faults events → All (λ t. hand_in last t ≡ []) script.txns
      none_left h k d within =
          let t = slice_index_or script.txns k d in
          append_cancel_right (hand_in last t) [] (ops_of t events) (sym (undone t) ∙ all_left h t)

      -- And where nothing is left, they follow.
      pub following : AreRising faults → All (IsAsked script) faults → All (λ t. hand_in last t ≡ []) script.txns → Follows steps faults events
      following rising asked none = record {
        done = λ t. by t (occurs t steps);
        asked = λ k d within. ap (op_at (slice_index_or faults k d).step) (sym (dealt.ops (slice_index_or faults k d).txn)) ∙ asked k d within;
        rising = rising;
      }
        where
          nothing_more : (os ps : List Op) → [] ≡ os ++ ps → ps ≡ []
          nothing_more [] ps is = sym is
          nothing_more (o ∷ os) ps is = absurd (cc)

          by : (t : ℕ) → Contains (firsts steps) t ⊎ (ops_of t steps ≡ []) → ops_of t events ≡ wanted t
          by t (inl has) =
              let left = All-contains (λ u. hand_in last u ≡ []) script.txns t none (subst (λ (ts : List ℕ). Contains ts t) (sym dealt.txns) has) in
              ap (λ (os : List Op). os ++ ops_of t events) (sym left) ∙ sym (undone t) ∙ all_wanted t
          by t (inr nothing) = nothing_more (hand_in last t) (ops_of t events) (sym (nothing_wanted t nothing) ∙ sym (all_wanted t) ∙ undone t) ∙ sym (nothing_wanted t nothing)

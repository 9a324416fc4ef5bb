-- What holds of no lock state of the list holds of none that one transaction can have.
use Rattle.std.proofs.Common.{ℕ, ◌<◌, ◌≤◌, ◌≡◌, ◌⊎◌, inl, inr, sym, ap, ◌∙◌, subst, List, [], ◌∷◌, ◌++◌, length, get_or, arith, Bool, true}
use Rattle.std.specs.Prelude.{◌+◌}
use Rattle.kr_model.specs.declared.LockState.{LockState}
use Rattle.kr_model.specs.Protocol.{Protocol, IsLawful}
use Rattle.kr_model.specs.Safe.{free, Beside}
use Rattle.kr_theorem.proofs.safe.Range.{beside_range}
use Rattle.std.proofs.Math.ListN.{get_or-append, length-append}
use Rattle.std.proofs.Math.Seq.{get_or-append_seam}
use Rattle.kr_decide.specs.declared.pair.Pair.{Pair}
use Rattle.kr_decide.specs.Pairs.{pair_at}
use Rattle.kr_decide.specs.Every.{AreAllPairs}
use Rattle.kr_alike.specs.Alone.{state_at, Lists, AreAlone}

pub none_alone : (p : Protocol) (states : List LockState) → AreAlone p states → (P : LockState → Type 0) (n : ℕ) → length states ≤ n → ((k : ℕ) → k < n → P (state_at states k) → ⊥) → (x : LockState) → Beside p x free → P x → ⊥
none_alone p states all P n most none x reached is =
    let l = all.listed x reached in
    none l.place (let b = l.below in omega arith) (subst P (sym l.is) is)

-- Each of the list is of modes of the protocol.
pub state_within : (p : Protocol) → IsLawful p → (states : List LockState) → AreAlone p states → (k : ℕ) → k < length states → (state_at states k).mode ≤ p.count
state_within p laws states all k lt = let z = beside_range p laws (state_at states k) free (all.reached k lt) in z.0

pub within_at : (p : Protocol) → IsLawful p → (states : List LockState) → AreAlone p states → (x : LockState) (k : ℕ) → k < length states → x ≡ state_at states k → x.mode ≤ p.count
within_at p laws states all x k lt e = subst (λ z. z.mode ≤ p.count) (sym e) (state_within p laws states all k lt)

-- One more of a loop.
pub none_more : (P : ℕ → Type 0) (i : ℕ) → ((k : ℕ) → k < i → P k → ⊥) → (P i → ⊥) → (k : ℕ) → k < i + 1 → P k → ⊥
none_more P i below last k lt = by (before k i lt)
  where
    before : (k i : ℕ) → k < i + 1 → (k < i) ⊎ (i ≡ k)
    before k i lt = grind arith

    by : (k < i) ⊎ (i ≡ k) → P k → ⊥
    by (inl b) = below k b
    by (inr e) = subst (λ z. P z → ⊥) e last

-- The lock states of the first n pairs of which the second has nothing.
pub record Collected (p : Protocol) (pairs : List Pair) (n : ℕ) (states : List LockState) : Type 0 where
  pub reached : (k : ℕ) → k < length states → Beside p (state_at states k) free
  pub listed : (j : ℕ) → j < n → (pair_at pairs j).other ≡ free → Lists states (pair_at pairs j).own

at_before : (xs : List LockState) (x : LockState) (k : ℕ) → k < length xs → state_at (xs ++ x ∷ []) k ≡ state_at xs k
at_before xs x k lt = get_or-append xs (x ∷ []) free k lt

at_end : (xs : List LockState) (x : LockState) → state_at (xs ++ x ∷ []) (length xs) ≡ x
at_end xs x = get_or-append_seam xs x [] free

before_or_last : (k i : ℕ) → k < i + 1 → (k < i) ⊎ (i ≡ k)
before_or_last k i lt = grind arith

pub collected_start : (p : Protocol) (pairs : List Pair) → Collected p pairs 0 []
collected_start p pairs = record { reached = λ k lt. absurd (omega arith); listed = λ j lt. absurd (omega arith) }

pub collected_skip : (p : Protocol) (pairs : List Pair) (n : ℕ) (states : List LockState) → Collected p pairs n states → ((pair_at pairs n).other ≡ free → ⊥) → Collected p pairs (n + 1) states
collected_skip p pairs n states old not = record { reached = old.reached; listed = λ j lt. by j (before_or_last j n lt) }
  where
    by : (j : ℕ) → (j < n) ⊎ (n ≡ j) → (pair_at pairs j).other ≡ free → Lists states (pair_at pairs j).own
    by j (inl b) e = old.listed j b e
    by j (inr i) e = absurd (not (subst (λ z. (pair_at pairs z).other ≡ free) (sym i) e))

pub collected_more : (p : Protocol) (pairs : List Pair) (n : ℕ) (states : List LockState) → Collected p pairs n states → Beside p (pair_at pairs n).own free → Collected p pairs (n + 1) (states ++ (pair_at pairs n).own ∷ [])
collected_more p pairs n states old beside = record {
  reached = λ k lt. reach k (before_or_last k (length states) (let e = one_more in omega arith));
  listed = λ j lt. list j (before_or_last j n lt);
}
  where
    x : LockState
    x = (pair_at pairs n).own

    one_more : length (states ++ x ∷ []) ≡ length states + 1
    one_more = length-append states (x ∷ [])

    reach : (k : ℕ) → (k < length states) ⊎ (length states ≡ k) → Beside p (state_at (states ++ x ∷ []) k) free
    reach k (inl b) = subst (λ z. Beside p z free) (sym (at_before states x k b)) (old.reached k b)
    reach k (inr e) = subst (λ z. Beside p (state_at (states ++ x ∷ []) z) free) e (subst (λ z. Beside p z free) (sym (at_end states x)) beside)

    list : (j : ℕ) → (j < n) ⊎ (n ≡ j) → (pair_at pairs j).other ≡ free → Lists (states ++ x ∷ []) (pair_at pairs j).own
    list j (inl b) e =
        let l = old.listed j b e in
        record { place = l.place; below = (let m = one_more in let c = l.below in omega arith); is = at_before states x l.place l.below ∙ l.is }
    list j (inr i) e = record { place = length states; below = (let m = one_more in omega arith); is = at_end states x ∙ ap (λ z. (pair_at pairs z).own) i }

pub collected_all : (p : Protocol) (pairs : List Pair) (n : ℕ) (states : List LockState) → AreAllPairs p pairs → length pairs ≤ n → Collected p pairs n states → AreAlone p states
collected_all p pairs n states all most c = record {
  reached = c.reached;
  listed = λ x b.
      let h = all.listed x free b in
      subst (λ z. Lists states z) h.own (c.listed h.place (let w = h.within in omega arith) h.other);
}

-- One more mark.
pub mark_more : (P : ℕ → Bool → Type 0) (marks : List Bool) (b : Bool) (n : ℕ) → length marks ≡ n → ((k : ℕ) → k < n → P k (get_or marks k true)) → P n b → (k : ℕ) → k < n + 1 → P k (get_or (marks ++ b ∷ []) k true)
mark_more P marks b n size old new k lt = by (before_or_last k n lt)
  where
    by : (k < n) ⊎ (n ≡ k) → P k (get_or (marks ++ b ∷ []) k true)
    by (inl c) = subst (λ z. P k z) (sym (get_or-append marks (b ∷ []) true k (omega arith))) (old k c)
    by (inr e) = subst (λ j. P j (get_or (marks ++ b ∷ []) j true)) e (subst (λ j. P n (get_or (marks ++ b ∷ []) j true)) size (subst (λ z. P n z) (sym (get_or-append_seam marks b [] true)) new))

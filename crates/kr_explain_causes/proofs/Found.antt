-- What was found of changes that were tried, one after another.
use Rattle.std.specs.Prelude.{◌≡◌, ◌⊎◌, ℕ, ◌+◌, ◌≤◌, List, [], ◌∷◌, ◌++◌, All, length}
use Rattle.std.proofs.Common.{ap, sym, subst, inl, inr, ◌∙◌, arith, length-append}
use Rattle.std.proofs.lemmas.List.Elements.{All-append, All-push, All-weaker}
use Rattle.kr_change.specs.declared.change.Change.{Change}
use Rattle.kr_explain_causes.specs.declared.mend.Mend.{Mend}
use Rattle.kr_explain_causes.specs.declared.mend.Verdict.{Verdict}
use Rattle.kr_explain_causes.specs.declared.mend.Verdict.TheVariants.{Accepted, Safe, Mended, Neither}
use Rattle.kr_explain_causes.specs.Mends.{AreOfEntry, AreTold, IsPut, TellsBy, changes_of}
use Rattle.kr_explain_causes.proofs.InOrder.{below_none}
use Rattle.kr_explain_causes.proofs.Tried.{IsMadeOf, all_alike, all_of}

-- Both hold of a change.
abbrev pub And : (Change → Type 0) → (Change → Type 0) → Change → Type 0
And P W c = P c × W c

-- of n changes that were tried at most, those that are told so far: one thing of each by its verdict, and W of all
pub record AreFound (A S M W : Change → Type 0) (n : ℕ) (m : Mend) : Type 0 where
  pub accepted : All (And A W) m.accepted.items
  pub safe : All (And S W) m.safe.items
  pub mended : All (And M W) m.mended.items
  pub few : length m.accepted.items + (length m.safe.items + length m.mended.items) ≤ n

empty_holds : (P : Change → Type 0) (xs : List Change) → xs ≡ [] → All P xs
empty_holds P xs e = subst (All P) (sym e) (λ k d low. absurd (below_none k low))

-- at first there are none
pub found_none : (A S M W : Change → Type 0) (m : Mend) → m.accepted.items ≡ [] → m.safe.items ≡ [] → m.mended.items ≡ [] → AreFound A S M W 0 m
found_none A S M W m a s d = record {
  accepted = empty_holds (And A W) m.accepted.items a;
  safe = empty_holds (And S W) m.safe.items s;
  mended = empty_holds (And M W) m.mended.items d;
  few = omega (arith, ap length a, ap length s, ap length d);
}

one_longer : (xs ys : List Change) (c : Change) → ys ≡ xs ++ c ∷ [] → length ys ≡ length xs + 1
one_longer xs ys c e = ap length e ∙ length-append xs (c ∷ [])

one_more : (P : Change → Type 0) (xs ys : List Change) (c : Change) → ys ≡ xs ++ c ∷ [] → All P xs → P c → All P ys
one_more P xs ys c e all is = subst (All P) (sym e) (All-push P xs c all is)

-- one change more, with what is said of it
pub found_next : (A S M W : Change → Type 0) (n : ℕ) (old new : Mend) (c : Change) (v : Verdict) → AreFound A S M W n old → TellsBy A S M c v → W c → IsPut c v old new → AreFound A S M W (n + 1) new
found_next A S M W n old new c Accepted so told made put = record {
  accepted = one_more (And A W) old.accepted.items new.accepted.items c put.0 so.accepted (told, made);
  safe = subst (All (And S W)) (sym put.1.0) so.safe;
  mended = subst (All (And M W)) (sym put.1.1) so.mended;
  few = omega (arith, so.few, one_longer old.accepted.items new.accepted.items c put.0, ap length put.1.0, ap length put.1.1);
}
found_next A S M W n old new c Safe so told made put = record {
  accepted = subst (All (And A W)) (sym put.0) so.accepted;
  safe = one_more (And S W) old.safe.items new.safe.items c put.1.0 so.safe (told, made);
  mended = subst (All (And M W)) (sym put.1.1) so.mended;
  few = omega (arith, so.few, ap length put.0, one_longer old.safe.items new.safe.items c put.1.0, ap length put.1.1);
}
found_next A S M W n old new c Mended so told made put = record {
  accepted = subst (All (And A W)) (sym put.0) so.accepted;
  safe = subst (All (And S W)) (sym put.1.0) so.safe;
  mended = one_more (And M W) old.mended.items new.mended.items c put.1.1 so.mended (told, made);
  few = omega (arith, so.few, ap length put.0, ap length put.1.0, one_longer old.mended.items new.mended.items c put.1.1);
}
found_next A S M W n old new c Neither so told made put = record {
  accepted = subst (All (And A W)) (sym put.0) so.accepted;
  safe = subst (All (And S W)) (sym put.1.0) so.safe;
  mended = subst (All (And M W)) (sym put.1.1) so.mended;
  few = omega (arith, so.few, ap length put.0, ap length put.1.0, ap length put.1.1);
}

-- the last of the lists is kept where the others are empty, and else dropped
kept_or_dropped : (P : Change → Type 0) (old new : List Change) (Q : Type 0) → All P old → (new ≡ []) ⊎ ((new ≡ old) × Q) → All P new
kept_or_dropped P old new Q all (inl dropped) = empty_holds P new dropped
kept_or_dropped P old new Q all (inr kept) = subst (All P) (sym kept.0) all

no_longer : (old new : List Change) (Q : Type 0) → (new ≡ []) ⊎ ((new ≡ old) × Q) → length new ≤ length old
no_longer old new Q (inl dropped) = omega (arith, ap length dropped)
no_longer old new Q (inr kept) = omega (arith, ap length kept.0)

last_empty : (a s d a2 s2 d2 : List Change) → a2 ≡ a → s2 ≡ s → (d2 ≡ []) ⊎ ((d2 ≡ d) × ((a ≡ []) × (s ≡ []))) → (d2 ≡ []) ⊎ ((a2 ≡ []) × (s2 ≡ []))
last_empty a s d a2 s2 d2 same_a same_s (inl dropped) = inl dropped
last_empty a s d a2 s2 d2 same_a same_s (inr kept) = inr (same_a ∙ kept.1.0, same_s ∙ kept.1.1)

length_of : (a s m : List Change) → length (a ++ (s ++ m)) ≡ length a + (length s + length m)
length_of a s m = length-append a (s ++ m) ∙ ap (λ n. length a + n) (length-append s m)

-- what is named in the end, where the changes that only mend are kept or dropped
module _ (A S M W : Change → Type 0) (n : ℕ) (old new : Mend) (so : AreFound A S M W n old) (same_a : new.accepted.items ≡ old.accepted.items) (same_s : new.safe.items ≡ old.safe.items)
    (last : (new.mended.items ≡ []) ⊎ ((new.mended.items ≡ old.mended.items) × ((old.accepted.items ≡ []) × (old.safe.items ≡ [])))) where
  accepted_too : All (And A W) new.accepted.items
  accepted_too = subst (All (And A W)) (sym same_a) so.accepted

  safe_too : All (And S W) new.safe.items
  safe_too = subst (All (And S W)) (sym same_s) so.safe

  mended_too : All (And M W) new.mended.items
  mended_too = kept_or_dropped (And M W) old.mended.items new.mended.items ((old.accepted.items ≡ []) × (old.safe.items ≡ [])) so.mended last

  -- the same is said of each
  pub are_told : AreTold A S M new
  are_told = record {
    accepted = All-weaker (And A W) A (λ c is. is.0) new.accepted.items accepted_too;
    safe = All-weaker (And S W) S (λ c is. is.0) new.safe.items safe_too;
    mended = All-weaker (And M W) M (λ c is. is.0) new.mended.items mended_too;
  }

  each_named : All W (changes_of new)
  each_named =
      let a : All W new.accepted.items = All-weaker (And A W) W (λ c is. is.1) new.accepted.items accepted_too in
      let s : All W new.safe.items = All-weaker (And S W) W (λ c is. is.1) new.safe.items safe_too in
      let m : All W new.mended.items = All-weaker (And M W) W (λ c is. is.1) new.mended.items mended_too in
      All-append W new.accepted.items (new.safe.items ++ new.mended.items) a (All-append W new.safe.items new.mended.items s m)

  few_named : n ≤ 15 → length (changes_of new) ≤ 15
  few_named most =
      let shorter : length new.mended.items ≤ length old.mended.items = no_longer old.mended.items new.mended.items ((old.accepted.items ≡ []) × (old.safe.items ≡ [])) last in
      omega (arith, most, so.few, shorter, length_of new.accepted.items new.safe.items new.mended.items, ap length same_a, ap length same_s)

-- they are of one entry, where all are made of one change
pub are_of_entry : (A S M Is : Change → Type 0) (t : Change) (n : ℕ) (old new : Mend) → AreFound A S M (IsMadeOf Is t) n old → new.accepted.items ≡ old.accepted.items → new.safe.items ≡ old.safe.items
    → (new.mended.items ≡ []) ⊎ ((new.mended.items ≡ old.mended.items) × ((old.accepted.items ≡ []) × (old.safe.items ≡ []))) → n ≤ 15 → AreOfEntry Is new
are_of_entry A S M Is t n old new so same_a same_s last most =
    let made : All (IsMadeOf Is t) (changes_of new) = each_named A S M (IsMadeOf Is t) n old new so same_a same_s last in
    record {
      last = last_empty old.accepted.items old.safe.items old.mended.items new.accepted.items new.safe.items new.mended.items same_a same_s last;
      of_entry = all_of Is t (changes_of new) made;
      alike = all_alike Is t (changes_of new) made;
      few = few_named A S M (IsMadeOf Is t) n old new so same_a same_s last most;
    }

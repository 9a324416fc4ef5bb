-- Where all cases hold, what a mode serves is served by every mode that it converts to.
use Rattle.std.specs.Prelude.{◌≡◌, ℕ, ◌<◌, ◌≤◌, Bool, true, false, filter, if◌then◌else◌, List, [], ◌∷◌, Option, Some, None, refl, ◌⊎◌}
use Rattle.std.proofs.Common.{sym, ◌∙◌, subst, arith, inl, inr}
use Rattle.kr_model.specs.declared.Row.{Row}
use Rattle.kr_model.specs.declared.Row.TheVariants as row
use Rattle.kr_model.specs.declared.Span.{Span}
use Rattle.kr_model.specs.declared.Cover.{Cover}
use Rattle.kr_model.specs.declared.Cover.TheVariants.{ReadKey, ReadGap, InsertedKey, DeletedGap, UpdatedKey}
use Rattle.kr_model.specs.declared.Side.{Side}
use Rattle.kr_model.specs.declared.Side.TheVariants.{Current, Next}
use Rattle.kr_model.specs.Protocol.{Protocol, IsLawful, IsMode}
use Rattle.std.specs.List.{flat_map}
use Rattle.std.proofs.lemmas.Bool.{cases_Bool}
use Rattle.kr_model.specs.Covers.{IsCovered, Ask, is_empty, is_open, requesters_at}
use Rattle.kr_model.proofs.Keep.{kept_mode}
use Rattle.kr_model.proofs.Guarantees.{Conflicts, Serves, conflicts_current, conflicts_next, keeps_cover, IsKnown, in_updating}

asked_none : (p : Protocol) → IsLawful p → (r : Row) (side : Side) → Conflicts p 0 0 (p.ask r side 0) → ⊥
asked_none p laws r side = by_request (p.ask r side 0) (λ q s e. laws.ask-mode r side 0 q s (omega arith) e)
  where
    true_not_false : true ≡ false → ⊥
    true_not_false e = cc

    by_request : (a : Option (ℕ × Span)) → ((q : ℕ) (s : Span) → a ≡ Some (q, s) → IsMode p q) → Conflicts p 0 0 a → ⊥
    by_request None mode conflict = conflict
    by_request (Some (q, s)) mode conflict = let i = mode q s refl in let m = kept_mode p 0 q laws (omega arith) i.some i.in_range in true_not_false (sym (laws.ok-none_held (p.convert 0 q) m.in_range) ∙ conflict)

-- What an update's cover must conflict with, where updates are offered.
abbrev updated_conflicts : List Ask
updated_conflicts = (row.FetchHit, Current) ∷ (row.ScanKey, Current) ∷ (row.Delete, Current) ∷ (row.Update, Current) ∷ []

-- Who holds no lock has no cover: each cover that the protocol has to serve must conflict with something.
none_serves : (p : Protocol) → IsLawful p → (c : Cover) → IsKnown p c → Serves p c 0 → ⊥
none_serves p laws ReadKey up s = asked_none p laws row.Delete Current (conflicts_current p ReadKey 0 row.Delete s (inl refl) 0 0 (omega arith) (omega arith))
none_serves p laws ReadGap up s = asked_none p laws row.Insert Next (conflicts_next p ReadGap 0 row.Insert s (inl refl) 0 (omega arith))
none_serves p laws InsertedKey up s = asked_none p laws row.FetchHit Current (conflicts_current p InsertedKey 0 row.FetchHit s (inl refl) 0 0 (omega arith) (omega arith))
none_serves p laws DeletedGap up s = asked_none p laws row.FetchMiss Next (conflicts_next p DeletedGap 0 row.FetchMiss s (inl refl) 0 (omega arith))
none_serves p laws UpdatedKey up s = asked_none p laws row.FetchHit Current
    (conflicts_current p UpdatedKey 0 row.FetchHit s (in_updating p (row.FetchHit, Current) updated_conflicts up (inl refl)) 0 0 (omega arith) (omega arith))

-- A cover that the protocol need not serve conflicts with nothing, so every mode serves it.
known_or_free : (p : Protocol) (c : Cover) → IsKnown p c ⊎ ((h : ℕ) → Serves p c h)
known_or_free p ReadKey = inl tt
known_or_free p ReadGap = inl tt
known_or_free p InsertedKey = inl tt
known_or_free p DeletedGap = inl tt
known_or_free p UpdatedKey = by_updates (cases_Bool p.updates)
  where
    by_updates : (p.updates ≡ true) ⊎ (p.updates ≡ false) → (p.updates ≡ true) ⊎ ((h : ℕ) → Serves p UpdatedKey h)
    by_updates (inl e) = inl e
    by_updates (inr e) = inr (λ h. subst (λ (b : Bool). is_empty (filter (is_open p h) (flat_map (requesters_at p) (if b then updated_conflicts else []))) ≡ true) (sym e) refl)

-- A conversion keeps what is served.
pub converted_serves : (p : Protocol) → IsLawful p → IsCovered p → (c : Cover) (h q : ℕ) → h ≤ p.count → IsMode p q → Serves p c h → Serves p c (p.convert h q)
converted_serves p laws cov c h q ih iq s =
    elim (known_or_free p c) [
      | inl up ↦ elim (zero_or_more h) [
        | inl e ↦ absurd (none_serves p laws c up (subst (λ x. Serves p c x) e s))
        | inr l ↦ keeps_cover p cov c up h q (record { some = l; in_range = ih }) iq s
      ]
      | inr free ↦ free (p.convert h q)
    ]
  where
    zero_or_more : (n : ℕ) → (n ≡ 0) ⊎ (0 < n)
    zero_or_more n = grind arith

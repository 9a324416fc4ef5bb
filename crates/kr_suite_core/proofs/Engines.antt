-- Who passes the tests for a table, and who fails one.
use Rattle.std.proofs.Common.{◌≡◌, ◌∙◌, inl, inr, zero, suc, refl, sym, ap, subst, List, [], ◌∷◌, All, true, arith}
use Rattle.std.specs.List.{Any, Contains}
use Rattle.std.proofs.lemmas.List.Elements.{All-contains, Contains-append_right}
use Rattle.kr_model.specs.declared.Reply.{Reply}
use Rattle.kr_model.specs.Map.{IsMap}
use Rattle.kr_model.specs.Run.{replies_of}
use Rattle.kr_kinds.specs.Kinds.{IndexProtocol}
use Rattle.kr_change.specs.declared.change.Change.{Change}
use Rattle.kr_change.specs.declared.change.Change.TheVariants.{Compatible}
use Rattle.kr_change.specs.GhostChanges.{changed_index}
use Rattle.kr_change.specs.GhostEvery.{index_changes_of}
use Rattle.kr_stepping.specs.Played.{attempts}
use Rattle.kr_apart.specs.Apart.{PartAtTheLast, TellsApart}
use Rattle.kr_suite_core.specs.Alike.{AlikeIndexes}
use Rattle.kr_suite_core.specs.Suite.{IsTested, IsTold, IsSharedOut, IsSuite, Passes, Fails, replies_to}
use Rattle.kr_suite_core.specs.declared.tested.Tested.{Tested}
use Rattle.kr_suite_core.specs.declared.classes.Suite.{Suite}
use Rattle.kr_suite_core.proofs.Shared.{never_same}

pub same_passes : (p : IndexProtocol) (s : Suite) → IsSuite p s → All (Passes p) s.parts.items
same_passes p s is k d lt = sym (is.parts k d lt).replies

-- The index with which a part begins is a map.
on_map : (p : IndexProtocol) (t : Tested) → IsTested p t → IsMap t.opening.items
on_map p t tested = (tested.tells zero (Compatible 0 0 true) tested.some).is_map

pub alike_passes : (p : IndexProtocol) (s : Suite) → IsSuite p s → (c : Change) → Contains s.alike.items c → All (Passes (changed_index p c)) s.parts.items
alike_passes p s is c has k d lt = passes (is.parts k d lt)
  where
    passes : {t : Tested} → IsTested p t → Passes (changed_index p c) t
    passes {t} tested =
        let alike : AlikeIndexes p (changed_index p c) = All-contains (λ c. AlikeIndexes p (changed_index p c)) s.alike.items c is.alike has in
        sym (ap replies_of (alike t.opening.items (attempts t.events.items) (on_map p t tested)).history) ∙ sym tested.replies

-- A part that names a change is failed by an engine with that table.
fails : (p : IndexProtocol) (c : Change) (t : Tested) → IsTested p t → Contains t.tells.items c → Fails (changed_index p c) t
fails p c t tested names = record {
  last = last;
  differ = λ e. never_same t.replies.items (subst (λ (rs : List Reply). PartAtTheLast t.replies.items rs) e last);
}
  where
    tells : TellsApart p (changed_index p c) t.opening.items t.events.items
    tells = All-contains (λ c. TellsApart p (changed_index p c) t.opening.items t.events.items) t.tells.items c tested.tells names

    last : PartAtTheLast t.replies.items (replies_to (changed_index p c) t)
    last = subst (λ (rs : List Reply). PartAtTheLast rs (replies_to (changed_index p c) t)) (sym tested.replies) tells.replies

-- The first of a list, and the others.
first : (x : Change) (xs : List Change) → Contains (x ∷ xs) x
first x xs = (zero, omega arith, refl)

later : (x : Change) (xs : List Change) (c : Change) → Contains xs c → Contains (x ∷ xs) c
later x xs c has = Contains-append_right (x ∷ []) xs c has

module _ (Told : Change → Type 0) (c : Change) where
  -- What is neither alike nor left is told: where it is the first of the changes,
  at_first : (x : Change) (cs alike left : List Change) → IsSharedOut Told (x ∷ cs) alike left → x ≡ c → (Contains alike c → ⊥) → (Contains left c → ⊥) → Told c
  at_first x cs alike left (inl (told, rest)) e not_alike not_left = subst Told e told
  at_first x cs alike left (inr (never, inl (others, is, rest))) e not_alike not_left = absurd (not_alike (subst (λ (d : Change). Contains alike d) e (subst (λ (ds : List Change). Contains ds x) (sym is) (first x others))))
  at_first x cs alike left (inr (never, inr (others, is, rest))) e not_alike not_left = absurd (not_left (subst (λ (d : Change). Contains left d) e (subst (λ (ds : List Change). Contains ds x) (sym is) (first x others))))

  -- and where it comes later.
  pub is_told : (cs alike left : List Change) → IsSharedOut Told cs alike left → Contains cs c → (Contains alike c → ⊥) → (Contains left c → ⊥) → Told c
  is_told [] alike left shared has not_alike not_left = let lt = has.1 in absurd (omega arith)
  is_told (x ∷ cs) alike left shared (zero, lt, e) not_alike not_left = at_first x cs alike left shared e not_alike not_left
  is_told (x ∷ cs) alike left (inl (told, rest)) (suc k, lt, e) not_alike not_left = is_told cs alike left rest (k, omega arith, e) not_alike not_left
  is_told (x ∷ cs) alike left (inr (never, inl (others, is, rest))) (suc k, lt, e) not_alike not_left = is_told cs others left rest (k, omega arith, e) (λ h. not_alike (subst (λ (ds : List Change). Contains ds c) (sym is) (later x others c h))) not_left
  is_told (x ∷ cs) alike left (inr (never, inr (others, is, rest))) (suc k, lt, e) not_alike not_left = is_told cs alike others rest (k, omega arith, e) not_alike (λ h. not_left (subst (λ (ds : List Change). Contains ds c) (sym is) (later x others c h)))

pub differs_fails : (p : IndexProtocol) (s : Suite) → IsSuite p s → (c : Change) → Contains (index_changes_of p) c → (Contains s.alike.items c → ⊥) → (Contains s.left.items c → ⊥) → Any (Fails (changed_index p c)) s.parts.items
differs_fails p s is c has not_alike not_left =
    let told : IsTold s.parts.items c = is_told (IsTold s.parts.items) c (index_changes_of p) s.alike.items s.left.items is.shared has not_alike not_left in
    (told.0, told.1, told.2, told.3, fails p c told.1 (All-contains (IsTested p) s.parts.items told.1 is.parts (told.0, told.2, told.3)) told.4)

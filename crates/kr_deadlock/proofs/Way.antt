-- The way from the requester to a found transaction, from its end.
use Rattle.std.proofs.Common.{◌≡◌, ℕ, ◌<◌, ◌≤◌, Bool, false, List, [], ◌∷◌, length, Some, eqb, sym, refl, ap, ◌∙◌, subst, arith}
use Rattle.std.specs.List.{Contains, IsDistinct, AllByRecursion, list_any, slice_get}
use Rattle.std.specs.BTreeMap.{BTreeMap}
use Rattle.std.proofs.lemmas.Bool.{or_parts, or_from, ne_eqb}
use Rattle.std.proofs.lemmas.Map.Keys.{IsDistinct-cons}
use Rattle.kr_deadlock.specs.declared.Waiting.{Waiting}
use Rattle.kr_deadlock.specs.declared.Found.{Found}
use Rattle.kr_deadlock.specs.Waits.{blockers_of, AreBlocked, IsCycle}
use Rattle.kr_deadlock.specs.Search.{found_at, blockers_at, GoesOn, IsTree, IsWay, IsPath}

none_passes : (test : ℕ → Bool) (ts : List ℕ) → list_any test ts ≡ false → AllByRecursion (λ t. test t ≡ false) ts
none_passes test [] h = tt
none_passes test (t ∷ ts) h = let parts : (test t ≡ false) × (list_any test ts ≡ false) = or_parts (test t) (list_any test ts) h in (parts.0, none_passes test ts parts.1)

distinct_alone : (t : ℕ) → IsDistinct eqb (t ∷ [])
unfolding IsDistinct
distinct_alone t = (tt, tt)

leads_cons : (ws : List Waiting) (t u : ℕ) (way : List ℕ) (end : ℕ) → slice_get way 0 ≡ Some u → Contains (blockers_of ws t) u → AreBlocked (blockers_of ws) way end → AreBlocked (blockers_of ws) (t ∷ way) end
leads_cons ws t u [] end first blocks leads = absurd leads
leads_cons ws t u (v ∷ way) end first blocks leads = let is : u ≡ v = cc in (subst (Contains (blockers_of ws t)) is blocks, leads)

module _ {ws : List Waiting} {asker : ℕ} {fs : List Found} (tree : IsTree ws asker fs) where
  differ : (j k : ℕ) → j < k → k < length fs → eqb (found_at fs j).txn (found_at fs k).txn ≡ false
  differ j k b l = ne_eqb (found_at fs j).txn (found_at fs k).txn (tree.apart j k b l)

  pub way_alone : (last : ℕ) (way : List ℕ) → last < length fs → way ≡ (found_at fs last).txn ∷ [] → IsWay ws fs last last way
  way_alone last way l is = subst (λ (ts : List ℕ). IsWay ws fs last last ts) (sym is) (record {
    first = refl;
    distinct = distinct_alone (found_at fs last).txn;
    earlier = λ j b. or_from _ _ (differ j last b l) refl;
    leads = λ u h. h;
  })

  pub way_more : (k last : ℕ) (way way' : List ℕ) → 0 < k → k < length fs → IsWay ws fs k last way → way' ≡ (found_at fs (found_at fs k).from).txn ∷ way → IsWay ws fs (found_at fs k).from last way'
  way_more k last way way' z l w is =
      let before : (found_at fs k).from < k = tree.before k z l in
      subst (λ (ts : List ℕ). IsWay ws fs (found_at fs k).from last ts) (sym is) (record {
        first = refl;
        distinct = IsDistinct-cons eqb (found_at fs (found_at fs k).from).txn way (none_passes (eqb (found_at fs (found_at fs k).from).txn) way (w.earlier (found_at fs k).from before)) w.distinct;
        earlier = λ j b. or_from _ _ (differ j (found_at fs k).from b (omega arith)) (w.earlier j (omega arith));
        leads = λ u h. leads_cons ws (found_at fs (found_at fs k).from).txn (found_at fs k).txn way u w.first (tree.blocks k z l) (w.leads u h);
      })

  pub path_from_way : (k last : ℕ) (way path : List ℕ) → k ≤ 0 → IsWay ws fs k last way → path ≡ way → IsPath ws asker fs last path
  path_from_way k last way path z w is =
      let start : k ≡ 0 = omega arith in
      subst (λ (ts : List ℕ). IsPath ws asker fs last ts) (sym is) (record {
        first = w.first ∙ ap Some (ap (λ (j : ℕ). (found_at fs j).txn) start ∙ tree.first);
        distinct = w.distinct;
        leads = w.leads;
      })

-- a way to a transaction that the requester blocks
pub cycle_from_path : {ws : List Waiting} {asker : ℕ} {fs fs' gs : List Found} {m m' : BTreeMap ℕ ℕ} (n : ℕ) (path : List ℕ) → IsTree ws asker fs' → GoesOn fs m fs' m' → n < length fs → Contains (blockers_at ws fs n) asker → gs ≡ fs' → ((ws : List Waiting) (asker : ℕ) → IsTree ws asker gs → IsPath ws asker gs n path) → IsCycle (blockers_of ws) asker path
cycle_from_path {ws} {asker} {fs} {fs'} {gs} n path tree goes_on l blocked is paths =
    let p : IsPath ws asker gs n path = paths ws asker (subst (λ (hs : List Found). IsTree ws asker hs) (sym is) tree) in
    let same : found_at fs n ≡ found_at gs n = sym (ap (λ (hs : List Found). found_at hs n) is ∙ goes_on.kept n l) in
    record {
      first = p.first;
      distinct = p.distinct;
      blocked = p.leads asker (subst (λ (f : Found). Contains (blockers_of ws f.txn) asker) same blocked);
    }

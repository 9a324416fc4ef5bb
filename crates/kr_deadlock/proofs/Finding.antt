-- One more found transaction.
use Rattle.std.proofs.Common.{◌≡◌, ℕ, ◌+◌, ◌<◌, List, [], ◌∷◌, ◌++◌, length, get_or, None, Some, ◌⊎◌, inl, inr, ⊎_elim, sym, refl, ap, ◌∙◌, subst, arith, take, false}
use Rattle.std.specs.List.{Contains}
use Rattle.std.specs.Ordering.{nat_cmp}
use Rattle.std.specs.BTreeMap.{get, btree_map_len, BTreeMap, UpdatesBy, is_at}
use Rattle.std.specs.Map.{lookup}
use Rattle.std.proofs.lemmas.List.{get_or_append_left, get_or_push, get_or_read, length_push, take_more}
use Rattle.std.proofs.lemmas.List.Elements.{Contains-get_or, Contains-push_cases}
use Rattle.std.proofs.lemmas.Bool.{cases_lt, cases_eq}
use Rattle.std.proofs.lemmas.Bool.Decides.{nat_tests}
use Rattle.kr_deadlock.specs.declared.Waiting.{Waiting}
use Rattle.kr_deadlock.specs.declared.Found.{Found}
use Rattle.kr_deadlock.specs.Waits.{blockers_of}
use Rattle.kr_deadlock.specs.Search.{IsPlace, nobody, found_at, blockers_at, IsTree, IsSearch, AreFollowed, GoesOn, IsFollowing}

-- what holds of each found one and of the new one, at their places, holds of all
pub each_found : (P : ℕ → Found → Type 0) (fs : List Found) (f : Found) → ((k : ℕ) → k < length fs → P k (found_at fs k)) → P (length fs) f → (k : ℕ) → k < length (fs ++ f ∷ []) → P k (found_at (fs ++ f ∷ []) k)
each_found P fs f old new k l =
    ⊎_elim
    (λ below. subst (P k) (sym (get_or_append_left fs (f ∷ []) nobody k below)) (old k below))
    (λ past. let last : k ≡ length fs = omega (arith, length_push fs f) in subst (λ (j : ℕ). P j (found_at (fs ++ f ∷ []) j)) (sym last) (subst (P (length fs)) (sym (get_or_push fs f nobody (length fs) refl)) new))
    (cases_lt k (length fs))

-- the map n is m without u
pub record IsWithout (m n : BTreeMap ℕ ℕ) (u : ℕ) : Type 0 where
  pub same : (t : ℕ) → (u ≡ t → ⊥) → get nat_cmp n t ≡ get nat_cmp m t
  pub none : get nat_cmp n u ≡ None

module _ {m n : BTreeMap ℕ ℕ} {u : ℕ} (without : IsWithout m n u) where
  pub none_stays : (t : ℕ) → get nat_cmp m t ≡ None → get nat_cmp n t ≡ None
  none_stays t h = ⊎_elim (λ e. subst (λ (v : ℕ). get nat_cmp n v ≡ None) e without.none) (λ apart. without.same t apart ∙ h) (cases_eq u t)

  pub some_was : (t p : ℕ) → get nat_cmp n t ≡ Some p → get nat_cmp m t ≡ Some p
  some_was t p h =
      ⊎_elim
      (λ e. let at : get nat_cmp n t ≡ None = subst (λ (v : ℕ). get nat_cmp n v ≡ None) e without.none in absurd (cc))
      (λ apart. sym (without.same t apart) ∙ h)
      (cases_eq u t)

module _ {ws : List Waiting} {asker : ℕ} {fs : List Found} {m n : BTreeMap ℕ ℕ} {from u p : ℕ} (s : IsSearch ws asker fs m) (l : from < length fs) (blocks : Contains (blockers_at ws fs from) u) (waits : get nat_cmp m u ≡ Some p) (without : IsWithout m n u) where
  abbrev new : Found
  new = record { txn = u; place = p; from = from }

  abbrev more : List Found
  more = fs ++ new ∷ []

  stays : (k : ℕ) → k < length fs → found_at more k ≡ found_at fs k
  stays k h = get_or_append_left fs (new ∷ []) nobody k h

  differs : (k : ℕ) → k < length fs → (found_at fs k).txn ≡ u → ⊥
  differs k h e = let gone : get nat_cmp m (found_at fs k).txn ≡ None = s.gone k h in let at : get nat_cmp m u ≡ None = subst (λ (t : ℕ). get nat_cmp m t ≡ None) e gone in cc

  abbrev Blocks : ℕ → Found → Type 0
  Blocks k f = 0 < k → Contains (blockers_at ws more f.from) f.txn

  abbrev Apart : ℕ → Found → Type 0
  Apart k f = (j : ℕ) → j < k → (found_at more j).txn ≡ f.txn → ⊥

  blocks_still : (j t : ℕ) → j < length fs → Contains (blockers_at ws fs j) t → Contains (blockers_at ws more j) t
  blocks_still j t h c = subst (λ (f : Found). Contains (blockers_of ws f.txn) t) (sym (stays j h)) c

  pub tree_push : IsTree ws asker more
  tree_push = record {
    nonempty = omega (arith, length_push fs new);
    first = ap (λ (f : Found). f.txn) (stays 0 s.tree.nonempty) ∙ s.tree.first;
    before = λ k z h. each_found (λ k f. 0 < k → f.from < k) fs new (λ k h z. s.tree.before k z h) (λ z. l) k h z;
    blocks = λ k z h. each_found Blocks fs new (λ k h z. let b : (found_at fs k).from < k = s.tree.before k z h in blocks_still (found_at fs k).from (found_at fs k).txn (omega arith) (s.tree.blocks k z h)) (λ z. blocks_still from u l blocks) k h z;
    apart = λ j k b h. each_found Apart fs new (λ k h j b e. s.tree.apart j k b h (sym (ap (λ (f : Found). f.txn) (stays j (omega arith))) ∙ e)) (λ j b e. differs j b (sym (ap (λ (f : Found). f.txn) (stays j b)) ∙ e)) k h j b;
  }

  others_push : (t : ℕ) → get nat_cmp n t ≡ None → ((k : ℕ) × (k < length more) × ((found_at more k).txn ≡ t)) ⊎ (blockers_of ws t ≡ [])
  others_push t none =
      ⊎_elim
      (λ e. inl (length fs, omega (arith, length_push fs new), ap (λ (f : Found). f.txn) (get_or_push fs new nobody (length fs) refl) ∙ e))
      (λ apart. ⊎_elim
      (λ w. inl (w.0, omega (arith, length_push fs new, w.1), ap (λ (f : Found). f.txn) (stays w.0 w.1) ∙ w.2))
      (λ e. inr e)
      (s.others t (sym (without.same t apart) ∙ none)))
      (cases_eq u t)

  pub search_push : IsSearch ws asker more n
  search_push = record {
    tree = tree_push;
    placed = each_found (λ k f. IsPlace ws (blockers_of ws f.txn) f.place) fs new s.placed (s.places u p waits);
    gone = each_found (λ k f. get nat_cmp n f.txn ≡ None) fs new (λ k h. none_stays without (found_at fs k).txn (s.gone k h)) without.none;
    places = λ t q h. s.places t q (some_was without t q h);
    others = others_push;
  }

  pub goes_on_push : {fs' : List Found} {m' : BTreeMap ℕ ℕ} → GoesOn fs' m' fs m → btree_map_len n + 1 ≡ btree_map_len m → GoesOn fs' m' more n
  goes_on_push {fs'} {m'} g len = record {
    longer = omega (arith, length_push fs new, g.longer);
    size = omega (arith, length_push fs new, g.size, len);
    kept = λ k h. stays k (omega (arith, g.longer)) ∙ g.kept k h;
    gone = λ t h. none_stays without t (g.gone t h);
  }

-- the map after `remove`
pub without_from_updates : (m n : BTreeMap ℕ ℕ) (u : ℕ) → UpdatesBy nat_cmp (nat_cmp u) m n None → IsWithout m n u
without_from_updates m n u h = record {
  same = λ t apart. h.2 t (differs_at u t apart);
  none = h.1;
}
  where
    differs_at : (u t : ℕ) → (u ≡ t → ⊥) → is_at (nat_cmp u) t ≡ false
    differs_at u t apart = grind (arith, nat_tests)

followed_more : (asker : ℕ) (m n : BTreeMap ℕ ℕ) (us : List ℕ) (i : ℕ) → AreFollowed asker m (take i us) → ((t : ℕ) → get nat_cmp m t ≡ None → get nat_cmp n t ≡ None) → i < length us → (get_or us i 0 ≡ asker → ⊥) → get nat_cmp n (get_or us i 0) ≡ None → AreFollowed asker n (take (i + 1) us)
followed_more asker m n us i before stays l differs none u c =
    ⊎_elim
    (λ old. ((before u old).0, stays u (before u old).1))
    (λ e. (λ (is : u ≡ asker). differs (e ∙ is), subst (λ (t : ℕ). get nat_cmp n t ≡ None) e none))
    (Contains-push_cases (take i us) (get_or us i 0) u (subst (λ (ts : List ℕ). Contains ts u) (take_more us i 0 l) c))

-- a map with the same look-ups
search_same : {ws : List Waiting} {asker : ℕ} {fs : List Found} {m n : BTreeMap ℕ ℕ} → IsSearch ws asker fs m → ((t : ℕ) → get nat_cmp n t ≡ get nat_cmp m t) → IsSearch ws asker fs n
search_same s same = record {
  tree = s.tree;
  placed = s.placed;
  gone = λ k l. same _ ∙ s.gone k l;
  places = λ t p h. s.places t p (sym (same t) ∙ h);
  others = λ t h. s.others t (sym (same t) ∙ h);
}

module _ {ws : List Waiting} {asker : ℕ} {fs₀ fs : List Found} {m₀ m : BTreeMap ℕ ℕ} {us : List ℕ} {i from : ℕ} (s : IsFollowing ws asker fs₀ m₀ fs m (take i us)) (l : from < length fs₀) (same : us ≡ blockers_at ws fs₀ from) (in' : i < length us) (differs : get_or us i 0 ≡ asker → ⊥) where
  blocks : Contains (blockers_at ws fs from) (get_or us i 0)
  blocks =
      let e : us ≡ blockers_at ws fs from = same ∙ sym (ap (λ (f : Found). blockers_of ws f.txn) (s.goes_on.kept from l)) in
      subst (λ (ts : List ℕ). Contains ts (get_or us i 0)) e (Contains-get_or us i 0 in')

  module _ {n : BTreeMap ℕ ℕ} (updates : UpdatesBy nat_cmp (nat_cmp (get_or us i 0)) m n None) where
    -- the blocker waits and wasn't found before
    pub following_found : (p : ℕ) (fs' : List Found) → get nat_cmp m (get_or us i 0) ≡ Some p → btree_map_len n + 1 ≡ btree_map_len m → fs' ≡ fs ++ (record { txn = get_or us i 0; place = p; from = from }) ∷ [] → IsFollowing ws asker fs₀ m₀ fs' n (take (i + 1) us)
    following_found p fs' waits len is =
        let without : IsWithout m n (get_or us i 0) = without_from_updates m n (get_or us i 0) updates in
        let within : from < length fs = omega (arith, s.goes_on.longer) in
        subst (λ (gs : List Found). IsFollowing ws asker fs₀ m₀ gs n (take (i + 1) us)) (sym is) (record {
          search = search_push s.search within blocks waits without;
          goes_on = goes_on_push s.search within blocks waits without s.goes_on len;
          followed = followed_more asker m n us i s.followed (none_stays without) in' differs without.none;
        })

  -- the blocker was found before or doesn't wait
  pub following_known : {n : BTreeMap ℕ ℕ} → get nat_cmp m (get_or us i 0) ≡ None → n.entries ≡ m.entries → IsFollowing ws asker fs₀ m₀ fs n (take (i + 1) us)
  following_known {n} none entries =
      let same_at : (t : ℕ) → get nat_cmp n t ≡ get nat_cmp m t = λ t. ap (lookup (is_at (nat_cmp t))) entries in
      record {
        search = search_same s.search same_at;
        goes_on = record {
          longer = s.goes_on.longer;
          size = omega (arith, s.goes_on.size, ap length entries);
          kept = s.goes_on.kept;
          gone = λ t h. same_at t ∙ s.goes_on.gone t h;
        };
        followed = followed_more asker m n us i s.followed (λ t h. same_at t ∙ h) in' differs (same_at _ ∙ none);
      }

-- the entry that is read has the found one's blockers
pub blockers_read : {ws : List Waiting} {asker : ℕ} {fs : List Found} {m : BTreeMap ℕ ℕ} (from : ℕ) (f : Found) (w : Waiting) (us : List ℕ) → IsSearch ws asker fs m → from < length fs → f ≡ get_or fs from f → us ≡ (get_or ws f.place w).blockers.items → us ≡ blockers_at ws fs from
blockers_read {ws} {asker} {fs} {m} from f w us s l read is =
    is ∙ ap (λ (g : Found). (get_or ws g.place w).blockers.items) (get_or_read fs from f l read nobody) ∙ (s.placed from l).blockers_are w

-- What an index's entries, and edits of them, are to contracts.
use Rattle.std.specs.Prelude.{◌≡◌, ℕ, suc, ◌+◌, ◌-◌, ◌<◌, Bool, true, false, not, ◌==◌, cond, Option, Some, None, is_none, filter, refl}
use Rattle.std.specs.Ordering.{nat_cmp}
use Rattle.std.specs.Result.{OnOk, OnErr}
use Rattle.std.specs.declared.result.Result.{Result}
use Rattle.std.specs.declared.result.Result.TheVariants.{Ok, Err}
use Rattle.std.specs.FinMap.{find, put}
use Rattle.std.proofs.Common.{sym, ◌∙◌, ap, subst, arith}
use Rattle.kr_model.specs.Map.{get, at, after, restore}
use Rattle.kr_ghost.specs.State.{among, ghosts_with, named}
use Rattle.kr_ghost.proofs.Names.{same_of}
use Rattle.kr_ghost_index.specs.declared.slots.Slot.{Slot}
use Rattle.kr_ghost_index.specs.Index.{GhostIndex, changes, with_change}
use Rattle.kr_ghost_index.specs.Slots.{Entries, IsInOrder, seen, value_in, is_ghost_in, changes_in, changes_of, first_from, name_of, changed, undone}
use Rattle.kr_ghost_index.proofs.SlotLaws.{in_order-put, in_order-remove, get-map, map-put, map-put_same, map-remove, counts_tell, changes-put, changes-remove}
use Rattle.kr_ghost_index.proofs.GhostLaws.{among-ghosts, ghost_has_none, ghosts-put, ghosts-put_same, ghosts-remove}
use Rattle.kr_ghost_index.proofs.NameLaws.{name_at, slot_by, slot_first, first_is, first_left}

one_more : (f : ℕ → ℕ) (k q : ℕ) (b : Bool) → (q == k) ≡ b → cond b (f k + 1) (f q) ≡ cond b (f q + 1) (f q)
one_more f k q true t = ap (λ x. f x + 1) (sym (same_of q k t))
one_more f k q false t = refl

one_less : (f : ℕ → ℕ) (k q : ℕ) (b : Bool) → (q == k) ≡ b → 0 < f k → f q ≡ cond b (cond b (f k - 1) (f q) + 1) (cond b (f k - 1) (f q))
one_less f k q true t some = ap f (same_of q k t) ∙ omega arith
one_less f k q false t some = refl

-- a slot that counts a change is one
no_less : (o : Option Slot) → 0 < changes_in o → is_ghost_in o ≡ is_none (value_in o)
no_less None some = absurd (omega arith)
no_less (Some s) some = refl

-- whether or not a change was refused memory, the entries are in order
pub in_order_after : {X E : Type 0} (r : Result X E) (es fs : Entries) (k : ℕ) (value : Option ℕ) → IsInOrder es → OnOk r (fs ≡ changed es k value) → OnErr r (fs ≡ es) → IsInOrder fs
in_order_after (Ok v) es fs k value h ok err = subst IsInOrder (sym ok) (in_order-put es k (record { value = value; changes = changes_of es k + 1 }) h)
in_order_after (Err e) es fs k value h ok err = subst IsInOrder (sym err) h

module _ (x : GhostIndex) (es : Entries) (is : seen es ≡ x) (h : IsInOrder es) where
  -- the changes that are left, by the slots
  pub changes_are : (q : ℕ) → changes x q ≡ changes_of es q
  changes_are q = ap (λ y. changes y q) (sym is) ∙ counts_tell es q

  -- A look --

  -- the value of a key
  pub value_is : (k : ℕ) (o : Option (ℕ × Slot)) → o ≡ first_from es k → value_in (slot_by k o) ≡ get x.map k
  value_is k o e = ap (λ p. value_in (slot_by k p)) e ∙ ap value_in (sym (slot_first es k h)) ∙ sym (get-map es k h) ∙ ap (λ y. get y.map k) is

  -- whether it is a ghost
  pub ghost_is : (k : ℕ) (o : Option (ℕ × Slot)) → o ≡ first_from es k → is_ghost_in (slot_by k o) ≡ among x.ghosts k
  ghost_is k o e = ap (λ p. is_ghost_in (slot_by k p)) e ∙ ap is_ghost_in (sym (slot_first es k h)) ∙ sym (among-ghosts es k h) ∙ ap (λ y. among y.ghosts k) is

  -- the least name not below it
  pub name_is : (k : ℕ) (o : Option (ℕ × Slot)) → o ≡ first_from es k → name_of o ≡ at (named x.map x.ghosts) k
  name_is k o e = ap name_of e ∙ sym (name_at es k h) ∙ ap (λ y. at (named y.map y.ghosts) k) is

  -- the value of the least name
  pub first_value : (c k : ℕ) (s : Slot) → Some (k, s) ≡ first_from es c → s.value ≡ get x.map k
  first_value c k s e = sym (ap value_in (first_is es c (k, s) (sym e))) ∙ sym (get-map es k h) ∙ ap (λ y. get y.map k) is

  -- Edits --

  -- an entry is put
  pub put_map : (fs : Entries) (k : ℕ) (s : Slot) → fs ≡ put nat_cmp k s es → (seen fs).map ≡ restore x.map k s.value
  put_map fs k s e = ap (λ l. (seen l).map) e ∙ map-put es k s h ∙ ap (λ y. restore y.map k s.value) is

  pub put_ghosts : (fs : Entries) (k : ℕ) (s : Slot) → fs ≡ put nat_cmp k s es → (seen fs).ghosts ≡ ghosts_with x.ghosts k s.value
  put_ghosts fs k s e = ap (λ l. (seen l).ghosts) e ∙ ghosts-put es k s h ∙ ap (λ y. ghosts_with y.ghosts k s.value) is

  -- one more change is counted
  pub changed_counts : (fs : Entries) (k : ℕ) (value : Option ℕ) → fs ≡ changed es k value → (q : ℕ) → changes (seen fs) q ≡ with_change (changes x) k q
  changed_counts fs k value e q =
      counts_tell fs q
      ∙ ap (λ l. changes_of l q) e
      ∙ changes-put es k (record { value = value; changes = changes_of es k + 1 }) q
      ∙ one_more (changes_of es) k q (q == k) refl
      ∙ ap (λ n. cond (q == k) (n + 1) n) (sym (changes_are q))

  -- one change less is counted
  pub undone_counts : (fs : Entries) (k : ℕ) (value : Option ℕ) → 0 < changes_of es k → fs ≡ undone es k value → (q : ℕ) → changes x q ≡ with_change (changes (seen fs)) k q
  undone_counts fs k value some e q =
      let s : Slot = record { value = value; changes = changes_of es k - 1 } in
      let left = counts_tell fs q ∙ ap (λ l. changes_of l q) e ∙ changes-put es k s q in
      changes_are q ∙ one_less (changes_of es) k q (q == k) refl some ∙ ap (λ n. cond (q == k) (n + 1) n) (sym left)

  -- a slot is put with the value that it has, which leaves the pairs
  pub same_map : (fs : Entries) (k : ℕ) (s : Slot) → fs ≡ put nat_cmp k s es → value_in (find nat_cmp k es) ≡ s.value → (seen fs).map ≡ x.map
  same_map fs k s e v = ap (λ l. (seen l).map) e ∙ map-put_same es k s h v ∙ ap (λ y. y.map) is

  -- and the ghosts, where there was a slot
  pub same_ghosts : (fs : Entries) (k : ℕ) (s : Slot) → fs ≡ put nat_cmp k s es → value_in (find nat_cmp k es) ≡ s.value → 0 < changes_of es k → (seen fs).ghosts ≡ x.ghosts
  same_ghosts fs k s e v some = ap (λ l. (seen l).ghosts) e ∙ ghosts-put_same es k s h (among-ghosts es k h ∙ no_less (find nat_cmp k es) some ∙ ap is_none v) ∙ ap (λ y. y.ghosts) is

  -- Without a key --

  module _ (fs : Entries) (k : ℕ) (e : fs ≡ filter (λ e. not (e.0 == k)) es) where
    -- a ghost is taken away, which leaves the pairs
    pub purged_map : among x.ghosts k ≡ true → (seen fs).map ≡ x.map
    purged_map there = ap (λ l. (seen l).map) e ∙ map-remove es k h (ghost_has_none es k h (ap (λ y. among y.ghosts k) is ∙ there)) ∙ ap (λ y. y.map) is

    pub purged_ghosts : (seen fs).ghosts ≡ filter (λ g. not (g == k)) x.ghosts
    purged_ghosts = ap (λ l. (seen l).ghosts) e ∙ ghosts-remove es k ∙ ap (λ y. filter (λ g. not (g == k)) y.ghosts) is

    -- and the counts, where no change of it was left
    pub purged_counts : changes x k ≡ 0 → (q : ℕ) → changes (seen fs) q ≡ changes x q
    purged_counts none q = counts_tell fs q ∙ ap (λ l. changes_of l q) e ∙ changes-remove es k q (sym (changes_are k) ∙ none) ∙ sym (changes_are q)

    -- the name that is found at its key then is the next one above
    pub purged_next : at (named (seen fs).map (seen fs).ghosts) k ≡ after (named x.map x.ghosts) k
    purged_next =
        name_at fs k (subst IsInOrder (sym e) (in_order-remove es k h))
        ∙ ap name_of (ap (λ l. first_from l k) e ∙ first_left es k)
        ∙ sym (name_at es (suc k) h)
        ∙ ap (λ y. after (named y.map y.ghosts) k) is

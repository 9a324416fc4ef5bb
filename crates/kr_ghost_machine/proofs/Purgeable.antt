-- Whether a key may be purged, by what the machine's parts tell.
use Rattle.std.specs.Prelude.{◌≡◌, ℕ, ◌+◌, Bool, true, false, not, ◌||◌, ◌&&◌, ◌==◌, nat_lt, cond, if◌then◌else◌, filter, List, [], ◌∷◌, Option, Some, None, refl, is_some}
use Rattle.std.specs.Ordering.{nat_cmp, eq_by_cmp}
use Rattle.std.specs.FinMap.{find}
use Rattle.std.specs.List.{list_any}
use Rattle.std.proofs.Common.{sym, ◌∙◌, ap, arith}
use Rattle.std.proofs.lemmas.Bool.Decides.{nat_tests}
use Rattle.std.proofs.lemmas.List.Sums.{sum_by-cons}
use Rattle.kr_model.specs.declared.Name.{Name}
use Rattle.kr_model.specs.declared.Name.TheVariants.{Key}
use Rattle.kr_model.specs.Protocol.{Protocol}
use Rattle.kr_model.specs.Locks.{Locks, lockers, own}
use Rattle.kr_model.specs.Map.{Changes, at, get}
use Rattle.kr_model.specs.State.{Active, State}
use Rattle.kr_model.proofs.Actives.{or_true}
use Rattle.kr_model.proofs.RisingNumbers.{has, has-lockers}
use Rattle.kr_model.proofs.Tested.{and_first, and_second}
use Rattle.kr_ghost.specs.Protocol.{GhostProtocol, Inherit, Purges, Unlocked, inherits}
use Rattle.kr_ghost.specs.State.{GhostState, among, is_ghost, named, stand_by}
use Rattle.kr_ghost.specs.Step.{has_change, is_locked, lets_purge, locks_purged, may_purge, purged, without_ghost}
use Rattle.kr_touch.specs.Pins.{changes_of, all_changes_of}
use Rattle.kr_ghost_index.specs.Index.{GhostIndex, changes}
use Rattle.kr_ghost_machine.specs.Machine.{shown}
use Rattle.kr_ghost_machine.specs.Memory.{purge_may_lack_memory}
use Rattle.kr_ghost_machine.proofs.Backs.{made}

same_test : (k c : ℕ) → eq_by_cmp nat_cmp k c ≡ (k == c)
same_test k c = grind (arith, nat_tests)

-- A key has a change where there are some of it.
pub some_changes : (cs : Changes) (k : ℕ) → is_some (find nat_cmp k cs) ≡ nat_lt 0 (changes_of cs k)
some_changes [] k = refl
some_changes (c ∷ cs) k = ap (λ b. is_some (cond b (Some c.1) (find nat_cmp k cs))) (same_test k c.0) ∙ by (k == c.0) (some_changes cs k) ∙ ap (nat_lt 0) (sym (sum_by-cons (λ (x : ℕ × Option ℕ). cond (k == x.0) 1 0) c cs))
  where
    positive : (n : ℕ) → true ≡ nat_lt 0 (1 + n)
    positive n = grind (arith, nat_tests)

    nothing : (n : ℕ) → n ≡ 0 + n
    nothing n = omega arith

    by : (b : Bool) → is_some (find nat_cmp k cs) ≡ nat_lt 0 (changes_of cs k) → is_some (cond b (Some c.1) (find nat_cmp k cs)) ≡ nat_lt 0 (cond b 1 0 + changes_of cs k)
    by true h = positive (changes_of cs k)
    by false h = h ∙ ap (nat_lt 0) (nothing (changes_of cs k))

either_positive : (a b : ℕ) → nat_lt 0 (a + b) ≡ (nat_lt 0 a || nat_lt 0 b)
either_positive a b = grind (arith, nat_tests)

pub has_changes : (es : List (ℕ × Active)) (k : ℕ) → list_any (λ a. is_some (find nat_cmp k a.1.changes)) es ≡ nat_lt 0 (all_changes_of es k)
has_changes [] k = refl
has_changes (e ∷ es) k =
    ap (λ b. b || list_any (λ (a : ℕ × Active). is_some (find nat_cmp k a.1.changes)) es) (some_changes e.1.changes k)
    ∙ ap (λ b. nat_lt 0 (changes_of e.1.changes k) || b) (has_changes es k)
    ∙ sym (either_positive (changes_of e.1.changes k) (all_changes_of es k))
    ∙ ap (nat_lt 0) (sym (sum_by-cons (λ (x : ℕ × Active). changes_of x.1.changes k) e es))

-- The locks on a name --

any_of : (f : ℕ → Bool) (us : List ℕ) (u : ℕ) → has us u ≡ true → f u ≡ true → list_any f us ≡ true
any_of f [] u there is = absurd (cc)
any_of f (v ∷ us) u there is = by (u == v) refl there (λ more. any_of f us u more is)
  where
    same_of : (x y : ℕ) → (x == y) ≡ true → x ≡ y
    same_of x y e = grind (arith, nat_tests)

    by : (b : Bool) → (u == v) ≡ b → (b || has us u) ≡ true → (has us u ≡ true → list_any f us ≡ true) → (f v || list_any f us) ≡ true
    by true same h more = ap (λ c. c || list_any f us) (ap f (sym (same_of u v same)) ∙ is)
    by false same h more = or_true (f v) (list_any f us) (more h)

some_mode : (m : ℕ) → (m ≡ 0 → ⊥) → not (m == 0) ≡ true
some_mode m some = grind (arith, nat_tests)

-- Somebody holds a lock on it.
pub somebody : (h : Locks) (n : Name) (u : ℕ) → (own h u n ≡ 0 → ⊥) → is_locked h n ≡ true
somebody h n u some = any_of (λ v. not (own h v n == 0)) (lockers h) u (has-lockers h u n some) (some_mode (own h u n) some)

none_of : (f : ℕ → Bool) (us : List ℕ) → ((u : ℕ) → f u ≡ false) → list_any f us ≡ false
none_of f [] none = refl
none_of f (u ∷ us) none = ap (λ b. b || list_any f us) (none u) ∙ none_of f us none

-- Nobody does.
pub nobody : (h : Locks) (n : Name) → ((u : ℕ) → own h u n ≡ 0) → is_locked h n ≡ false
nobody h n none = none_of (λ v. not (own h v n == 0)) (lockers h) (λ u. ap (λ m. not (m == 0)) (none u))

-- The test --

ghost_by : (w : Option ℕ) (g : Bool) → (is_some w ≡ true → g ≡ false) → is_ghost (stand_by w g) ≡ g
ghost_by None true apart = refl
ghost_by None false apart = refl
ghost_by (Some v) g apart = sym (apart refl)

lets_by : (x : Purges) (h : Locks) (k : ℕ) → lets_purge x h k ≡ (inherits x || not (is_locked h (Key k)))
lets_by Unlocked h k = refl
lets_by (Inherit heir) h k = refl

module _ (p : GhostProtocol) (x : GhostIndex) (h : Locks) (ended : List ℕ) (es : List (ℕ × Active)) (k : ℕ) (counted : (q : ℕ) → changes x q ≡ all_changes_of es q) where
  abbrev may : Bool
  may = may_purge p (shown x h ended es) k

  may_is : (w : Option ℕ) (g c : Bool) → w ≡ get x.map k → g ≡ among x.ghosts k → (is_some w ≡ true → g ≡ false) → c ≡ nat_lt 0 (changes x k) → may ≡ (g && not c && lets_purge p.purges h k)
  may_is w g c value ghost apart changed =
      ap (λ b. b && not (has_change (shown x h ended es).state k) && lets_purge p.purges h k) (ap (λ v. is_ghost (stand_by v (among x.ghosts k))) (sym value) ∙ ap (λ b. is_ghost (stand_by w b)) (sym ghost) ∙ ghost_by w g apart)
      ∙ ap (λ b. g && not b && lets_purge p.purges h k) (has_changes es k ∙ ap (nat_lt 0) (sym (counted k)) ∙ sym changed)

  -- A key that is no ghost may not be purged, and no key of which a change is left.
  pub no_ghost : (w : Option ℕ) (g : Bool) → w ≡ get x.map k → g ≡ among x.ghosts k → (is_some w ≡ true → g ≡ false) → g ≡ false → false ≡ may
  no_ghost w g value ghost apart none = sym (may_is w g (nat_lt 0 (changes x k)) value ghost apart refl ∙ ap (λ b. b && not (nat_lt 0 (changes x k)) && lets_purge p.purges h k) none)

  pub has_one : (w : Option ℕ) (g c : Bool) → w ≡ get x.map k → g ≡ among x.ghosts k → (is_some w ≡ true → g ≡ false) → c ≡ nat_lt 0 (changes x k) → c ≡ true → false ≡ may
  has_one w g c value ghost apart changed one = sym (may_is w g c value ghost apart changed ∙ ap (λ b. g && not b && lets_purge p.purges h k) one ∙ by g)
    where
      by : (g : Bool) → (g && false && lets_purge p.purges h k) ≡ false
      by true = refl
      by false = refl

  -- Any other may, where the locks on it let it go.
  pub let_go : (w : Option ℕ) (g c : Bool) → w ≡ get x.map k → g ≡ among x.ghosts k → (is_some w ≡ true → g ≡ false) → c ≡ nat_lt 0 (changes x k) → g ≡ true → c ≡ false → (inherits p.purges || not (is_locked h (Key k))) ≡ may
  let_go w g c value ghost apart changed there none =
      sym (may_is w g c value ghost apart changed ∙ ap (λ b. b && not c && lets_purge p.purges h k) there ∙ ap (λ b. true && not b && lets_purge p.purges h k) none ∙ lets_by p.purges h k)

  -- What may be purged is a ghost, of which no change is left.
  pub is_among : may ≡ true → among x.ghosts k ≡ true
  is_among is =
      ghost_is (get x.map k) (among x.ghosts k)
      (and_first (is_ghost (stand_by (get x.map k) (among x.ghosts k))) (not (has_change (shown x h ended es).state k))
      (and_first (is_ghost (stand_by (get x.map k) (among x.ghosts k)) && not (has_change (shown x h ended es).state k)) (lets_purge p.purges h k) is))
    where
      ghost_is : (w : Option ℕ) (g : Bool) → is_ghost (stand_by w g) ≡ true → g ≡ true
      ghost_is w true is = refl
      ghost_is None false is = absurd (cc)
      ghost_is (Some v) false is = absurd (cc)

  pub has_none : may ≡ true → changes x k ≡ 0
  has_none is =
      counted k
      ∙ zero_of (all_changes_of es k) (ap not (sym (has_changes es k))
      ∙ and_second (is_ghost (stand_by (get x.map k) (among x.ghosts k))) (not (has_change (shown x h ended es).state k))
      (and_first (is_ghost (stand_by (get x.map k) (among x.ghosts k)) && not (has_change (shown x h ended es).state k)) (lets_purge p.purges h k) is))
    where
      zero_of : (n : ℕ) → not (nat_lt 0 n) ≡ true → n ≡ 0
      zero_of n e = grind (arith, nat_tests)

  -- What is left then, by the parts.
  pub purged_as : (table : Protocol) (y : GhostIndex) (l : Locks) (n : Name) → p.table ≡ table → may ≡ true → y.map ≡ x.map → y.ghosts ≡ filter (λ g. not (g == k)) x.ghosts → n ≡ at (named y.map y.ghosts) k
      → l ≡ locks_purged table p.purges (shown x h ended es).state k n → shown y l ended es ≡ purged p (shown x h ended es) k
  purged_as table y l n same is maps ghosts next locks =
      let left = filter (λ g. not (g == k)) x.ghosts in
      let name = next ∙ ap (λ m. at (named m y.ghosts) k) maps ∙ ap (λ g. at (named x.map g) k) ghosts in
      ap (λ m. made m y.ghosts l ended es) maps ∙ ap (λ g. made x.map g l ended es) ghosts
      ∙ ap (λ z. made x.map left z ended es) (locks ∙ ap (λ z. locks_purged table p.purges (shown x h ended es).state k z) name ∙ ap (λ t. locks_purged t p.purges (shown x h ended es).state k (at (named x.map left) k)) (sym same))
      ∙ sym (ap (λ b. if b then without_ghost p (shown x h ended es) k else shown x h ended es) is)

-- Where a ghost is purged, locks are inherited, and there is one on it, a purge may be refused memory.
pub may_lack : (p : GhostProtocol) (s : GhostState) (k : ℕ) → may_purge p s k ≡ true → inherits p.purges ≡ true → is_locked s.state.locks (Key k) ≡ true → purge_may_lack_memory p s k ≡ true
may_lack p s k may heirs locked =
    ap (λ b. b && inherits p.purges && is_locked s.state.locks (Key k)) may ∙ ap (λ b. true && b && is_locked s.state.locks (Key k)) heirs ∙ ap (λ b. true && true && b) locked

-- Where locks aren't inherited, a purge leaves them.
pub left_locked : (p : Protocol) (x : Purges) (s : State) (k : ℕ) (n : Name) → inherits x ≡ false → locks_purged p x s k n ≡ s.locks
left_locked p Unlocked s k n h = refl
left_locked p (Inherit heir) s k n h = absurd (cc)

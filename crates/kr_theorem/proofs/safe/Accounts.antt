-- A list of pairs of lock states that has every pair that comes up, and in each of which the one blocks whom it must keep out of the other's requests, shows that a protocol is safe. Whether it does is a computation.
use Rattle.std.proofs.Common.{ℕ, zero, suc, List, [], ◌∷◌, ◌≡◌, inl, inr, refl, sym, ap, ◌∙◌, Bool, true, false, subst, true≢false}
use Rattle.std.specs.Prelude.{not, slice_index_or, ◌&&◌, ◌||◌, ◌==◌}
use Rattle.std.specs.List.{list_all, list_any}
use Rattle.kr_model.specs.declared.Row.{Row}
use Rattle.kr_model.specs.declared.Row.TheVariants.{FetchHit, FetchMiss, ScanKey, ScanStop, Insert, Delete, Update}
use Rattle.kr_model.specs.declared.Side.{Side}
use Rattle.kr_model.specs.declared.Side.TheVariants.{Current, Next}
use Rattle.kr_model.specs.declared.KeyUse.{KeyUse}
use Rattle.kr_model.specs.declared.KeyUse.TheVariants.{Free as KeyFree, Read as KeyRead, Updated as KeyUpdated, Inserted as KeyInserted}
use Rattle.kr_model.specs.declared.GapUse.{GapUse}
use Rattle.kr_model.specs.declared.GapUse.TheVariants.{Free as GapFree, Read as GapRead, Deleted as GapDeleted}
use Rattle.kr_model.specs.declared.LockState.{LockState}
use Rattle.kr_model.specs.Protocol.{Protocol}
use Rattle.kr_model.specs.Safe.{free, IsIdle, keeps_out, after, MayAsk, MayInsert, MayBeside, is_blocked, Beside, start, turn, leave, move, IsSafe}
use Rattle.kr_model.proofs.Guarantees.{In}
use Rattle.kr_model.proofs.Tested.{and_first, and_second, eq_of_test, all_true, test_at}

-- Equal lock states --

abbrev key_number : KeyUse → ℕ
key_number KeyFree = 0
key_number KeyRead = 1
key_number KeyUpdated = 2
key_number KeyInserted = 3

abbrev key_of : ℕ → KeyUse
key_of zero = KeyFree
key_of (suc zero) = KeyRead
key_of (suc (suc zero)) = KeyUpdated
key_of (suc (suc (suc n))) = KeyInserted

key_back : (k : KeyUse) → key_of (key_number k) ≡ k
key_back KeyFree = refl
key_back KeyRead = refl
key_back KeyUpdated = refl
key_back KeyInserted = refl

abbrev gap_number : GapUse → ℕ
gap_number GapFree = 0
gap_number GapRead = 1
gap_number GapDeleted = 2

abbrev gap_of : ℕ → GapUse
gap_of zero = GapFree
gap_of (suc zero) = GapRead
gap_of (suc (suc n)) = GapDeleted

gap_back : (g : GapUse) → gap_of (gap_number g) ≡ g
gap_back GapFree = refl
gap_back GapRead = refl
gap_back GapDeleted = refl

abbrev both_or_none : Bool → Bool → Bool
both_or_none true b = b
both_or_none false b = not b

both_is : (a b : Bool) → both_or_none a b ≡ true → a ≡ b
both_is true true h = refl
both_is true false h = absurd (cc)
both_is false true h = absurd (cc)
both_is false false h = refl

-- What is tested of two lock states, and whether they are the same.
abbrev same_tests : LockState → LockState → List Bool
same_tests x y = (x.mode == y.mode) ∷ (key_number x.key == key_number y.key) ∷ (gap_number x.gap == gap_number y.gap) ∷ both_or_none x.deleted y.deleted ∷ []

abbrev pub same : LockState → LockState → Bool
same x y = all_true (same_tests x y)

same_is : (x y : LockState) → same x y ≡ true → x ≡ y
same_is x y h =
    let is = test_at (same_tests x y) h in
    ap (λ m. made m x.key x.gap x.deleted) (eq_of_test x.mode y.mode (is 0))
    ∙ ap (λ k. made y.mode k x.gap x.deleted) (sym (key_back x.key) ∙ ap key_of (eq_of_test (key_number x.key) (key_number y.key) (is 1)) ∙ key_back y.key)
    ∙ ap (λ g. made y.mode y.key g x.deleted) (sym (gap_back x.gap) ∙ ap gap_of (eq_of_test (gap_number x.gap) (gap_number y.gap) (is 2)) ∙ gap_back y.gap)
    ∙ ap (λ d. made y.mode y.key y.gap d) (both_is x.deleted y.deleted (is 3))
  where
    made : ℕ → KeyUse → GapUse → Bool → LockState
    made m k g d = record { mode = m; key = k; gap = g; deleted = d }

-- Tests of what a transaction may come to request --

abbrev is_idle : KeyUse → GapUse → Bool
is_idle KeyFree GapFree = true
is_idle _ _ = false

abbrev is_gap_deleted : GapUse → Bool
is_gap_deleted GapDeleted = true
is_gap_deleted _ = false

-- They allow a lock of any mode on an absent key, and so more than the definition does: a list that has every pair that comes up by them has every pair.
abbrev may_insert : Bool → LockState → LockState → Bool
may_insert false x n = is_idle x.key x.gap
may_insert true x n = is_gap_deleted n.gap

abbrev may_ask : Protocol → Row → Side → LockState → LockState → Bool
may_ask p FetchHit Current x n = not x.deleted
may_ask p FetchMiss Next x n = not x.deleted
may_ask p ScanKey Current x n = not x.deleted
may_ask p ScanStop Next x n = not x.deleted
may_ask p Insert Current x n = not n.deleted && may_insert x.deleted x n
may_ask p Insert Next x n = not x.deleted
may_ask p Delete Current x n = not x.deleted && not n.deleted
may_ask p Delete Next x n = not x.deleted
may_ask p Update Current x n = not x.deleted && p.updates
may_ask p _ _ x n = false

abbrev may_beside : Row → Side → LockState → Bool
may_beside Insert Current y = not y.deleted && is_idle y.key y.gap
may_beside _ _ y = true

and_both : (a b : Bool) → a ≡ true → b ≡ true → (a && b) ≡ true
and_both a b e f = ap (λ z. z && b) e ∙ f

idle_is : (x : LockState) → IsIdle x → is_idle x.key x.gap ≡ true
idle_is x i = ap (λ k. is_idle k x.gap) i.key ∙ ap (λ g. is_idle KeyFree g) i.gap

may_inserted : (p : Protocol) (x n : LockState) → MayInsert p x n → may_insert x.deleted x n ≡ true
may_inserted p x n (inl h) = ap (λ b. may_insert b x n) h.0 ∙ idle_is x h.1
may_inserted p x n (inr h) = ap (λ b. may_insert b x n) h.0 ∙ ap is_gap_deleted h.1

may_asked : (p : Protocol) (r : Row) (s : Side) (x n : LockState) → MayAsk p r s x n → may_ask p r s x n ≡ true
may_asked p FetchHit Current x n h = ap not h
may_asked p FetchHit Next x n h = absurd h
may_asked p FetchMiss Current x n h = absurd h
may_asked p FetchMiss Next x n h = ap not h
may_asked p ScanKey Current x n h = ap not h
may_asked p ScanKey Next x n h = absurd h
may_asked p ScanStop Current x n h = absurd h
may_asked p ScanStop Next x n h = ap not h
may_asked p Insert Current x n h = and_both (not n.deleted) _ (ap not h.0) (may_inserted p x n h.1)
may_asked p Insert Next x n h = ap not h
may_asked p Delete Current x n h = and_both (not x.deleted) _ (ap not h.0) (ap not h.1)
may_asked p Delete Next x n h = ap not h
may_asked p Update Current x n h = and_both (not x.deleted) _ (ap not h.0) h.1
may_asked p Update Next x n h = absurd h

besides : (p : Protocol) (r : Row) (s : Side) (y : LockState) → MayBeside p r s y → may_beside r s y ≡ true
besides p FetchHit s y h = refl
besides p FetchMiss s y h = refl
besides p ScanKey s y h = refl
besides p ScanStop s y h = refl
besides p Insert Current y h = and_both (not y.deleted) _ (ap not h.0) (idle_is y h.1)
besides p Insert Next y h = refl
besides p Delete s y h = refl
besides p Update s y h = refl

-- The test of a list --

-- Pairs of lock states.
abbrev pub Pairs : Type 0
Pairs = List (LockState × LockState)

-- Whether the pair is in the list.
abbrev has : Pairs → LockState → LockState → Bool
has pairs x y = list_any (λ z. same z.0 x && same z.1 y) pairs

-- The second test where the first holds.
abbrev then : Bool → (Bool → Bool) → Bool
then true f = f true
then false f = true

then_is : (b : Bool) (f : Bool → Bool) → then b f ≡ true → b ≡ true → f true ≡ true
then_is true f h e = h
then_is false f h e = absurd (true≢false (sym e))

-- Whether a request is blocked, or needn't be and leads to a pair of the list.
abbrev step_ok : Protocol → Pairs → LockState → LockState → LockState → Row → Side → Bool
step_ok p pairs x y n r s =
    then (may_ask p r s x n) (λ u. then (not (is_blocked p r s x n y)) (λ v. not (keeps_out y r s) && then (may_beside r s y) (λ w. has pairs (after p r s x n) y)))

-- The requests that go by the own lock state on the next name, and the others.
abbrev next_ok : Protocol → Pairs → LockState → LockState → LockState → Bool
next_ok p pairs x y n = step_ok p pairs x y n Insert Current && step_ok p pairs x y n Delete Current

abbrev fixed_tests : Protocol → Pairs → LockState → LockState → List Bool
fixed_tests p pairs x y =
    step_ok p pairs x y free FetchHit Current
    ∷ step_ok p pairs x y free FetchMiss Next
    ∷ step_ok p pairs x y free ScanKey Current
    ∷ step_ok p pairs x y free ScanStop Next
    ∷ step_ok p pairs x y free Insert Next
    ∷ step_ok p pairs x y free Delete Next
    ∷ step_ok p pairs x y free Update Current
    ∷ []

-- The list has the pair turned, and what is left where one ends; one who stands alone is among those that may be on the next name; and each request is blocked, or needn't be and leads to a pair of the list.
abbrev pair_tests : Protocol → Pairs → List LockState → LockState × LockState → List Bool
pair_tests p pairs nexts z =
    has pairs z.1 z.0
    ∷ has pairs free z.1
    ∷ then (same z.1 free) (λ u. list_any (λ n. same n z.0) nexts)
    ∷ all_true (fixed_tests p pairs z.0 z.1)
    ∷ list_all (λ n. next_ok p pairs z.0 z.1 n) nexts
    ∷ []

abbrev pair_ok : Protocol → Pairs → List LockState → LockState × LockState → Bool
pair_ok p pairs nexts z = all_true (pair_tests p pairs nexts z)

abbrev pub is_account : Protocol → Pairs → List LockState → Bool
is_account p pairs nexts = has pairs free free && list_all (pair_ok p pairs nexts) pairs

-- It suffices --

some : {A : Type 0} (f : A → Bool) (xs : List A) → list_any f xs ≡ true → (x : A) × In x xs × (f x ≡ true)
some f [] h = absurd (cc)
some f (x ∷ xs) h = by (f x) refl h (λ g. some f xs g)
  where
    by : (b : Bool) → f x ≡ b → (b || list_any f xs) ≡ true → (list_any f xs ≡ true → (z : _) × In z xs × (f z ≡ true)) → (z : _) × In z (x ∷ xs) × (f z ≡ true)
    by true e g rest = (x, inl refl, e)
    by false e g rest = let z = rest g in (z.0, inr z.1, z.2)

every : {A : Type 0} (f : A → Bool) (xs : List A) → list_all f xs ≡ true → (x : A) → In x xs → f x ≡ true
every f [] h x i = absurd i
every f (y ∷ xs) h x (inl e) = subst (λ z. f z ≡ true) e (and_first (f y) _ h)
every f (y ∷ xs) h x (inr i) = every f xs (and_second (f y) _ h) x i

module _ (p : Protocol) (pairs : Pairs) (nexts : List LockState) (checked : is_account p pairs nexts ≡ true) where
  pair : (x y : LockState) → has pairs x y ≡ true → pair_ok p pairs nexts (x, y) ≡ true
  pair x y h =
      let z = some (λ z. same z.0 x && same z.1 y) pairs h in
      subst (λ b. pair_ok p pairs nexts (x, b) ≡ true) (same_is z.0.1 y (and_second (same z.0.0 x) _ z.2))
      (subst (λ a. pair_ok p pairs nexts (a, z.0.1) ≡ true) (same_is z.0.0 x (and_first (same z.0.0 x) _ z.2))
      (every (pair_ok p pairs nexts) pairs (and_second (has pairs free free) _ checked) z.0 z.1))

  module _ (x y : LockState) (h : has pairs x y ≡ true) where
    parts : (i : ℕ) → slice_index_or (pair_tests p pairs nexts (x, y)) i true ≡ true
    parts = test_at (pair_tests p pairs nexts (x, y)) (pair x y h)

    fixed : (i : ℕ) → slice_index_or (fixed_tests p pairs x y) i true ≡ true
    fixed = test_at (fixed_tests p pairs x y) (parts 3)

    next_is : (n : LockState) → In n nexts → next_ok p pairs x y n ≡ true
    next_is n i = every (λ n. next_ok p pairs x y n) nexts (parts 4) n i

    step : (n : LockState) → In n nexts → (r : Row) (s : Side) → step_ok p pairs x y n r s ≡ true
    step n i FetchHit Current = fixed 0
    step n i FetchHit Next = refl
    step n i FetchMiss Current = refl
    step n i FetchMiss Next = fixed 1
    step n i ScanKey Current = fixed 2
    step n i ScanKey Next = refl
    step n i ScanStop Current = refl
    step n i ScanStop Next = fixed 3
    step n i Insert Current = and_first (step_ok p pairs x y n Insert Current) _ (next_is n i)
    step n i Insert Next = fixed 4
    step n i Delete Current = and_second (step_ok p pairs x y n Insert Current) _ (next_is n i)
    step n i Delete Next = fixed 5
    step n i Update Current = fixed 6
    step n i Update Next = refl

  in_nexts : (n : LockState) → has pairs n free ≡ true → In n nexts
  in_nexts n h =
      let z = some (λ m. same m n) nexts (parts n free h 2) in
      subst (λ m. In m nexts) (same_is z.0 n z.2) z.1

  open_ok : (x y n : LockState) → has pairs x y ≡ true → has pairs n free ≡ true → (r : Row) (s : Side) → MayAsk p r s x n → is_blocked p r s x n y ≡ false
      → (not (keeps_out y r s) && then (may_beside r s y) (λ w. has pairs (after p r s x n) y)) ≡ true
  open_ok x y n h g r s may passes =
      then_is (not (is_blocked p r s x n y)) (λ v. not (keeps_out y r s) && then (may_beside r s y) (λ w. has pairs (after p r s x n) y))
      (then_is (may_ask p r s x n) (λ u. then (not (is_blocked p r s x n y)) (λ v. not (keeps_out y r s) && then (may_beside r s y) (λ w. has pairs (after p r s x n) y)))
      (step x y h n (in_nexts n g) r s) (may_asked p r s x n may))
      (ap not passes)

  -- Each pair that comes up is in the list.
  listed : (x y : LockState) → Beside p x y → has pairs x y ≡ true
  listed _ _ start = and_first (has pairs free free) _ checked
  listed _ _ (turn x y b) = parts x y (listed x y b) 0
  listed _ _ (leave x y b) = parts x y (listed x y b) 1
  listed _ _ (move r s x y n b reached may mb passes) =
      then_is (may_beside r s y) (λ w. has pairs (after p r s x n) y) (and_second (not (keeps_out y r s)) _ (open_ok x y n (listed x y b) (listed n free reached) r s may passes)) (besides p r s y mb)

  pub account_safe : IsSafe p
  account_safe r s x y n b reached may out = blocked (is_blocked p r s x n y) refl
    where
      blocked : (b : Bool) → is_blocked p r s x n y ≡ b → is_blocked p r s x n y ≡ true
      blocked true e = e
      blocked false e = absurd (true≢false (sym (and_first (not (keeps_out y r s)) _ (open_ok x y n (listed x y b) (listed n free reached) r s may e)) ∙ ap not out))

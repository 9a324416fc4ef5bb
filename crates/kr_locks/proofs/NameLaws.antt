-- The locks by name, holder by holder.
use Rattle.std.proofs.Common.{◌≡◌, ℕ, Bool, true, false, cond, not, [], ◌∷◌, Option, Some, None, sym, ap, ◌∙◌, refl, subst, arith}
use Rattle.std.specs.Prelude.{T, unwrap_or}
use Rattle.std.specs.HashMap as hash
use Rattle.std.specs.declared.cmp.Ordering.{Ordering}
use Rattle.std.specs.declared.cmp.Ordering.TheVariants.{Less, Equal, Greater}
use Rattle.std.specs.Ordering.{nat_cmp, ordering_then, eq_by_cmp, is_eq}
use Rattle.std.specs.Cmp.{IsEquivalence, nat_cmp_total, nat_eq_equiv, eq_by_cmp_equiv, tied_itself}
use Rattle.std.specs.Option.{option_eq}
use Rattle.std.specs.Map.{lookup, keys_of}
use Rattle.std.proofs.lemmas.Map.{lookup-none}
use Rattle.std.proofs.lemmas.Map.Entries.{none_past_head}
use Rattle.std.proofs.lemmas.Map.Keys.{IsDistinct-tail}
use Rattle.std.proofs.lemmas.Bool.Decides.{nat_tests}
use Rattle.std.specs.FinMap.{find, put, is_sorted}
use Rattle.std.specs.FinMap.Entries.{find-put, find-where_key, is_sorted-put, is_sorted-where_key, same_entries}
use Rattle.std.proofs.lemmas.Map.Lookups.{exact_unsigned}
use Rattle.kr_model.specs.declared.Name.{Name}
use Rattle.kr_model.specs.declared.Name.TheVariants.{Key, End}
use Rattle.std.specs.Prelude.{IsSome, nat_eq}
use Rattle.kr_model.specs.Locks.{Locks, Holder, IsLocks, name_cmp, holder_cmp, keep, forget}
use Rattle.kr_model.proofs.LockLaws.{name_total, name_exact, holder_total, holder_exact}
use Rattle.kr_model.proofs.Keep.{same}
use Rattle.kr_model.proofs.Trees.{of_t}
use Rattle.kr_model.specs.contracts.NameOrd.TheImpl.{cmp-value}
use Rattle.kr_locks.specs.Buckets.{Holders, Names, IsNames, key_of, name_of, holders_at, with_holders, with_names, locks_of, without}

pub equal_of : (o : Ordering) → is_eq o ≡ true → o ≡ Equal
equal_of Less e = absurd (cc)
equal_of Equal e = refl
equal_of Greater e = absurd (cc)

or_else : Option ℕ → Option ℕ → Option ℕ
or_else None o = o
or_else (Some m) o = Some m

or_none : (o : Option ℕ) → or_else o None ≡ o
unfolding or_else
or_none None = refl
or_none (Some m) = refl

-- What stands at a holder --

find-with : (n : Name) (hs : Holders) (ls : Locks) (q : Holder) → find holder_cmp q (with_holders n hs ls) ≡ cond (eq_by_cmp name_cmp q.0 n) (or_else (find nat_cmp q.1 hs) (find holder_cmp q ls)) (find holder_cmp q ls)
unfolding or_else
find-with n [] ls q = by (eq_by_cmp name_cmp q.0 n)
  where
    by : (b : Bool) → find holder_cmp q ls ≡ cond b (find holder_cmp q ls) (find holder_cmp q ls)
    by true = refl
    by false = refl
find-with n (h ∷ hs) ls q =
    find-put holder_cmp holder_total q (n, h.0) h.1 (with_holders n hs ls)
    ∙ ap (cond (eq_by_cmp holder_cmp q (n, h.0)) (Some h.1)) (find-with n hs ls q)
    ∙ by (name_cmp q.0 n) (nat_cmp q.1 h.0)
  where
    by : (o p : Ordering) → cond (is_eq (ordering_then o p)) (Some h.1) (cond (is_eq o) (or_else (find nat_cmp q.1 hs) (find holder_cmp q ls)) (find holder_cmp q ls)) ≡ cond (is_eq o) (or_else (cond (is_eq p) (Some h.1) (find nat_cmp q.1 hs)) (find holder_cmp q ls)) (find holder_cmp q ls)
    by Less p = refl
    by Equal Less = refl
    by Equal Equal = refl
    by Equal Greater = refl
    by Greater p = refl

pub option_eq_laws : IsEquivalence (option_eq nat_eq)
option_eq_laws = record {
  refl = λ x. ties x;
  symm = λ x y. flips x y;
  congr = λ x y z. agree x y z;
}
  where
    ties : (x : Option ℕ) → option_eq nat_eq x x ≡ true
    ties None = refl
    ties (Some a) = nat_eq_equiv.refl a

    flips : (x y : Option ℕ) → option_eq nat_eq x y ≡ option_eq nat_eq y x
    flips None None = refl
    flips None (Some b) = refl
    flips (Some a) None = refl
    flips (Some a) (Some b) = nat_eq_equiv.symm a b

    agree : (x y z : Option ℕ) → option_eq nat_eq x y ≡ true → option_eq nat_eq x z ≡ option_eq nat_eq y z
    agree None None z e = refl
    agree None (Some b) z e = absurd (cc)
    agree (Some a) None z e = absurd (cc)
    agree (Some a) (Some b) None e = refl
    agree (Some a) (Some b) (Some d) e = nat_eq_equiv.congr a b d e

-- keys are equal where the names are
pub same_key : (n : Name) (k : Option ℕ) → eq_by_cmp name_cmp n (name_of k) ≡ option_eq nat_eq (key_of n) k
same_key (Key a) (Some b) = grind (arith, nat_tests)
same_key (Key a) None = refl
same_key End (Some b) = refl
same_key End None = refl

find-names : (es : Names) → IsNames es → (ls : Locks) (q : Holder) → find holder_cmp q (with_names es ls) ≡ or_else (find nat_cmp q.1 (holders_at es q.0)) (find holder_cmp q ls)
unfolding or_else
find-names [] s ls q = refl
find-names (e ∷ es) s ls q =
    find-names es (IsDistinct-tail (option_eq nat_eq) e.0 (keys_of es) s) (with_holders (name_of e.0) e.1 ls) q
    ∙ ap (or_else (find nat_cmp q.1 (holders_at es q.0))) (find-with (name_of e.0) e.1 ls q ∙ ap (λ b. cond b (or_else (find nat_cmp q.1 e.1) (find holder_cmp q ls)) (find holder_cmp q ls)) (same_key q.0 e.0))
    ∙ by (option_eq nat_eq (key_of q.0) e.0) refl
  where
    none : option_eq nat_eq (key_of q.0) e.0 ≡ true → holders_at es q.0 ≡ []
    none t = ap (λ (o : Option Holders). unwrap_or o []) (lookup-none (option_eq nat_eq (key_of q.0)) es (none_past_head option_eq_laws (key_of q.0) e es s t))

    by : (b : Bool) → option_eq nat_eq (key_of q.0) e.0 ≡ b → or_else (find nat_cmp q.1 (holders_at es q.0)) (cond b (or_else (find nat_cmp q.1 e.1) (find holder_cmp q ls)) (find holder_cmp q ls)) ≡ or_else (find nat_cmp q.1 (unwrap_or (cond b (Some e.1) (lookup (option_eq nat_eq (key_of q.0)) es)) [])) (find holder_cmp q ls)
    by true t = ap (λ (hs : Holders). or_else (find nat_cmp q.1 hs) (or_else (find nat_cmp q.1 e.1) (find holder_cmp q ls))) (none t)
    by false t = refl

find_locks : (es : Names) → IsNames es → (q : Holder) → find holder_cmp q (locks_of es) ≡ find nat_cmp q.1 (holders_at es q.0)
find_locks es s q = find-names es s [] q ∙ or_none (find nat_cmp q.1 (holders_at es q.0))

-- the mode of a transaction on a name is that among the name's holders
pub find-locks_of : (es : Names) → IsNames es → (n : Name) (t : ℕ) → find holder_cmp (n, t) (locks_of es) ≡ find nat_cmp t (holders_at es n)
find-locks_of es s n t = find_locks es s (n, t)

-- The locks rise --

sorted_with : (n : Name) (hs : Holders) (ls : Locks) → T (is_sorted holder_cmp ls) → T (is_sorted holder_cmp (with_holders n hs ls))
sorted_with n [] ls s = s
sorted_with n (h ∷ hs) ls s = is_sorted-put holder_cmp holder_total (n, h.0) h.1 (with_holders n hs ls) (sorted_with n hs ls s)

sorted_names : (es : Names) (ls : Locks) → T (is_sorted holder_cmp ls) → T (is_sorted holder_cmp (with_names es ls))
sorted_names [] ls s = s
sorted_names (e ∷ es) ls s = sorted_names es (with_holders (name_of e.0) e.1 ls) (sorted_with (name_of e.0) e.1 ls s)

pub sorted_locks : (es : Names) → T (is_sorted holder_cmp (locks_of es))
sorted_locks es = sorted_names es [] tt

pub IsLocks-locks_of : (es : Names) → IsLocks (locks_of es)
IsLocks-locks_of es = of_t _ (sorted_locks es)

-- A change at one name --

pub same_locks : (es : Names) (h : Locks) → IsNames es → T (is_sorted holder_cmp h) → ((q : Holder) → find nat_cmp q.1 (holders_at es q.0) ≡ find holder_cmp q h) → locks_of es ≡ h
same_locks es h s sh is = same_entries holder_cmp holder_total holder_exact (locks_of es) h (sorted_locks es) sh (λ q. find_locks es s q ∙ is q)

-- names with other holders at one of them
pub record IsChangedAt (es fs : Names) (n : Name) (hs : Holders) : Type 0 where
  pub before : IsNames es
  pub after : IsNames fs
  pub holders : (x : Name) → holders_at fs x ≡ cond (eq_by_cmp name_cmp x n) hs (holders_at es x)

changed : (es fs : Names) (n : Name) (hs : Holders) → IsChangedAt es fs n hs → (t : ℕ) (w : Option ℕ) (h : Locks) → T (is_sorted holder_cmp h)
    → ((u : ℕ) → find nat_cmp u hs ≡ cond (eq_by_cmp nat_cmp u t) w (find nat_cmp u (holders_at es n)))
    → ((q : Holder) → find holder_cmp q h ≡ cond (same q (n, t)) w (find holder_cmp q (locks_of es))) → locks_of fs ≡ h
changed es fs n hs c t w h s at is = same_locks fs h c.after s (λ q. ap (find nat_cmp q.1) (c.holders q.0) ∙ by q (name_cmp q.0 n) refl ∙ ap (cond (same q (n, t)) w) (sym (find_locks es c.before q)) ∙ sym (is q))
  where
    by : (q : Holder) (o : Ordering) → name_cmp q.0 n ≡ o → find nat_cmp q.1 (cond (is_eq o) hs (holders_at es q.0)) ≡ cond (is_eq (ordering_then o (nat_cmp q.1 t))) w (find nat_cmp q.1 (holders_at es q.0))
    by q Less e = refl
    by q Equal e = at q.1 ∙ ap (λ (y : Name). cond (is_eq (nat_cmp q.1 t)) w (find nat_cmp q.1 (holders_at es y))) (sym (name_exact q.0 n e))
    by q Greater e = refl

-- a mode that is written among the name's holders is kept
pub kept_at : (es fs : Names) (n : Name) (t m : ℕ) → IsChangedAt es fs n (put nat_cmp t m (holders_at es n)) → locks_of fs ≡ keep (locks_of es) t n m
kept_at es fs n t m c =
    changed es fs n (put nat_cmp t m (holders_at es n)) c t (Some m) (keep (locks_of es) t n m) (is_sorted-put holder_cmp holder_total (n, t) m (locks_of es) (sorted_locks es))
    (λ u. find-put nat_cmp nat_cmp_total u t m (holders_at es n))
    (λ q. find-put holder_cmp holder_total q (n, t) m (locks_of es))

not_cond : (b : Bool) (x : Option ℕ) → cond (not b) x None ≡ cond b None x
not_cond true x = refl
not_cond false x = refl

nat_sym : (t u : ℕ) → eq_by_cmp nat_cmp t u ≡ eq_by_cmp nat_cmp u t
nat_sym t u = (eq_by_cmp_equiv nat_cmp_total).symm t u

find-without : (t : ℕ) (hs : Holders) (u : ℕ) → find nat_cmp u (without t hs) ≡ cond (eq_by_cmp nat_cmp u t) None (find nat_cmp u hs)
find-without t hs u =
    find-where_key nat_cmp (λ x. not (eq_by_cmp nat_cmp t x)) u (λ x e. ap (λ (z : ℕ). not (eq_by_cmp nat_cmp t z)) (sym (exact_unsigned u x e))) hs
    ∙ not_cond (eq_by_cmp nat_cmp t u) (find nat_cmp u hs) ∙ ap (λ b. cond b None (find nat_cmp u hs)) (nat_sym t u)

pub find-forget : (h : Locks) (t : ℕ) (n : Name) (q : Holder) → find holder_cmp q (forget h t n) ≡ cond (same q (n, t)) None (find holder_cmp q h)
find-forget h t n q =
    find-where_key holder_cmp (λ x. not (same (n, t) x)) q (λ x e. ap (λ (z : Holder). not (same (n, t) z)) (sym (holder_exact q x e))) h
    ∙ not_cond (same (n, t) q) (find holder_cmp q h) ∙ ap (λ b. cond b None (find holder_cmp q h)) ((eq_by_cmp_equiv holder_total).symm (n, t) q)

-- a transaction that leaves the name's holders gives up its lock
pub left_from : (es fs : Names) (n : Name) (t : ℕ) → IsChangedAt es fs n (without t (holders_at es n)) → locks_of fs ≡ forget (locks_of es) t n
left_from es fs n t c =
    changed es fs n (without t (holders_at es n)) c t None (forget (locks_of es) t n) (is_sorted-where_key holder_cmp (λ x. not (same (n, t) x)) (locks_of es) (sorted_locks es))
    (λ u. find-without t (holders_at es n) u)
    (λ q. find-forget (locks_of es) t n q)

-- Tables of names --

unwrapped : (b : Bool) (x y : Option Holders) → unwrap_or (cond b x y) [] ≡ cond b (unwrap_or x []) (unwrap_or y [])
unwrapped true x y = refl
unwrapped false x y = refl

same_names : (n x : Name) → option_eq nat_eq (key_of n) (key_of x) ≡ eq_by_cmp name_cmp x n
same_names (Key a) (Key b) = grind (arith, nat_tests)
same_names (Key a) End = refl
same_names End (Key b) = refl
same_names End End = refl

-- the holders that the code finds
pub holders_found : {S : Type 0} → (m : hash.HashMap (Option ℕ) Holders S) (n : Name) (k : Option ℕ) (o : Option Holders) → k ≡ key_of n → o ≡ hash.get (option_eq nat_eq) m k → holders_at m.entries n ≡ unwrap_or o []
holders_found m n k o is e = ap (λ (x : Option Holders). unwrap_or x []) (sym (e ∙ ap (hash.get (option_eq nat_eq) m) is))

-- a name that is put into the table, or taken out of it
pub changed_in : {S : Type 0} → (m w : hash.HashMap (Option ℕ) Holders S) (n : Name) (k : Option ℕ) (o : Option Holders) → k ≡ key_of n → IsNames m.entries → hash.IsUnique (option_eq nat_eq) w → ((x : Option ℕ) → hash.get (option_eq nat_eq) w x ≡ cond (option_eq nat_eq k x) o (hash.get (option_eq nat_eq) m x)) → IsChangedAt m.entries w.entries n (unwrap_or o [])
changed_in m w n k o key before after is = record {
  before = before;
  after = after;
  holders = λ x.
      ap (λ (y : Option Holders). unwrap_or y []) (is (key_of x))
      ∙ unwrapped (option_eq nat_eq k (key_of x)) o (hash.get (option_eq nat_eq) m (key_of x))
      ∙ ap (λ b. cond b (unwrap_or o []) (holders_at m.entries x)) (ap (λ (y : Option ℕ). option_eq nat_eq y (key_of x)) key ∙ same_names n x);
}

-- holders that are written through a loan
pub written_in : {S : Type 0} → (m w : hash.HashMap (Option ℕ) Holders S) (n : Name) (k : Option ℕ) (hs ws : Holders) → k ≡ key_of n → IsNames m.entries → Some hs ≡ hash.get (option_eq nat_eq) m k → hash.WritesThrough (option_eq nat_eq) (option_eq nat_eq k) m ws w → IsChangedAt m.entries w.entries n ws
written_in m w n k hs ws key before found is = changed_in m w n k (Some ws) key before is.4 (is.3 (subst IsSome found refl)).0

-- nothing changes where the holders stay
pub same_at : (es fs : Names) (n : Name) (hs : Holders) → IsChangedAt es fs n hs → hs ≡ holders_at es n → locks_of fs ≡ locks_of es
same_at es fs n hs c same = same_locks fs (locks_of es) c.after (sorted_locks es) (λ q. ap (find nat_cmp q.1) (c.holders q.0) ∙ by q (eq_by_cmp name_cmp q.0 n) refl ∙ sym (find_locks es c.before q))
  where
    by : (q : Holder) (b : Bool) → is_eq (name_cmp q.0 n) ≡ b → find nat_cmp q.1 (cond b hs (holders_at es q.0)) ≡ find nat_cmp q.1 (holders_at es q.0)
    by q true e = ap (find nat_cmp q.1) (same ∙ ap (holders_at es) (sym (name_exact q.0 n (equal_of (name_cmp q.0 n) e))))
    by q false e = refl

-- and the holders of the name are the new ones
pub holders_after : (es fs : Names) (n : Name) (hs : Holders) → IsChangedAt es fs n hs → holders_at fs n ≡ hs
holders_after es fs n hs c = c.holders n ∙ ap (λ b. cond b hs (holders_at es n)) (ap is_eq (tied_itself name_total n))

-- where a name has no holders, none leaves
pub unchanged : (es : Names) (n : Name) (t : ℕ) → holders_at es n ≡ [] → (x : Name) → holders_at es x ≡ cond (eq_by_cmp name_cmp x n) (without t (holders_at es n)) (holders_at es x)
unchanged es n t none x = by (eq_by_cmp name_cmp x n) refl
  where
    by : (b : Bool) → is_eq (name_cmp x n) ≡ b → holders_at es x ≡ cond b (without t (holders_at es n)) (holders_at es x)
    by true e = ap (holders_at es) (name_exact x n (equal_of (name_cmp x n) e)) ∙ none ∙ sym (ap (without t) none)
    by false e = refl

-- The list of all --

order_is : (R : Name → Name → Ordering) → ((a b : ℕ) → R (Key a) (Key b) ≡ nat_cmp a b) → ((a : ℕ) → R (Key a) End ≡ Less) → ((b : ℕ) → R End (Key b) ≡ Greater) → R End End ≡ Equal → R ≡ name_cmp
order_is R kk ke ek ee = λ i a b. by a b i
  where
    by : (a b : Name) → R a b ≡ name_cmp a b
    by (Key a) (Key b) = kk a b
    by (Key a) End = ke a
    by End (Key b) = ek b
    by End End = ee

-- names compare in the code as they do here
pub name_order : cmp-value.it ≡ name_cmp
name_order = order_is cmp-value.it (λ a b. refl) (λ a. refl) (λ b. refl) refl

-- Covers: what a lock that serves one keeps all others from, and what the cases say of the modes after each request.
use Rattle.std.proofs.Common.{ℕ, List, [], ◌∷◌, ◌++◌, ◌≤◌, ◌≡◌, ◌≢◌, ◌⊎◌, inl, inr, refl, sym, Bool, true, false, subst}
use Rattle.std.specs.Prelude.{cond, filter, if◌then◌else◌}
use Rattle.std.specs.List.{flat_map}
use Rattle.kr_model.specs.declared.Name.{Name}
use Rattle.kr_model.specs.declared.Row.{Row}
use Rattle.kr_model.specs.declared.Row.TheVariants.{FetchHit, FetchMiss, ScanKey, ScanStop, Insert, Delete, Update}
use Rattle.kr_model.specs.declared.Side.{Side}
use Rattle.kr_model.specs.declared.Side.TheVariants.{Current, Next}
use Rattle.kr_model.specs.declared.Cover.{Cover}
use Rattle.kr_model.specs.declared.Cover.TheVariants.{ReadKey, ReadGap, InsertedKey, DeletedGap, UpdatedKey}
use Rattle.kr_model.specs.Protocol.{Protocol}
use Rattle.kr_model.specs.Covers.{IsCovered, mode_after, must_conflict, if_updating, Ask, is_open, requesters_at, is_empty}
use Rattle.kr_model.proofs.Guarantees.{In, Serves, Conflicts, conflicts_current, conflicts_next, after_fetch_hit, after_fetch_miss, after_insert, after_split, after_delete, after_scan_key, after_scan_stop, after_update, in_updating}

-- The cover that a touched point needs, by whether its key is there.
abbrev pub read_cover : Bool → Cover
read_cover true = ReadKey
read_cover false = ReadGap

-- The cover that a moved key needs, by whether it is there.
abbrev pub change_cover : Bool → Cover
change_cover true = InsertedKey
change_cover false = DeletedGap

-- Grants and covers --

-- The mode of each transaction on each name.
abbrev pub Modes : Type 0
Modes = ℕ → Name → ℕ

-- No other transaction's mode conflicts with what t requests at the row and side; `on` is the mode of t on the next name.
abbrev pub Granted : Protocol → Modes → ℕ → Row → Side → Name → ℕ → Type 0
Granted p own t row side name on = (u : ℕ) → u ≢ t → Conflicts p (own u name) (own t name) (p.ask row side on) → ⊥

-- At the side next the name is the next name, so the two own modes are one.
abbrev pub Fits : Side → ℕ → ℕ → Type 0
Fits Current o on = Unit
Fits Next o on = on ≡ o

-- A granted request is none that another's cover must conflict with. This is the only use of the conflict matrix.
pub clash : (p : Protocol) (own : Modes) (t u : ℕ) (row : Row) (side : Side) (name : Name) (on : ℕ) (cover : Cover)
    → Granted p own t row side name on → u ≢ t → Serves p cover (own u name) → In {A = Ask} (row, side) (must_conflict p cover)
    → own t name ≤ p.count → on ≤ p.count → Fits side (own t name) on → ⊥
clash p own t u row Current name on cover granted other s listed a b fits =
    granted u other (conflicts_current p cover (own u name) row s listed (own t name) on a b)
clash p own t u row Next name on cover granted other s listed a b fits =
    granted u other (subst (λ z. Conflicts p (own u name) (own t name) (p.ask row Next z)) (sym fits) (conflicts_next p cover (own u name) row s listed (own t name) a))

-- What each cover must conflict with.
pub reads_conflict_delete : (p : Protocol) (b : Bool) → In {A = Ask} (Delete, Current) (must_conflict p (read_cover b))
reads_conflict_delete p true = inl refl
reads_conflict_delete p false = inr (inl refl)

pub changes_conflict_miss : (p : Protocol) (b : Bool) → In {A = Ask} (FetchMiss, Next) (must_conflict p (change_cover b))
changes_conflict_miss p true = inr (inl refl)
changes_conflict_miss p false = inl refl

pub changes_conflict_key : (p : Protocol) (b : Bool) → In {A = Ask} (ScanKey, Current) (must_conflict p (change_cover b))
changes_conflict_key p true = inr (inr (inl refl))
changes_conflict_key p false = inr (inl refl)

pub changes_conflict_stop : (p : Protocol) (b : Bool) → In {A = Ask} (ScanStop, Next) (must_conflict p (change_cover b))
changes_conflict_stop p true = inr (inr (inr (inl refl)))
changes_conflict_stop p false = inr (inr (inl refl))

pub changes_conflict_delete : (p : Protocol) (b : Bool) (side : Side) → In {A = Ask} (Delete, side) (must_conflict p (change_cover b))
changes_conflict_delete p true Current = inr (inr (inr (inr (inl refl))))
changes_conflict_delete p true Next = inr (inr (inr (inr (inr (inl refl)))))
changes_conflict_delete p false Current = inr (inr (inr (inr (inl refl))))
changes_conflict_delete p false Next = inr (inr (inr (inr (inr (inl refl)))))

pub read_conflicts_update : (p : Protocol) → p.updates ≡ true → In {A = Ask} (Update, Current) (must_conflict p ReadKey)
read_conflicts_update p up = inr (in_updating p (Update, Current) ((Update, Current) ∷ []) up (inl refl))

-- What is listed where updates are offered.
abbrev updated_conflicts : List Ask
updated_conflicts = (FetchHit, Current) ∷ (ScanKey, Current) ∷ (Delete, Current) ∷ (Update, Current) ∷ []

pub in_updated : (p : Protocol) (a : Ask) → p.updates ≡ true → In a updated_conflicts → In a (must_conflict p UpdatedKey)
in_updated p a up i = in_updating p a updated_conflicts up i

-- The cover of a change serves as that of a read --

none_first : {A : Type 0} (f : A → Bool) (xs ys : List A) → is_empty (filter f (xs ++ ys)) ≡ true → is_empty (filter f xs) ≡ true
none_first f [] ys h = refl
none_first f (x ∷ xs) ys h = head (f x) h (λ g. none_first f xs ys g)
  where
    head : (b : Bool) → is_empty (cond b (x ∷ filter f (xs ++ ys)) (filter f (xs ++ ys))) ≡ true → (is_empty (filter f (xs ++ ys)) ≡ true → is_empty (filter f xs) ≡ true) → is_empty (cond b (x ∷ filter f xs) (filter f xs)) ≡ true
    head true h rest = absurd (cc)
    head false h rest = rest h

none_left : {A : Type 0} (f : A → Bool) (xs ys : List A) → is_empty (filter f (xs ++ ys)) ≡ true → is_empty (filter f ys) ≡ true
none_left f [] ys h = h
none_left f (x ∷ xs) ys h = head (f x) h (λ g. none_left f xs ys g)
  where
    head : (b : Bool) → is_empty (cond b (x ∷ filter f (xs ++ ys)) (filter f (xs ++ ys))) ≡ true → (is_empty (filter f (xs ++ ys)) ≡ true → is_empty (filter f ys) ≡ true) → is_empty (filter f ys) ≡ true
    head true h rest = absurd (cc)
    head false h rest = rest h

none_both : {A : Type 0} (f : A → Bool) (xs ys : List A) → is_empty (filter f xs) ≡ true → is_empty (filter f ys) ≡ true → is_empty (filter f (xs ++ ys)) ≡ true
none_both f [] ys h g = g
none_both f (x ∷ xs) ys h g = head (f x) h (λ k. none_both f xs ys k g)
  where
    head : (b : Bool) → is_empty (cond b (x ∷ filter f xs) (filter f xs)) ≡ true → (is_empty (filter f xs) ≡ true → is_empty (filter f (xs ++ ys)) ≡ true) → is_empty (cond b (x ∷ filter f (xs ++ ys)) (filter f (xs ++ ys))) ≡ true
    head true h rest = absurd (cc)
    head false h rest = rest h

-- Nothing passes in all the lists exactly where nothing passes in each.
none_of : {A B : Type 0} (f : B → Bool) (g : A → List B) (xs : List A) → is_empty (filter f (flat_map g xs)) ≡ true → (x : A) → In x xs → is_empty (filter f (g x)) ≡ true
none_of f g [] h x i = absurd i
none_of f g (y ∷ ys) h x (inl e) = subst (λ z. is_empty (filter f (g z)) ≡ true) e (none_first f (g y) (flat_map g ys) h)
none_of f g (y ∷ ys) h x (inr i) = none_of f g ys (none_left f (g y) (flat_map g ys) h) x i

none_in : {A B : Type 0} (f : B → Bool) (g : A → List B) (xs : List A) → ((x : A) → In x xs → is_empty (filter f (g x)) ≡ true) → is_empty (filter f (flat_map g xs)) ≡ true
none_in f g [] h = refl
none_in f g (y ∷ ys) h = none_both f (g y) (flat_map g ys) (h y (inl refl)) (none_in f g ys (λ x i. h x (inr i)))

-- A cover with a longer list serves as one with a shorter.
weaker : (p : Protocol) (h : ℕ) (c d : Cover) → ((a : Ask) → In a (must_conflict p c) → In a (must_conflict p d)) → Serves p d h → Serves p c h
weaker p h c d within s = none_in (is_open p h) (requesters_at p) (must_conflict p c) (λ a i. none_of (is_open p h) (requesters_at p) (must_conflict p d) s a (within a i))

read_in_change : (p : Protocol) (b : Bool) (a : Ask) → In a (must_conflict p (read_cover b)) → In a (must_conflict p (change_cover b))
read_in_change p true a (inl e) = inr (inr (inr (inr (inl e))))
read_in_change p true a (inr more) = inr (inr (inr (inr (inr (inr more)))))
read_in_change p false a (inl e) = inr (inr (inr (inl e)))
read_in_change p false a (inr (inl e)) = inr (inr (inr (inr (inl e))))
read_in_change p false a (inr (inr none)) = absurd none

pub weaken : (p : Protocol) (h : ℕ) (b : Bool) → Serves p (change_cover b) h → Serves p (read_cover b) h
weaken p h b s = weaker p h (read_cover b) (change_cover b) (read_in_change p b) s

if_updating_only : {A : Type 0} (p : Protocol) (x : A) (xs : List A) → In x (if_updating p xs) → In x xs
if_updating_only p x xs i = by p.updates i
  where
    by : (b : Bool) → In x (if b then xs else []) → In x xs
    by true i = i
    by false i = absurd i

read_in_updated : (p : Protocol) → p.updates ≡ true → (a : Ask) → In a (must_conflict p ReadKey) → In a (must_conflict p UpdatedKey)
read_in_updated p up a (inl e) = in_updated p a up (inr (inr (inl e)))
read_in_updated p up a (inr more) = in_updated p a up (inr (inr (inr (if_updating_only p a ((Update, Current) ∷ []) more))))

-- So does that of an update.
pub update_read : (p : Protocol) (h : ℕ) → p.updates ≡ true → Serves p UpdatedKey h → Serves p ReadKey h
update_read p h up s = weaker p h ReadKey UpdatedKey (read_in_updated p up) s

-- The cases --

-- What they say of the modes after each request; that a conversion keeps covers is used where locks are kept.
pub record Covered (p : Protocol) : Type 0 where
  pub after_hit : (o : ℕ) → o ≤ p.count → Serves p ReadKey (mode_after p o (p.ask FetchHit Current 0))
  pub after_miss : (n : ℕ) → n ≤ p.count → Serves p ReadGap (mode_after p n (p.ask FetchMiss Next 0))
  pub after_key_key : (o : ℕ) → o ≤ p.count → Serves p ReadKey (mode_after p o (p.ask ScanKey Current 0))
  pub after_key_gap : (o : ℕ) → o ≤ p.count → Serves p ReadGap (mode_after p o (p.ask ScanKey Current 0))
  pub after_stop : (n : ℕ) → n ≤ p.count → Serves p ReadGap (mode_after p n (p.ask ScanStop Next 0))
  pub after_new_key : (n o : ℕ) → n ≤ p.count → o ≤ p.count → Serves p InsertedKey (mode_after p o (p.ask Insert Current n))
  pub after_split_read : (n o : ℕ) → n ≤ p.count → o ≤ p.count → Serves p ReadGap n → Serves p ReadGap (mode_after p o (p.ask Insert Current n))
  pub after_split_deleted : (n o : ℕ) → n ≤ p.count → o ≤ p.count → Serves p DeletedGap n → Serves p DeletedGap (mode_after p o (p.ask Insert Current n))
  pub after_removal : (n : ℕ) → n ≤ p.count → Serves p DeletedGap (mode_after p n (p.ask Delete Next n))
  pub after_updated : p.updates ≡ true → (o : ℕ) → o ≤ p.count → Serves p UpdatedKey (mode_after p o (p.ask Update Current 0))

pub covered : (p : Protocol) → IsCovered p → Covered p
covered p cov = record {
  after_hit = λ o io. after_fetch_hit p cov o io;
  after_miss = λ n io. after_fetch_miss p cov n io;
  after_key_key = λ o io. after_scan_key p cov ReadKey (inl refl) o io;
  after_key_gap = λ o io. after_scan_key p cov ReadGap (inr (inl refl)) o io;
  after_stop = λ n io. after_scan_stop p cov n io;
  after_new_key = λ n o in_n io. after_insert p cov n o in_n io;
  after_split_read = λ n o in_n io s. after_split p cov ReadGap (inl refl) n o in_n io s;
  after_split_deleted = λ n o in_n io s. after_split p cov DeletedGap (inr (inl refl)) n o in_n io s;
  after_removal = λ n io. after_delete p cov n io;
  after_updated = λ up o io. after_update p cov up o io;
}

-- A changed key that is present --

-- What covers it: the cover of an insert, or that of an update.
abbrev pub Holds : Protocol → ℕ → Type 0
Holds p h = Serves p InsertedKey h ⊎ ((p.updates ≡ true) × Serves p UpdatedKey h)

pub holds_keep : (p : Protocol) (h g : ℕ) → ((c : Cover) → Serves p c h → Serves p c g) → Holds p h → Holds p g
holds_keep p h g keeps (inl s) = inl (keeps InsertedKey s)
holds_keep p h g keeps (inr s) = inr (s.0, keeps UpdatedKey s.1)

-- It serves as the cover of a read.
pub holds_read : (p : Protocol) (h : ℕ) → Holds p h → Serves p ReadKey h
holds_read p h (inl s) = weaken p h true s
holds_read p h (inr s) = update_read p h s.0 s.1

-- A row that both conflict with on the key.
abbrev pub BothConflict : Protocol → Row → Type 0
BothConflict p row = In {A = Ask} (row, Current) (must_conflict p InsertedKey) × (p.updates ≡ true → In {A = Ask} (row, Current) (must_conflict p UpdatedKey))

pub both_conflict_hit : (p : Protocol) → BothConflict p FetchHit
both_conflict_hit p = (inl refl, λ up. in_updated p (FetchHit, Current) up (inl refl))

pub both_conflict_key : (p : Protocol) → BothConflict p ScanKey
both_conflict_key p = (inr (inr (inl refl)), λ up. in_updated p (ScanKey, Current) up (inr (inl refl)))

pub both_conflict_delete : (p : Protocol) → BothConflict p Delete
both_conflict_delete p = (inr (inr (inr (inr (inl refl)))), λ up. in_updated p (Delete, Current) up (inr (inr (inl refl))))

-- No other is granted such a row.
pub holds_clash : (p : Protocol) (own : Modes) (t u : ℕ) (row : Row) (name : Name) (on : ℕ) → Granted p own t row Current name on → u ≢ t → Holds p (own u name)
    → BothConflict p row → own t name ≤ p.count → on ≤ p.count → ⊥
holds_clash p own t u row name on granted other (inl s) both le on_le = clash p own t u row Current name on InsertedKey granted other s both.0 le on_le tt
holds_clash p own t u row name on granted other (inr s) both le on_le = clash p own t u row Current name on UpdatedKey granted other s.1 (both.1 s.0) le on_le tt

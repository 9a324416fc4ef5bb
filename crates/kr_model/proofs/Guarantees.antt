-- What the cases of a covered protocol say, for all modes at once.
use Rattle.std.specs.Prelude.{◌≡◌, ℕ, suc, zero, ◌+◌, ◌<◌, ◌≤◌, Bool, true, false, not, cond, List, [], ◌∷◌, ◌++◌, Option, Some, None, map, filter, refl, ◌⊎◌, if◌then◌else◌}
use Rattle.std.specs.List.{flat_map, filter_map, cons_option}
use Rattle.std.proofs.Common.{sym, ap, subst, arith, inl, inr}
use Rattle.kr_model.proofs.Tested.{here_or_later}
use Rattle.kr_model.specs.declared.Row.{Row}
use Rattle.kr_model.specs.declared.Row.TheVariants as row
use Rattle.kr_model.specs.declared.Side.{Side}
use Rattle.kr_model.specs.declared.Side.TheVariants.{Current, Next}
use Rattle.kr_model.specs.declared.Span.{Span}
use Rattle.kr_model.specs.declared.Cover.{Cover}
use Rattle.kr_model.specs.declared.Cover.TheVariants.{ReadKey, ReadGap, InsertedKey, DeletedGap, UpdatedKey}
use Rattle.kr_model.specs.declared.Rule.{Rule}
use Rattle.kr_model.specs.declared.Rule.TheVariants as rule
use Rattle.kr_model.specs.declared.Origin.TheVariants as origin
use Rattle.kr_model.specs.declared.Requester.{Requester}
use Rattle.kr_model.specs.Protocol.{Protocol, IsMode}
use Rattle.kr_model.specs.Covers.{requester, Case, case, cases, cases_of, row_cases, all_rules, all_covers, count_up, modes, modes_or_none, must_conflict, if_updating, requesters_at, open_requesters, is_open, conflicts_with, serves, is_empty, mode_after, failure, failed_at, is_due, IsCovered}

-- x stands in the list
abbrev pub In : {A : Type 0} → A → List A → Type 0
In x [] = ⊥
In x (y ∷ ys) = (y ≡ x) ⊎ In x ys

-- what stands in a list stands in it with more behind
pub in_left : {A : Type 0} (x : A) (xs ys : List A) → In x xs → In x (xs ++ ys)
in_left x [] ys h = absurd h
in_left x (y ∷ xs) ys (inl e) = inl e
in_left x (y ∷ xs) ys (inr h) = inr (in_left x xs ys h)

-- what stands in a list stands in it with more before
pub in_right : {A : Type 0} (x : A) (xs ys : List A) → In x ys → In x (xs ++ ys)
in_right x [] ys h = h
in_right x (y ∷ xs) ys h = inr (in_right x xs ys h)

-- the image of an element stands in the image of its list
pub in_map : {A B : Type 0} (f : A → B) (x : A) (xs : List A) → In x xs → In (f x) (map f xs)
in_map f x [] h = absurd h
in_map f x (y ∷ xs) (inl e) = inl (ap f e)
in_map f x (y ∷ xs) (inr h) = inr (in_map f x xs h)

-- what stands in the list of an element stands in the lists of all put together
pub in_flat_map : {A B : Type 0} (f : A → List B) (x : A) (y : B) (xs : List A) → In x xs → In y (f x) → In y (flat_map f xs)
in_flat_map f x y [] h g = absurd h
in_flat_map f x y (z ∷ xs) (inl e) g = in_left y (f z) (flat_map f xs) (subst (λ w. In y (f w)) (sym e) g)
in_flat_map f x y (z ∷ xs) (inr h) g = in_right y (f z) (flat_map f xs) (in_flat_map f x y xs h g)

-- each number from a below a + n stands in the n numbers from a
pub in_count_up : (a n k : ℕ) → a ≤ k → k < a + n → In k (count_up a n)
in_count_up a zero k low high = absurd (omega arith)
in_count_up a (suc n) k low high =
    elim (here_or_later a k low) [ inl e ↦ inl e | inr b ↦ inr (in_count_up (suc a) n k b (omega arith)) ]

-- each mode stands among the modes
pub in_modes : (p : Protocol) (m : ℕ) → IsMode p m → In m (modes p)
in_modes p m is = in_count_up 1 p.count m is.some (let r = is.in_range in omega arith)

-- each number up to the count stands among 0 and the modes
pub in_modes_or_none : (p : Protocol) (m : ℕ) → m ≤ p.count → In m (modes_or_none p)
in_modes_or_none p m is = in_count_up 0 (suc p.count) m (omega arith) (omega arith)

-- of a filter that leaves nothing, no element passes
none_here : {A : Type 0} (f : A → Bool) (y : A) (xs : List A) (x : A) (b : Bool) → f y ≡ b → is_empty (cond b (y ∷ filter f xs) (filter f xs)) ≡ true → (y ≡ x) ⊎ In x xs
    → (is_empty (filter f xs) ≡ true → In x xs → f x ≡ false) → f x ≡ false
none_here f y xs x true e g j rest = absurd (cc)
none_here f y xs x false e g (inl s) rest = subst (λ w. f w ≡ false) s e
none_here f y xs x false e g (inr j) rest = rest g j

-- of a list of which a filter leaves nothing, no element passes
pub none_passes : {A : Type 0} (f : A → Bool) (xs : List A) → is_empty (filter f xs) ≡ true → (x : A) → In x xs → f x ≡ false
none_passes f [] h x i = absurd i
none_passes f (y ∷ xs) h x i = none_here f y xs x (f y) refl h i (λ g j. none_passes f xs g x j)

-- of a filter_map that leaves nothing, each element gives nothing
gives_none : {A B : Type 0} (f : A → Option B) (y : A) (xs : List A) (x : A) (o : Option B) → f y ≡ o → is_empty (cons_option o (filter_map f xs)) ≡ true → (y ≡ x) ⊎ In x xs
    → (is_empty (filter_map f xs) ≡ true → In x xs → f x ≡ None) → f x ≡ None
gives_none f y xs x (Some b) e g j rest = absurd (cc)
gives_none f y xs x None e g (inl s) rest = subst (λ w. f w ≡ None) s e
gives_none f y xs x None e g (inr j) rest = rest g j

-- of a list of which a filter_map leaves nothing, each element gives nothing
pub each_none : {A B : Type 0} (f : A → Option B) (xs : List A) → is_empty (filter_map f xs) ≡ true → (x : A) → In x xs → f x ≡ None
each_none f [] h x i = absurd i
each_none f (y ∷ xs) h x i = gives_none f y xs x (f y) refl h i (λ g j. each_none f xs g x j)

-- Serving --

-- the mode serves the cover
abbrev pub Serves : Protocol → Cover → ℕ → Type 0
Serves p c h = serves p c h ≡ true

-- what a requester requests conflicts with h
abbrev pub Conflicts : Protocol → ℕ → ℕ → Option (ℕ × Span) → Type 0
Conflicts p h o None = ⊥
Conflicts p h o (Some (q, span)) = p.ok (p.convert o q) h ≡ false

conflict_of_test : (p : Protocol) (h o : ℕ) (a : Option (ℕ × Span)) → not (conflicts_with p h o a) ≡ false → Conflicts p h o a
conflict_of_test p h o None e = absurd (cc)
conflict_of_test p h o (Some (q, span)) e = was_not (p.ok (p.convert o q) h) e
  where
    was_not : (b : Bool) → not (not b) ≡ false → b ≡ false
    was_not true e = absurd (cc)
    was_not false e = refl

in_requesters_current : (p : Protocol) (r : Row) (o n : ℕ) → o ≤ p.count → n ≤ p.count → In (requester (r, Current) o n) (requesters_at p (r, Current))
in_requesters_current p r o n io in_n =
    in_flat_map (λ x. map (λ y. requester (r, Current) x y) (modes_or_none p)) o (requester (r, Current) o n) (modes_or_none p) (in_modes_or_none p o io)
    (in_map (λ y. requester (r, Current) o y) n (modes_or_none p) (in_modes_or_none p n in_n))

in_requesters_next : (p : Protocol) (r : Row) (o : ℕ) → o ≤ p.count → In (requester (r, Next) o o) (requesters_at p (r, Next))
in_requesters_next p r o io = in_map (λ x. requester (r, Next) x x) o (modes_or_none p) (in_modes_or_none p o io)

-- a mode that serves a cover conflicts with what the cover must conflict with, whatever the requester holds
pub conflicts_current : (p : Protocol) (c : Cover) (h : ℕ) (r : Row) → Serves p c h → In (r, Current) (must_conflict p c) → (o n : ℕ) → o ≤ p.count → n ≤ p.count → Conflicts p h o (p.ask r Current n)
conflicts_current p c h r s i o n io in_n =
    conflict_of_test p h o (p.ask r Current n)
    (none_passes (is_open p h) (flat_map (requesters_at p) (must_conflict p c)) s (requester (r, Current) o n)
    (in_flat_map (requesters_at p) (r, Current) (requester (r, Current) o n) (must_conflict p c) i (in_requesters_current p r o n io in_n)))

-- the same at the side next, where the two own modes are one
pub conflicts_next : (p : Protocol) (c : Cover) (h : ℕ) (r : Row) → Serves p c h → In (r, Next) (must_conflict p c) → (o : ℕ) → o ≤ p.count → Conflicts p h o (p.ask r Next o)
conflicts_next p c h r s i o io =
    conflict_of_test p h o (p.ask r Next o)
    (none_passes (is_open p h) (flat_map (requesters_at p) (must_conflict p c)) s (requester (r, Next) o o)
    (in_flat_map (requesters_at p) (r, Next) (requester (r, Next) o o) (must_conflict p c) i (in_requesters_next p r o io)))

-- what is listed only where updates are offered
pub in_updating : {A : Type 0} (p : Protocol) (x : A) (xs : List A) → p.updates ≡ true → In x xs → In x (if_updating p xs)
in_updating p x xs up i = subst (λ b. In x (if b then xs else [])) (sym up) i

-- The rules --

no_hole : (c : Case) (ps : List Requester) → failed_at c ps ≡ None → is_empty ps ≡ true
no_hole c [] h = refl
no_hole c (x ∷ ps) h = absurd (cc)

-- of a case that doesn't fail and that asks something, the mode serves the cover
case_holds : (p : Protocol) (k : Case) (b : Bool) → is_due p k ≡ b → cond b (failed_at k (open_requesters p k.cover k.mode)) None ≡ None → b ≡ true → Serves p k.cover k.mode
case_holds p k true e h g = no_hole k (open_requesters p k.cover k.mode) h
case_holds p k false e h g = absurd (cc)

-- a rule that the protocol has to keep
abbrev IsAsked : Protocol → Rule → Type 0
IsAsked p rule.Update = p.updates ≡ true
IsAsked p _ = Unit {0}

in_all_rules : (p : Protocol) (r : Rule) → IsAsked p r → In r (all_rules p)
in_all_rules p rule.Conversion up = inl refl
in_all_rules p rule.FetchHit up = inr (inl refl)
in_all_rules p rule.FetchMiss up = inr (inr (inl refl))
in_all_rules p rule.ScanKey up = inr (inr (inr (inl refl)))
in_all_rules p rule.ScanStop up = inr (inr (inr (inr (inl refl))))
in_all_rules p rule.Insert up = inr (inr (inr (inr (inr (inl refl)))))
in_all_rules p rule.Split up = inr (inr (inr (inr (inr (inr (inl refl))))))
in_all_rules p rule.Delete up = inr (inr (inr (inr (inr (inr (inr (inl refl)))))))
in_all_rules p rule.Update up = inr (inr (inr (inr (inr (inr (inr (inr (in_updating p rule.Update (rule.Update ∷ []) up (inl refl)))))))))

covered_case : (p : Protocol) → IsCovered p → (r : Rule) → IsAsked p r → (k : Case) → In k (cases_of p r) → is_due p k ≡ true → Serves p k.cover k.mode
covered_case p h r up k i g = case_holds p k (is_due p k) refl (each_none (failure p) (cases p) (ap is_empty h) k (in_flat_map (cases_of p) r k (all_rules p) (in_all_rules p r up) i)) g

-- a cover that the protocol has to serve
abbrev pub IsKnown : Protocol → Cover → Type 0
IsKnown p UpdatedKey = p.updates ≡ true
IsKnown p _ = Unit {0}

in_all_covers : (p : Protocol) (c : Cover) → IsKnown p c → In c (all_covers p)
in_all_covers p ReadKey up = inl refl
in_all_covers p ReadGap up = inr (inl refl)
in_all_covers p InsertedKey up = inr (inr (inl refl))
in_all_covers p DeletedGap up = inr (inr (inr (inl refl)))
in_all_covers p UpdatedKey up = inr (inr (inr (inr (in_updating p UpdatedKey (UpdatedKey ∷ []) up (inl refl)))))

-- in two lists, one inside the other
in_two : {A B C : Type 0} (f : A → B → C) (a : A) (b : B) (xs : List A) (ys : List B) → In a xs → In b ys → In (f a b) (flat_map (λ x. map (λ y. f x y) ys) xs)
in_two f a b xs ys ia ib = in_flat_map (λ x. map (λ y. f x y) ys) a (f a b) xs ia (in_map (λ y. f a y) b ys ib)

-- a conversion keeps what the held mode serves
pub keeps_cover : (p : Protocol) → IsCovered p → (c : Cover) → IsKnown p c → (h q : ℕ) → IsMode p h → IsMode p q → Serves p c h → Serves p c (p.convert h q)
keeps_cover p cov c up h q ih iq s =
    covered_case p cov rule.Conversion tt (case rule.Conversion c (origin.Conversion h q) (Some h) (p.convert h q))
    (in_flat_map (λ d. flat_map (λ x. map (λ y. case rule.Conversion d (origin.Conversion x y) (Some x) (p.convert x y)) (modes p)) (modes p)) c (case rule.Conversion c (origin.Conversion h q) (Some h) (p.convert h q)) (all_covers p) (in_all_covers p c up)
    (in_two (λ x y. case rule.Conversion c (origin.Conversion x y) (Some x) (p.convert x y)) h q (modes p) (modes p) (in_modes p h ih) (in_modes p q iq)))
    s

in_row : (p : Protocol) (rl : Rule) (r : Row) (side : Side) (cs : List Cover) (c : Cover) (o : ℕ) → In c cs → o ≤ p.count → In (case rl c (origin.Own o) None (mode_after p o (p.ask r side 0))) (row_cases p rl r side cs)
in_row p rl r side cs c o ic io = in_two (λ d x. case rl d (origin.Own x) None (mode_after p x (p.ask r side 0))) c o cs (modes_or_none p) ic (in_modes_or_none p o io)

-- a fetch that finds its key covers the key
pub after_fetch_hit : (p : Protocol) → IsCovered p → (o : ℕ) → o ≤ p.count → Serves p ReadKey (mode_after p o (p.ask row.FetchHit Current 0))
after_fetch_hit p cov o io = covered_case p cov rule.FetchHit tt (case rule.FetchHit ReadKey (origin.Own o) None (mode_after p o (p.ask row.FetchHit Current 0))) (in_row p rule.FetchHit row.FetchHit Current (ReadKey ∷ []) ReadKey o (inl refl) io) refl

-- a fetch that finds nothing covers the gap
pub after_fetch_miss : (p : Protocol) → IsCovered p → (n : ℕ) → n ≤ p.count → Serves p ReadGap (mode_after p n (p.ask row.FetchMiss Next 0))
after_fetch_miss p cov n io = covered_case p cov rule.FetchMiss tt (case rule.FetchMiss ReadGap (origin.Own n) None (mode_after p n (p.ask row.FetchMiss Next 0))) (in_row p rule.FetchMiss row.FetchMiss Next (ReadGap ∷ []) ReadGap n (inl refl) io) refl

-- an insert covers the key that it brings
pub after_insert : (p : Protocol) → IsCovered p → (n o : ℕ) → n ≤ p.count → o ≤ p.count → Serves p InsertedKey (mode_after p o (p.ask row.Insert Current n))
after_insert p cov n o in_n io = covered_case p cov rule.Insert tt (case rule.Insert InsertedKey (origin.Insert n o) None (mode_after p o (p.ask row.Insert Current n)))
    (in_two (λ x y. case rule.Insert InsertedKey (origin.Insert x y) None (mode_after p y (p.ask row.Insert Current x))) n o (modes_or_none p) (modes_or_none p) (in_modes_or_none p n in_n) (in_modes_or_none p o io)) refl

-- the covers of a gap
abbrev pub gap_covers : List Cover
gap_covers = ReadGap ∷ DeletedGap ∷ []

-- an insert into a gap that its own transaction covers carries the cover over
pub after_split : (p : Protocol) → IsCovered p → (c : Cover) → In c gap_covers → (n o : ℕ) → n ≤ p.count → o ≤ p.count → Serves p c n → Serves p c (mode_after p o (p.ask row.Insert Current n))
after_split p cov c ic n o in_n io s = covered_case p cov rule.Split tt (case rule.Split c (origin.Insert n o) (Some n) (mode_after p o (p.ask row.Insert Current n)))
    (in_flat_map (λ d. flat_map (λ x. map (λ y. case rule.Split d (origin.Insert x y) (Some x) (mode_after p y (p.ask row.Insert Current x))) (modes_or_none p)) (modes_or_none p)) c
    (case rule.Split c (origin.Insert n o) (Some n) (mode_after p o (p.ask row.Insert Current n))) gap_covers ic
    (in_two (λ x y. case rule.Split c (origin.Insert x y) (Some x) (mode_after p y (p.ask row.Insert Current x))) n o (modes_or_none p) (modes_or_none p) (in_modes_or_none p n in_n) (in_modes_or_none p o io)))
    s

-- a delete covers the gap that it widens
pub after_delete : (p : Protocol) → IsCovered p → (n : ℕ) → n ≤ p.count → Serves p DeletedGap (mode_after p n (p.ask row.Delete Next n))
after_delete p cov n io = covered_case p cov rule.Delete tt (case rule.Delete DeletedGap (origin.Own n) None (mode_after p n (p.ask row.Delete Next n)))
    (in_map (λ x. case rule.Delete DeletedGap (origin.Own x) None (mode_after p x (p.ask row.Delete Next x))) n (modes_or_none p) (in_modes_or_none p n io)) refl

-- the covers of a key that a scan reads
abbrev pub scan_covers : List Cover
scan_covers = ReadKey ∷ ReadGap ∷ []

-- a scan covers each key that it reads, and the gap below it
pub after_scan_key : (p : Protocol) → IsCovered p → (c : Cover) → In c scan_covers → (o : ℕ) → o ≤ p.count → Serves p c (mode_after p o (p.ask row.ScanKey Current 0))
after_scan_key p cov c ic o io = covered_case p cov rule.ScanKey tt (case rule.ScanKey c (origin.Own o) None (mode_after p o (p.ask row.ScanKey Current 0))) (in_row p rule.ScanKey row.ScanKey Current scan_covers c o ic io) refl

-- a scan covers the gap in which it stops
pub after_scan_stop : (p : Protocol) → IsCovered p → (n : ℕ) → n ≤ p.count → Serves p ReadGap (mode_after p n (p.ask row.ScanStop Next 0))
after_scan_stop p cov n io = covered_case p cov rule.ScanStop tt (case rule.ScanStop ReadGap (origin.Own n) None (mode_after p n (p.ask row.ScanStop Next 0))) (in_row p rule.ScanStop row.ScanStop Next (ReadGap ∷ []) ReadGap n (inl refl) io) refl

-- an update covers its key
pub after_update : (p : Protocol) → IsCovered p → p.updates ≡ true → (o : ℕ) → o ≤ p.count → Serves p UpdatedKey (mode_after p o (p.ask row.Update Current 0))
after_update p cov up o io = covered_case p cov rule.Update up (case rule.Update UpdatedKey (origin.Own o) None (mode_after p o (p.ask row.Update Current 0))) (in_row p rule.Update row.Update Current (UpdatedKey ∷ []) UpdatedKey o (inl refl) io) refl

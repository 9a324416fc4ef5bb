-- What a lock that serves a cover keeps all others from, and what the cases say of the mode after each request.
use Rattle.std.specs.Prelude.{◌≡◌, ℕ, ◌≤◌, Bool, true, false, not, ◌||◌, if◌then◌else◌, cond, List, [], ◌∷◌, ◌++◌, Option, Some, None, map, filter, refl, is_some, unwrap_or}
use Rattle.std.specs.List.{flat_map}
use Rattle.std.proofs.Common.{sym, ap, subst, inl, inr, true≢false}
use Rattle.kr_model.specs.declared.Row.TheVariants as row
use Rattle.kr_model.specs.declared.Side.TheVariants.{Next}
use Rattle.kr_model.specs.declared.Span.{Span}
use Rattle.kr_model.specs.declared.Origin.TheVariants as origin
use Rattle.kr_model.specs.Protocol.{IsMode}
use Rattle.kr_model.specs.Covers.{modes, modes_or_none, conflicts_with, mode_after, is_empty}
use Rattle.kr_model.proofs.Guarantees.{In, in_left, in_right, in_map, in_flat_map, in_modes, in_modes_or_none, none_passes, each_none, in_updating}
use Rattle.kr_ghost.specs.declared.vain.Vain.{Vain}
use Rattle.kr_ghost.specs.declared.vain.Vain.TheVariants as vain
use Rattle.kr_ghost.specs.Protocol.{GhostProtocol, Purges, Unlocked, Inherit}
use Rattle.kr_ghost.specs.Step as step
use Rattle.kr_ghost.specs.Step.{current, next, as_fetch}
use Rattle.kr_ghost.specs.declared.cases.Cover.{Cover}
use Rattle.kr_ghost.specs.declared.cases.Cover.TheVariants.{ReadKey, ReadGap, ChangedKey}
use Rattle.kr_ghost.specs.declared.cases.Rule.{Rule}
use Rattle.kr_ghost.specs.declared.cases.Rule.TheVariants.{Conversion, FetchHit, FetchMiss, ScanName, ScanStop, Insert, Split, Delete, Update, Revive, Heir, InsertHit, DeleteMiss, UpdateMiss}
use Rattle.kr_ghost.specs.declared.cases.Access.{Access}
use Rattle.kr_ghost.specs.declared.cases.Access.TheVariants as access
use Rattle.kr_ghost.specs.declared.cases.Requester.{Requester}
use Rattle.kr_ghost.specs.Covers.{has_row, if_row, accesses, asked, requester, requesters, is_open, open_requesters, serves, Case, case, conversions, covers, mode_on_new, mode_inherited, heirs, all_covers, cases_of, all_rules, cases, failed_at, failure, IsCoveredGhost}

-- The mode serves the cover.
abbrev pub Serves : GhostProtocol → Cover → ℕ → Type 0
Serves p c h = serves p c h ≡ true

-- Whom a lock keeps out --

-- The negation of a test.
pub not_true : (b : Bool) → not b ≡ true → b ≡ false
not_true true e = absurd (cc)
not_true false e = refl

pub not_false : (b : Bool) → not b ≡ false → b ≡ true
not_false true e = refl
not_false false e = absurd (cc)

-- Where nothing of two lists passes, nothing of the second does.
rest_empty : {A : Type 0} (test : A → Bool) (xs ys : List A) → is_empty (filter test (xs ++ ys)) ≡ true → is_empty (filter test ys) ≡ true
rest_empty test [] ys h = h
rest_empty test (x ∷ xs) ys h = by (test x) h (rest_empty test xs ys)
  where
    by : (b : Bool) → is_empty (cond b (x ∷ filter test (xs ++ ys)) (filter test (xs ++ ys))) ≡ true → (is_empty (filter test (xs ++ ys)) ≡ true → is_empty (filter test ys) ≡ true)
        → is_empty (filter test ys) ≡ true
    by true h rest = absurd (cc)
    by false h rest = rest h

module _ (p : GhostProtocol) (h : ℕ) where
  -- A changed key is protected as one that was read.
  pub weaken : Serves p ChangedKey h → Serves p ReadKey h
  weaken s = by (has_row p vain.InsertHit) (without access.Scan (inserts ++ accesses p ReadKey) (without access.Fetch (access.Scan ∷ inserts ++ accesses p ReadKey) s))
    where
      inserts : List Access
      inserts = if_row p vain.InsertHit (access.InsertHit ∷ [])

      without : (a : Access) (bs : List Access) → is_empty (filter (is_open p h) (flat_map (requesters p) (a ∷ bs))) ≡ true → is_empty (filter (is_open p h) (flat_map (requesters p) bs)) ≡ true
      without a bs none = rest_empty (is_open p h) (requesters p a) (flat_map (requesters p) bs) none

      by : (b : Bool) → is_empty (filter (is_open p h) (flat_map (requesters p) ((if b then access.InsertHit ∷ [] else []) ++ accesses p ReadKey))) ≡ true → Serves p ReadKey h
      by true none = without access.InsertHit (accesses p ReadKey) none
      by false none = none

  module _ (o : ℕ) (io : o ≤ p.table.count) where
    -- A lock that serves a cover conflicts with each access that it must conflict with.
    kept_out : (c : Cover) (a : Access) → In a (accesses p c) → Serves p c h → conflicts_with p.table h o (asked p a o) ≡ true
    kept_out c a i s =
        not_false (conflicts_with p.table h o (asked p a o))
        (none_passes (is_open p h) (flat_map (requesters p) (accesses p c)) s (requester a o)
        (in_flat_map (requesters p) a (requester a o) (accesses p c) i (in_map (requester a) o (modes_or_none p.table) (in_modes_or_none p.table o io))))

    -- One that serves a read key keeps off who would delete, revive or update it.
    pub no_delete : Serves p ReadKey h → conflicts_with p.table h o (current p row.Delete) ≡ true
    no_delete s = kept_out ReadKey access.Delete (inl refl) s

    pub no_revive : Serves p ReadKey h → conflicts_with p.table h o p.revive ≡ true
    no_revive s = kept_out ReadKey access.Revive (inr (inl refl)) s

    pub no_update : p.table.updates ≡ true → Serves p ReadKey h → conflicts_with p.table h o (current p row.Update) ≡ true
    no_update up s = kept_out ReadKey access.Update (inr (inr (in_updating p.table access.Update (access.Update ∷ []) up (inl refl)))) s

    -- One that serves a read gap keeps off who would insert into it.
    pub no_insert : Serves p ReadGap h → conflicts_with p.table h o (p.table.ask row.Insert Next o) ≡ true
    no_insert s = kept_out ReadGap access.Insert (inl refl) s

    -- One that serves a changed key keeps off who would read it.
    pub no_fetch : Serves p ChangedKey h → conflicts_with p.table h o (current p row.FetchHit) ≡ true
    no_fetch s = kept_out ChangedKey access.Fetch (inl refl) s

    pub no_scan : Serves p ChangedKey h → conflicts_with p.table h o (current p row.ScanKey) ≡ true
    no_scan s = kept_out ChangedKey access.Scan (inr (inl refl)) s

    pub no_insert_hit : Serves p ChangedKey h → conflicts_with p.table h o (step.vain p vain.InsertHit) ≡ true
    no_insert_hit s = by (p.vain vain.InsertHit) refl
      where
        by : (asked : Option (Option (ℕ × Span))) → p.vain vain.InsertHit ≡ asked → conflicts_with p.table h o (unwrap_or asked (as_fetch p vain.InsertHit)) ≡ true
        by None is = no_fetch s
        by (Some r) is =
            subst (λ x. conflicts_with p.table h o (unwrap_or x (as_fetch p vain.InsertHit)) ≡ true) is
            (kept_out ChangedKey access.InsertHit (inr (inr
            (subst (λ x. In access.InsertHit ((if is_some x then access.InsertHit ∷ [] else []) ++ accesses p ReadKey)) (sym is) (inl refl)))) s)

-- The cases --

in_two : {A B C : Type 0} (f : A → B → C) (a : A) (b : B) (xs : List A) (ys : List B) → In a xs → In b ys → In (f a b) (flat_map (λ x. map (λ y. f x y) ys) xs)
in_two f a b xs ys ia ib = in_flat_map (λ x. map (λ y. f x y) ys) a (f a b) xs ia (in_map (λ y. f a y) b ys ib)

in_rules : (r : Rule) → In r all_rules
in_rules Conversion = inl refl
in_rules FetchHit = inr (inl refl)
in_rules FetchMiss = inr (inr (inl refl))
in_rules ScanName = inr (inr (inr (inl refl)))
in_rules ScanStop = inr (inr (inr (inr (inl refl))))
in_rules Insert = inr (inr (inr (inr (inr (inl refl)))))
in_rules Split = inr (inr (inr (inr (inr (inr (inl refl))))))
in_rules Delete = inr (inr (inr (inr (inr (inr (inr (inl refl)))))))
in_rules Update = inr (inr (inr (inr (inr (inr (inr (inr (inl refl))))))))
in_rules Revive = inr (inr (inr (inr (inr (inr (inr (inr (inr (inl refl)))))))))
in_rules Heir = inr (inr (inr (inr (inr (inr (inr (inr (inr (inr (inl refl))))))))))
in_rules InsertHit = inr (inr (inr (inr (inr (inr (inr (inr (inr (inr (inr (inl refl)))))))))))
in_rules DeleteMiss = inr (inr (inr (inr (inr (inr (inr (inr (inr (inr (inr (inr (inl refl))))))))))))
in_rules UpdateMiss = inr (inr (inr (inr (inr (inr (inr (inr (inr (inr (inr (inr (inr (inl refl)))))))))))))

none_open : (c : Case) (due : Bool) (rs : List Requester) → (if due then failed_at c rs else None) ≡ None → due ≡ true → is_empty rs ≡ true
none_open c true [] h e = refl
none_open c true (r ∷ rs) h e = absurd (cc)
none_open c false rs h e = absurd (true≢false (sym e))

-- A case of a covered protocol that is due holds.
case_holds : (p : GhostProtocol) → IsCoveredGhost p → (r : Rule) (c : Case) → In c (cases_of p r) → c.due ≡ true → Serves p c.cover c.mode
case_holds p cov r c i due =
    none_open c c.due (open_requesters p c.cover c.mode) (each_none (failure p) (cases p) (ap is_empty cov) c (in_flat_map (cases_of p) r c all_rules (in_rules r) i)) due

in_covers : (p : GhostProtocol) (r : Rule) (c : Cover) (asked : Option (ℕ × Span)) (o : ℕ) → o ≤ p.table.count → In (case r c (origin.Own o) true (mode_after p.table o asked)) (covers p r c asked)
in_covers p r c asked o io = in_map (λ o. case r c (origin.Own o) true (mode_after p.table o asked)) o (modes_or_none p.table) (in_modes_or_none p.table o io)

in_all_covers : (c : Cover) → In c all_covers
in_all_covers ReadKey = inl refl
in_all_covers ReadGap = inr (inl refl)
in_all_covers ChangedKey = inr (inr (inl refl))

-- What was read on a ghost is protected on the next name by who inherits.
abbrev pub Inherits : GhostProtocol → Purges → Type 0
Inherits p Unlocked = Unit {0}
Inherits p (Inherit heir) = (h n : ℕ) → IsMode p.table h → n ≤ p.table.count → (serves p ReadKey h || serves p ReadGap h) ≡ true → Serves p ReadGap (mode_inherited p heir h n)

-- What the cases say of the modes after each request.
pub record Covered (p : GhostProtocol) : Type 0 where
  pub convert : (c : Cover) (h q : ℕ) → IsMode p.table h → IsMode p.table q → Serves p c h → Serves p c (p.table.convert h q)
  pub hit : (o : ℕ) → o ≤ p.table.count → Serves p ReadKey (mode_after p.table o (current p row.FetchHit))
  pub miss : (o : ℕ) → o ≤ p.table.count → Serves p ReadGap (mode_after p.table o (next p row.FetchMiss))
  pub look_key : (o : ℕ) → o ≤ p.table.count → Serves p ReadKey (mode_after p.table o (current p row.ScanKey))
  pub look_gap : (o : ℕ) → o ≤ p.table.count → Serves p ReadGap (mode_after p.table o (current p row.ScanKey))
  pub stop : (o : ℕ) → o ≤ p.table.count → Serves p ReadGap (mode_after p.table o (next p row.ScanStop))
  pub insert : (n : ℕ) → n ≤ p.table.count → Serves p ChangedKey (mode_on_new p n)
  pub split : (n : ℕ) → n ≤ p.table.count → Serves p ReadGap n → Serves p ReadGap (mode_on_new p n)
  pub delete : (o : ℕ) → o ≤ p.table.count → Serves p ChangedKey (mode_after p.table o (current p row.Delete))
  pub update : p.table.updates ≡ true → (o : ℕ) → o ≤ p.table.count → Serves p ChangedKey (mode_after p.table o (current p row.Update))
  pub revive : (o : ℕ) → o ≤ p.table.count → Serves p ChangedKey (mode_after p.table o p.revive)
  pub inherits : Inherits p p.purges
  pub insert_hit : (o : ℕ) → o ≤ p.table.count → Serves p ReadKey (mode_after p.table o (step.vain p vain.InsertHit))
  pub delete_miss : (o : ℕ) → o ≤ p.table.count → Serves p ReadGap (mode_after p.table o (step.vain p vain.DeleteMiss))
  pub update_miss : p.table.updates ≡ true → (o : ℕ) → o ≤ p.table.count → Serves p ReadGap (mode_after p.table o (step.vain p vain.UpdateMiss))

module _ (p : GhostProtocol) (cov : IsCoveredGhost p) where
  converted : (c : Cover) (h q : ℕ) → IsMode p.table h → IsMode p.table q → Serves p c h → Serves p c (p.table.convert h q)
  converted c h q ih iq s =
      let k = case Conversion c (origin.Conversion h q) (serves p c h) (p.table.convert h q) in
      case_holds p cov Conversion k
      (in_flat_map (conversions p) c k all_covers (in_all_covers c)
      (in_two (λ h q. case Conversion c (origin.Conversion h q) (serves p c h) (p.table.convert h q)) h q (modes p.table) (modes p.table) (in_modes p.table h ih) (in_modes p.table q iq)))
      s

  looked_key : (o : ℕ) → o ≤ p.table.count → Serves p ReadKey (mode_after p.table o (current p row.ScanKey))
  looked_key o io =
      let k = case ScanName ReadKey (origin.Own o) true (mode_after p.table o (current p row.ScanKey)) in
      case_holds p cov ScanName k (in_left k (covers p ScanName ReadKey (current p row.ScanKey)) (covers p ScanName ReadGap (current p row.ScanKey))
      (in_covers p ScanName ReadKey (current p row.ScanKey) o io)) refl

  looked_gap : (o : ℕ) → o ≤ p.table.count → Serves p ReadGap (mode_after p.table o (current p row.ScanKey))
  looked_gap o io =
      let k = case ScanName ReadGap (origin.Own o) true (mode_after p.table o (current p row.ScanKey)) in
      case_holds p cov ScanName k (in_right k (covers p ScanName ReadKey (current p row.ScanKey)) (covers p ScanName ReadGap (current p row.ScanKey))
      (in_covers p ScanName ReadGap (current p row.ScanKey) o io)) refl

  updated : p.table.updates ≡ true → (o : ℕ) → o ≤ p.table.count → Serves p ChangedKey (mode_after p.table o (current p row.Update))
  updated up o io =
      let k = case Update ChangedKey (origin.Own o) true (mode_after p.table o (current p row.Update)) in
      case_holds p cov Update k (subst (λ b. In k (if b then covers p Update ChangedKey (current p row.Update) else [])) (sym up) (in_covers p Update ChangedKey (current p row.Update) o io)) refl

  inherited : (x : Purges) → x ≡ p.purges → Inherits p x
  inherited Unlocked e = tt
  inherited (Inherit heir) e = λ h n ih io s.
      let k = case Heir ReadGap (origin.Conversion n h) (serves p ReadKey h || serves p ReadGap h) (mode_inherited p heir h n) in
      case_holds p cov Heir k
      (subst (λ x. In k (heirs p x)) e
      (in_two (λ h n. case Heir ReadGap (origin.Conversion n h) (serves p ReadKey h || serves p ReadGap h) (mode_inherited p heir h n)) h n (modes p.table)
      (modes_or_none p.table) (in_modes p.table h ih) (in_modes_or_none p.table n io)))
      s

  after_hit : (o : ℕ) → o ≤ p.table.count → Serves p ReadKey (mode_after p.table o (current p row.FetchHit))
  after_hit o io = case_holds p cov FetchHit (case FetchHit ReadKey (origin.Own o) true (mode_after p.table o (current p row.FetchHit))) (in_covers p FetchHit ReadKey (current p row.FetchHit) o io) refl

  after_miss : (o : ℕ) → o ≤ p.table.count → Serves p ReadGap (mode_after p.table o (next p row.FetchMiss))
  after_miss o io = case_holds p cov FetchMiss (case FetchMiss ReadGap (origin.Own o) true (mode_after p.table o (next p row.FetchMiss))) (in_covers p FetchMiss ReadGap (next p row.FetchMiss) o io) refl

  -- A vain step leaves what a fetch does, or what the case of its row says.
  after_vain : (v : Vain) (r : Rule) (c : Cover) (o : ℕ) → Serves p c (mode_after p.table o (as_fetch p v))
      → ((asked : Option (ℕ × Span)) → p.vain v ≡ Some asked → In (case r c (origin.Own o) true (mode_after p.table o (step.vain p v))) (cases_of p r))
      → Serves p c (mode_after p.table o (step.vain p v))
  after_vain v r c o fetch case_of = by (p.vain v) refl
    where
      by : (asked : Option (Option (ℕ × Span))) → p.vain v ≡ asked → Serves p c (mode_after p.table o (step.vain p v))
      by None is = subst (λ x. Serves p c (mode_after p.table o (unwrap_or x (as_fetch p v)))) (sym is) fetch
      by (Some asked) is = case_holds p cov r (case r c (origin.Own o) true (mode_after p.table o (step.vain p v))) (case_of asked is) refl

  -- Where the table has the row, its cases are cases.
  in_row : (v : Vain) (r : Rule) (c : Cover) (o : ℕ) → o ≤ p.table.count → (asked : Option (ℕ × Span)) → p.vain v ≡ Some asked
      → In (case r c (origin.Own o) true (mode_after p.table o (step.vain p v))) (if_row p v (covers p r c (step.vain p v)))
  in_row v r c o io asked is =
      subst (λ x. In (case r c (origin.Own o) true (mode_after p.table o (step.vain p v))) (if is_some x then covers p r c (step.vain p v) else [])) (sym is) (in_covers p r c (step.vain p v) o io)

  update_missed : p.table.updates ≡ true → (o : ℕ) → o ≤ p.table.count → Serves p ReadGap (mode_after p.table o (step.vain p vain.UpdateMiss))
  update_missed up o io =
      let k = case UpdateMiss ReadGap (origin.Own o) true (mode_after p.table o (step.vain p vain.UpdateMiss)) in
      after_vain vain.UpdateMiss UpdateMiss ReadGap o (after_miss o io)
      (λ asked is. subst (λ b. In k (if b then if_row p vain.UpdateMiss (covers p UpdateMiss ReadGap (step.vain p vain.UpdateMiss)) else [])) (sym up) (in_row vain.UpdateMiss UpdateMiss ReadGap o io asked is))

  -- A table of which all cases hold has all these modes.
  pub covered : Covered p
  covered = record {
    convert = converted;
    hit = after_hit;
    miss = after_miss;
    look_key = looked_key;
    look_gap = looked_gap;
    stop = λ o io. case_holds p cov ScanStop (case ScanStop ReadGap (origin.Own o) true (mode_after p.table o (next p row.ScanStop))) (in_covers p ScanStop ReadGap (next p row.ScanStop) o io) refl;
    insert =
        λ n io. case_holds p cov Insert (case Insert ChangedKey (origin.Insert n 0) true (mode_on_new p n))
        (in_map (λ n. case Insert ChangedKey (origin.Insert n 0) true (mode_on_new p n)) n (modes_or_none p.table) (in_modes_or_none p.table n io)) refl;
    split =
        λ n io s. case_holds p cov Split (case Split ReadGap (origin.Insert n 0) (serves p ReadGap n) (mode_on_new p n))
        (in_map (λ n. case Split ReadGap (origin.Insert n 0) (serves p ReadGap n) (mode_on_new p n)) n (modes_or_none p.table) (in_modes_or_none p.table n io)) s;
    delete =
        λ o io. case_holds p cov Delete (case Delete ChangedKey (origin.Own o) true (mode_after p.table o (current p row.Delete))) (in_covers p Delete ChangedKey (current p row.Delete) o io) refl;
    update = updated;
    revive = λ o io. case_holds p cov Revive (case Revive ChangedKey (origin.Own o) true (mode_after p.table o p.revive)) (in_covers p Revive ChangedKey p.revive o io) refl;
    inherits = inherited p.purges refl;
    insert_hit = λ o io. after_vain vain.InsertHit InsertHit ReadKey o (after_hit o io) (in_row vain.InsertHit InsertHit ReadKey o io);
    delete_miss = λ o io. after_vain vain.DeleteMiss DeleteMiss ReadGap o (after_miss o io) (in_row vain.DeleteMiss DeleteMiss ReadGap o io);
    update_miss = update_missed;
  }

-- In which modes a lock with nothing to protect may be on an absent key: beside a lock that protects the key as inserted every such lock has one of them, so it may be there when that insert is undone.
use Rattle.std.proofs.Common.{ℕ, ◌≤◌, ◌<◌, ◌≡◌, ◌⊎◌, inl, inr, ⊎_elim, refl, sym, ap, ◌∙◌, Bool, true, false, true≢false, arith}
use Rattle.std.specs.Prelude.{not, ◌||◌, Option, Some, None}
use Rattle.kr_model.specs.declared.Row.{Row}
use Rattle.kr_model.specs.declared.Row.TheVariants.{FetchHit, FetchMiss, ScanKey, ScanStop, Insert, Delete, Update}
use Rattle.kr_model.specs.declared.Side.{Side}
use Rattle.kr_model.specs.declared.Side.TheVariants.{Current, Next}
use Rattle.kr_model.specs.declared.Span.{Span}
use Rattle.kr_model.specs.declared.Span.TheVariants.{Instant, Commit}
use Rattle.kr_model.specs.declared.KeyUse.{KeyUse}
use Rattle.kr_model.specs.declared.KeyUse.TheVariants.{Free as KeyFree, Read as KeyRead, Updated as KeyUpdated, Inserted as KeyInserted}
use Rattle.kr_model.specs.declared.GapUse.{GapUse}
use Rattle.kr_model.specs.declared.GapUse.TheVariants.{Free as GapFree, Read as GapRead, Deleted as GapDeleted}
use Rattle.kr_model.specs.declared.LockState.{LockState}
use Rattle.kr_model.specs.Protocol.{Protocol, IsLawful, IsMode}
use Rattle.kr_model.specs.Covers.{mode_after, conflicts_with}
use Rattle.kr_model.specs.Safe.{free, IsIdle, by_key, by_gap, and_read, and_updated, and_gap, given, asked, after, MayBeOnAbsent, MayAsk, MayBeside, is_blocked, Beside, start, turn, leave, move, IsSafe}
use Rattle.kr_model.proofs.Keep.{kept_mode}
use Rattle.kr_theorem.proofs.safe.Range.{beside_range}

-- No request is blocked where no lock is held.
pub free_open : (p : Protocol) → IsLawful p → (r : Row) (s : Side) (x n : LockState) → x.mode ≤ p.count → given r s x n ≤ p.count → is_blocked p r s x n free ≡ false
free_open p laws r s x n io in_given = by (asked p r s x n) (λ q span e. laws.ask-mode r s (given r s x n) q span in_given e)
  where
    by : (a : Option (ℕ × Span)) → ((q : ℕ) (span : Span) → a ≡ Some (q, span) → IsMode p q) → conflicts_with p 0 x.mode a ≡ false
    by None mode = refl
    by (Some (q, span)) mode =
        let i = mode q span refl in
        let c = kept_mode p x.mode q laws io i.some i.in_range in
        ap not (laws.ok-none_held (p.convert x.mode q) c.in_range)

-- So where no lock is held a delete is granted.
pub none_on_absent : (p : Protocol) → IsLawful p → MayBeOnAbsent p 0
none_on_absent p laws = inl (record { own = 0; next = 0; own_within = omega arith; next_within = omega arith; granted = free_open p laws Delete Current free free (omega arith) (omega arith) })

-- Where a key is protected as inserted a lock is held: it has to block a fetch of the key.
inserted_some : (p : Protocol) → IsLawful p → IsSafe p → (y : LockState) → Beside p free y → y.key ≡ KeyInserted → 0 < y.mode
inserted_some p laws safe y b e = ⊎_elim (λ z. absurd (true≢false (sym blocked ∙ ap (λ h. conflicts_with p h 0 (p.ask FetchHit Current 0)) z ∙ free_open p laws FetchHit Current free free (omega arith) (omega arith)))) (λ z. z) (zero_or_more y.mode)
  where
    blocked : is_blocked p FetchHit Current free free y ≡ true
    blocked = safe FetchHit Current free y free b start refl (ap (λ k. by_key k FetchHit Current || by_gap y.gap FetchHit Current) e)

    zero_or_more : (n : ℕ) → (n ≡ 0) ⊎ (0 < n)
    zero_or_more n = grind arith

-- Beside a lock x that protects the key as inserted, the lock y may be on the key once it is absent, if it has nothing to protect.
abbrev MayOutlive : Protocol → LockState → LockState → Type 0
MayOutlive p x y = x.key ≡ KeyInserted → IsIdle y → y.deleted ≡ false → MayBeOnAbsent p y.mode

-- Only an insert makes a key one that is protected as inserted.
unread : (k : KeyUse) → and_read k ≡ KeyInserted → k ≡ KeyInserted
unread KeyFree e = absurd (cc)
unread KeyRead e = absurd (cc)
unread KeyUpdated e = absurd (cc)
unread KeyInserted e = refl

unupdated : (k : KeyUse) → and_updated k ≡ KeyInserted → k ≡ KeyInserted
unupdated KeyFree e = absurd (cc)
unupdated KeyRead e = absurd (cc)
unupdated KeyUpdated e = absurd (cc)
unupdated KeyInserted e = refl

beside_mover : (p : Protocol) (r : Row) (s : Side) (x y n : LockState) → MayBeside p r s y → MayOutlive p x y → MayOutlive p (after p r s x n) y
beside_mover p FetchHit Current x y n mb old e idle kept = old (unread x.key e) idle kept
beside_mover p FetchHit Next x y n mb old e idle kept = old e idle kept
beside_mover p FetchMiss Current x y n mb old e idle kept = old e idle kept
beside_mover p FetchMiss Next x y n mb old e idle kept = old e idle kept
beside_mover p ScanKey Current x y n mb old e idle kept = old (unread x.key e) idle kept
beside_mover p ScanKey Next x y n mb old e idle kept = old e idle kept
beside_mover p ScanStop Current x y n mb old e idle kept = old e idle kept
beside_mover p ScanStop Next x y n mb old e idle kept = old e idle kept
beside_mover p Insert Current x y n mb old e idle kept = mb.2
beside_mover p Insert Next x y n mb old e idle kept = old e idle kept
beside_mover p Delete Current x y n mb old e idle kept = old e idle kept
beside_mover p Delete Next x y n mb old e idle kept = old e idle kept
beside_mover p Update Current x y n mb old e idle kept = old (unupdated x.key e) idle kept
beside_mover p Update Next x y n mb old e idle kept = old e idle kept

-- After any request but an insert's on the next name the lock has something to protect, or its transaction has deleted the key.
read_used : (k : KeyUse) → and_read k ≡ KeyFree → ⊥
read_used KeyFree e = cc
read_used KeyRead e = cc
read_used KeyUpdated e = cc
read_used KeyInserted e = cc

updated_used : (k : KeyUse) → and_updated k ≡ KeyFree → ⊥
updated_used KeyFree e = cc
updated_used KeyRead e = cc
updated_used KeyUpdated e = cc
updated_used KeyInserted e = cc

gap_used : (g : GapUse) → and_gap g GapRead ≡ GapFree → ⊥
gap_used GapFree e = cc
gap_used GapRead e = cc
gap_used GapDeleted e = cc

pub inserted_used : KeyInserted ≡ KeyFree → ⊥
inserted_used e = cc

deleted_used : GapDeleted ≡ GapFree → ⊥
deleted_used e = cc

module _ (p : Protocol) (laws : IsLawful p) (safe : IsSafe p) where
  -- The mode that an insert leaves on the next name is the one before, or compatible with that of the lock beside it.
  split_beside : (x y : LockState) → Beside p x y → y.key ≡ KeyInserted → MayBeOnAbsent p x.mode → (a : Option (ℕ × Span)) → conflicts_with p y.mode x.mode a ≡ false → MayBeOnAbsent p (mode_after p x.mode a)
  split_beside x y b e old None passes = old
  split_beside x y b e old (Some (q, Instant)) passes = old
  split_beside x y b e old (Some (q, Commit)) passes =
      let z = beside_range p laws x y b in
      inr (record { held = y.mode; some = inserted_some p laws safe y (leave x y b) e; within = z.1; granted = by (p.ok (p.convert x.mode q) y.mode) passes })
    where
      by : (c : Bool) → not c ≡ false → c ≡ true
      by true h = refl
      by false h = absurd (cc)

  mover_beside : (r : Row) (s : Side) (x y n : LockState) → Beside p x y → MayAsk p r s x n → is_blocked p r s x n y ≡ false → MayOutlive p y x → MayOutlive p y (after p r s x n)
  mover_beside FetchHit Current x y n b may passes old e idle kept = absurd (read_used x.key idle.key)
  mover_beside FetchHit Next x y n b may passes old e idle kept = absurd may
  mover_beside FetchMiss Current x y n b may passes old e idle kept = absurd may
  mover_beside FetchMiss Next x y n b may passes old e idle kept = absurd (gap_used x.gap idle.gap)
  mover_beside ScanKey Current x y n b may passes old e idle kept = absurd (read_used x.key idle.key)
  mover_beside ScanKey Next x y n b may passes old e idle kept = absurd may
  mover_beside ScanStop Current x y n b may passes old e idle kept = absurd may
  mover_beside ScanStop Next x y n b may passes old e idle kept = absurd (gap_used x.gap idle.gap)
  mover_beside Insert Current x y n b may passes old e idle kept = absurd (inserted_used idle.key)
  mover_beside Insert Next x y n b may passes old e idle kept = split_beside x y b e (old e (record { key = idle.key; gap = idle.gap }) may) (p.ask Insert Next x.mode) passes
  mover_beside Delete Current x y n b may passes old e idle kept = absurd (true≢false kept)
  mover_beside Delete Next x y n b may passes old e idle kept = absurd (deleted_used idle.gap)
  mover_beside Update Current x y n b may passes old e idle kept = absurd (updated_used x.key idle.key)
  mover_beside Update Next x y n b may passes old e idle kept = absurd may

  none_outlives : (x : LockState) → MayOutlive p x free
  none_outlives x e idle kept = none_on_absent p laws

  both_outlive : (x y : LockState) → Beside p x y → MayOutlive p x y × MayOutlive p y x
  both_outlive _ _ start = (none_outlives free, none_outlives free)
  both_outlive _ _ (turn x y b) = let z = both_outlive x y b in (z.1, z.0)
  both_outlive _ _ (leave x y b) = ((λ e idle kept. absurd (inserted_used (sym e))), none_outlives y)
  both_outlive _ _ (move r s x y n b reached may mb passes) = let z = both_outlive x y b in (beside_mover p r s x y n mb z.0, mover_beside r s x y n b may passes z.1)

  -- Beside a lock that protects a key as inserted, one with nothing to protect may be on the key once it is absent.
  pub beside_inserted : (x y : LockState) → Beside p x y → y.key ≡ KeyInserted → IsIdle x → x.deleted ≡ false → MayBeOnAbsent p x.mode
  beside_inserted x y b = let z = both_outlive x y b in z.1

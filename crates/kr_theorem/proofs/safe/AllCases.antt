-- A protocol of which all cases hold is safe: in each reachable lock state the mode serves what it has to protect.
use Rattle.std.proofs.Common.{ℕ, ◌≤◌, ◌≡◌, ◌⊎◌, inl, inr, ⊎_elim, refl, ap, Bool, true, false, subst, arith}
use Rattle.std.specs.Prelude.{not, ◌||◌, [], ◌∷◌, Option, Some, None}
use Rattle.kr_model.specs.declared.Row.{Row}
use Rattle.kr_model.specs.declared.Row.TheVariants.{FetchHit, FetchMiss, ScanKey, ScanStop, Insert, Delete, Update}
use Rattle.kr_model.specs.declared.Side.{Side}
use Rattle.kr_model.specs.declared.Side.TheVariants.{Current, Next}
use Rattle.kr_model.specs.declared.Span.{Span}
use Rattle.kr_model.specs.declared.Span.TheVariants.{Instant, Commit}
use Rattle.kr_model.specs.declared.Cover.{Cover}
use Rattle.kr_model.specs.declared.Cover.TheVariants.{ReadKey, ReadGap, InsertedKey, DeletedGap, UpdatedKey}
use Rattle.kr_model.specs.Protocol.{Protocol, IsLawful, IsMode, MovesNoKey}
use Rattle.kr_model.specs.Covers.{IsCovered, mode_after, conflicts_with}
use Rattle.kr_model.proofs.Guarantees.{Serves, Conflicts, conflicts_current, conflicts_next, in_updating, after_fetch_hit, after_fetch_miss, after_insert, after_split, after_delete, after_scan_key, after_scan_stop, after_update}
use Rattle.kr_theorem.proofs.safe.Converted.{converted_serves}
use Rattle.kr_theorem.proofs.safe.Range.{given_range, asks_mode, after_range}
use Rattle.kr_theorem.proofs.step.Covers.{in_updated}
use Rattle.kr_model.specs.declared.KeyUse.{KeyUse}
use Rattle.kr_model.specs.declared.KeyUse.TheVariants.{Free as KeyFree, Read as KeyRead, Updated as KeyUpdated, Inserted as KeyInserted}
use Rattle.kr_model.specs.declared.GapUse.{GapUse}
use Rattle.kr_model.specs.declared.GapUse.TheVariants.{Free as GapFree, Read as GapRead, Deleted as GapDeleted}
use Rattle.kr_model.specs.declared.LockState.{LockState}
use Rattle.kr_model.specs.Safe.{free, by_key, by_gap, given, asked, and_read, and_updated, and_gap, key_after, gap_after, after, MayAsk, Beside, start, turn, leave, move, IsSafe}

-- The mode serves what has to be protected.
abbrev pub KeyServed : Protocol → KeyUse → ℕ → Type 0
KeyServed p KeyFree h = Unit {0}
KeyServed p KeyRead h = Serves p ReadKey h
KeyServed p KeyUpdated h = (p.updates ≡ true) × Serves p UpdatedKey h
KeyServed p KeyInserted h = Serves p InsertedKey h

abbrev pub GapServed : Protocol → GapUse → ℕ → Type 0
GapServed p GapFree h = Unit {0}
GapServed p GapRead h = Serves p ReadGap h
GapServed p GapDeleted h = Serves p DeletedGap h

pub record Served (p : Protocol) (x : LockState) : Type 0 where
  pub range : x.mode ≤ p.count
  pub key : KeyServed p x.key x.mode
  pub gap : GapServed p x.gap x.mode

-- More to protect --

read_too : (p : Protocol) (k : KeyUse) (m : ℕ) → KeyServed p k m → Serves p ReadKey m → KeyServed p (and_read k) m
read_too p KeyFree m old new = new
read_too p KeyRead m old new = new
read_too p KeyUpdated m old new = old
read_too p KeyInserted m old new = old

update_too : (p : Protocol) (k : KeyUse) (m : ℕ) → KeyServed p k m → (p.updates ≡ true) × Serves p UpdatedKey m → KeyServed p (and_updated k) m
update_too p KeyFree m old new = new
update_too p KeyRead m old new = new
update_too p KeyUpdated m old new = new
update_too p KeyInserted m old new = old

gap_too : (p : Protocol) (g h : GapUse) (m : ℕ) → GapServed p g m → GapServed p h m → GapServed p (and_gap g h) m
gap_too p GapFree h m old new = new
gap_too p GapRead GapFree m old new = old
gap_too p GapRead GapRead m old new = old
gap_too p GapRead GapDeleted m old new = new
gap_too p GapDeleted h m old new = old

module _ (p : Protocol) (laws : IsLawful p) (cov : IsCovered p) where
  -- Each move --

  -- What was served stays served.
  kept : (c : Cover) (o : ℕ) (a : Option (ℕ × Span)) → ((q : ℕ) (span : Span) → a ≡ Some (q, span) → IsMode p q) → o ≤ p.count → Serves p c o → Serves p c (mode_after p o a)
  kept c o None mode le sv = sv
  kept c o (Some (q, Instant)) mode le sv = sv
  kept c o (Some (q, Commit)) mode le sv = converted_serves p laws cov c o q le (mode q Commit refl) sv

  module _ (x n : LockState) (xs : Served p x) (ns : Served p n) where
    still : (r : Row) (s : Side) (c : Cover) → Serves p c x.mode → Serves p c (mode_after p x.mode (asked p r s x n))
    still r s c sv = kept c x.mode (asked p r s x n) (asks_mode p laws r s x n xs.range ns.range) xs.range sv

    key_still : (r : Row) (s : Side) (k : KeyUse) → KeyServed p k x.mode → KeyServed p k (mode_after p x.mode (asked p r s x n))
    key_still r s KeyFree sv = tt
    key_still r s KeyRead sv = still r s ReadKey sv
    key_still r s KeyUpdated sv = (sv.0, still r s UpdatedKey sv.1)
    key_still r s KeyInserted sv = still r s InsertedKey sv

    gap_still : (r : Row) (s : Side) (g : GapUse) → GapServed p g x.mode → GapServed p g (mode_after p x.mode (asked p r s x n))
    gap_still r s GapFree sv = tt
    gap_still r s GapRead sv = still r s ReadGap sv
    gap_still r s GapDeleted sv = still r s DeletedGap sv

    split : (h : GapUse) → GapServed p h n.mode → GapServed p h (mode_after p x.mode (p.ask Insert Current n.mode))
    split GapFree sv = tt
    split GapRead sv = after_split p cov ReadGap (inl refl) n.mode x.mode ns.range xs.range sv
    split GapDeleted sv = after_split p cov DeletedGap (inr (inl refl)) n.mode x.mode ns.range xs.range sv

    key_moved : (r : Row) (s : Side) → MayAsk p r s x n → KeyServed p (key_after r s x.key) (mode_after p x.mode (asked p r s x n))
    key_moved FetchHit Current may = read_too p x.key (mode_after p x.mode (p.ask FetchHit Current 0)) (key_still FetchHit Current x.key xs.key) (after_fetch_hit p cov x.mode xs.range)
    key_moved FetchHit Next may = key_still FetchHit Next x.key xs.key
    key_moved FetchMiss Current may = key_still FetchMiss Current x.key xs.key
    key_moved FetchMiss Next may = key_still FetchMiss Next x.key xs.key
    key_moved ScanKey Current may = read_too p x.key (mode_after p x.mode (p.ask ScanKey Current 0)) (key_still ScanKey Current x.key xs.key) (after_scan_key p cov ReadKey (inl refl) x.mode xs.range)
    key_moved ScanKey Next may = key_still ScanKey Next x.key xs.key
    key_moved ScanStop Current may = key_still ScanStop Current x.key xs.key
    key_moved ScanStop Next may = key_still ScanStop Next x.key xs.key
    key_moved Insert Current may = after_insert p cov n.mode x.mode ns.range xs.range
    key_moved Insert Next may = key_still Insert Next x.key xs.key
    key_moved Delete Current may = key_still Delete Current x.key xs.key
    key_moved Delete Next may = key_still Delete Next x.key xs.key
    key_moved Update Current may = update_too p x.key (mode_after p x.mode (p.ask Update Current 0)) (key_still Update Current x.key xs.key) (may.1, after_update p cov may.1 x.mode xs.range)
    key_moved Update Next may = key_still Update Next x.key xs.key

    gap_moved : (r : Row) (s : Side) → MayAsk p r s x n → GapServed p (gap_after r s x.gap n.gap) (mode_after p x.mode (asked p r s x n))
    gap_moved FetchHit Current may = gap_still FetchHit Current x.gap xs.gap
    gap_moved FetchHit Next may = gap_still FetchHit Next x.gap xs.gap
    gap_moved FetchMiss Current may = gap_still FetchMiss Current x.gap xs.gap
    gap_moved FetchMiss Next may = gap_too p x.gap GapRead (mode_after p x.mode (p.ask FetchMiss Next 0)) (gap_still FetchMiss Next x.gap xs.gap) (after_fetch_miss p cov x.mode xs.range)
    gap_moved ScanKey Current may = gap_too p x.gap GapRead (mode_after p x.mode (p.ask ScanKey Current 0)) (gap_still ScanKey Current x.gap xs.gap) (after_scan_key p cov ReadGap (inr (inl refl)) x.mode xs.range)
    gap_moved ScanKey Next may = gap_still ScanKey Next x.gap xs.gap
    gap_moved ScanStop Current may = gap_still ScanStop Current x.gap xs.gap
    gap_moved ScanStop Next may = gap_too p x.gap GapRead (mode_after p x.mode (p.ask ScanStop Next 0)) (gap_still ScanStop Next x.gap xs.gap) (after_scan_stop p cov x.mode xs.range)
    gap_moved Insert Current may = gap_too p x.gap n.gap (mode_after p x.mode (p.ask Insert Current n.mode)) (gap_still Insert Current x.gap xs.gap) (split n.gap ns.gap)
    gap_moved Insert Next may = gap_still Insert Next x.gap xs.gap
    gap_moved Delete Current may = gap_still Delete Current x.gap xs.gap
    gap_moved Delete Next may = after_delete p cov x.mode xs.range
    gap_moved Update Current may = gap_still Update Current x.gap xs.gap
    gap_moved Update Next may = gap_still Update Next x.gap xs.gap

    moved : (r : Row) (s : Side) → MayAsk p r s x n → Served p (after p r s x n)
    moved r s may = record { range = after_range p laws x.mode (asked p r s x n) (asks_mode p laws r s x n xs.range ns.range) xs.range; key = key_moved r s may; gap = gap_moved r s may }

  -- Each reachable lock state is served --

  both : (x y : LockState) → Beside p x y → Served p x × Served p y
  both _ _ start = (record { range = omega arith; key = tt; gap = tt }, record { range = omega arith; key = tt; gap = tt })
  both _ _ (turn x y b) = let z = both x y b in (z.1, z.0)
  both _ _ (leave x y b) = let z = both x y b in (record { range = omega arith; key = tt; gap = tt }, z.1)
  both _ _ (move r s x y n b reached may mb passes) = let z = both x y b in let v = both n free reached in (moved x n z.0 v.0 r s may, z.1)

  -- So it blocks whom it must --

  true_of : (h o : ℕ) (a : Option (ℕ × Span)) → Conflicts p h o a → conflicts_with p h o a ≡ true
  true_of h o None c = absurd c
  true_of h o (Some (q, span)) c = ap not c

  alike : (r : Row) (s : Side) (x y : LockState) → MovesNoKey r → x.mode ≤ p.count → Conflicts p y.mode x.mode (p.ask r s x.mode) → Conflicts p y.mode x.mode (p.ask r s 0)
  alike r s x y no_move le c = subst (λ z. Conflicts p y.mode x.mode z) (laws.ask-no_move r s x.mode no_move le) c

  no : false ≡ true → ⊥
  no e = cc

  module _ (x y n : LockState) (xs : Served p x) (ns : Served p n) where
    for_key : (r : Row) (s : Side) → MayAsk p r s x n → (k : KeyUse) → KeyServed p k y.mode → by_key k r s ≡ true → Conflicts p y.mode x.mode (asked p r s x n)
    for_key FetchHit Current may KeyFree sv out = absurd (no out)
    for_key FetchHit Current may KeyRead sv out = absurd (no out)
    for_key FetchHit Current may KeyUpdated sv out = conflicts_current p UpdatedKey y.mode FetchHit sv.1 (in_updated p (FetchHit, Current) sv.0 (inl refl)) x.mode (given FetchHit Current x n) xs.range (given_range p FetchHit Current x n xs.range ns.range)
    for_key FetchHit Current may KeyInserted sv out = conflicts_current p InsertedKey y.mode FetchHit sv (inl refl) x.mode (given FetchHit Current x n) xs.range (given_range p FetchHit Current x n xs.range ns.range)
    for_key FetchHit Next may KeyFree sv out = absurd (no out)
    for_key FetchHit Next may KeyRead sv out = absurd (no out)
    for_key FetchHit Next may KeyUpdated sv out = absurd (no out)
    for_key FetchHit Next may KeyInserted sv out = absurd (no out)
    for_key FetchMiss Current may KeyFree sv out = absurd (no out)
    for_key FetchMiss Current may KeyRead sv out = absurd (no out)
    for_key FetchMiss Current may KeyUpdated sv out = absurd (no out)
    for_key FetchMiss Current may KeyInserted sv out = absurd (no out)
    for_key FetchMiss Next may KeyFree sv out = absurd (no out)
    for_key FetchMiss Next may KeyRead sv out = absurd (no out)
    for_key FetchMiss Next may KeyUpdated sv out = absurd (no out)
    for_key FetchMiss Next may KeyInserted sv out = alike FetchMiss Next x y tt xs.range (conflicts_next p InsertedKey y.mode FetchMiss sv (inr (inl refl)) x.mode xs.range)
    for_key ScanKey Current may KeyFree sv out = absurd (no out)
    for_key ScanKey Current may KeyRead sv out = absurd (no out)
    for_key ScanKey Current may KeyUpdated sv out = conflicts_current p UpdatedKey y.mode ScanKey sv.1 (in_updated p (ScanKey, Current) sv.0 (inr (inl refl))) x.mode (given ScanKey Current x n) xs.range (given_range p ScanKey Current x n xs.range ns.range)
    for_key ScanKey Current may KeyInserted sv out = conflicts_current p InsertedKey y.mode ScanKey sv (inr (inr (inl refl))) x.mode (given ScanKey Current x n) xs.range (given_range p ScanKey Current x n xs.range ns.range)
    for_key ScanKey Next may KeyFree sv out = absurd (no out)
    for_key ScanKey Next may KeyRead sv out = absurd (no out)
    for_key ScanKey Next may KeyUpdated sv out = absurd (no out)
    for_key ScanKey Next may KeyInserted sv out = absurd (no out)
    for_key ScanStop Current may KeyFree sv out = absurd (no out)
    for_key ScanStop Current may KeyRead sv out = absurd (no out)
    for_key ScanStop Current may KeyUpdated sv out = absurd (no out)
    for_key ScanStop Current may KeyInserted sv out = absurd (no out)
    for_key ScanStop Next may KeyFree sv out = absurd (no out)
    for_key ScanStop Next may KeyRead sv out = absurd (no out)
    for_key ScanStop Next may KeyUpdated sv out = absurd (no out)
    for_key ScanStop Next may KeyInserted sv out = alike ScanStop Next x y tt xs.range (conflicts_next p InsertedKey y.mode ScanStop sv (inr (inr (inr (inl refl)))) x.mode xs.range)
    for_key Insert Current may KeyFree sv out = absurd (no out)
    for_key Insert Current may KeyRead sv out = absurd (no out)
    for_key Insert Current may KeyUpdated sv out = absurd (no out)
    for_key Insert Current may KeyInserted sv out = absurd (no out)
    for_key Insert Next may KeyFree sv out = absurd (no out)
    for_key Insert Next may KeyRead sv out = absurd (no out)
    for_key Insert Next may KeyUpdated sv out = absurd (no out)
    for_key Insert Next may KeyInserted sv out = absurd (no out)
    for_key Delete Current may KeyFree sv out = absurd (no out)
    for_key Delete Current may KeyRead sv out = conflicts_current p ReadKey y.mode Delete sv (inl refl) x.mode (given Delete Current x n) xs.range (given_range p Delete Current x n xs.range ns.range)
    for_key Delete Current may KeyUpdated sv out = conflicts_current p UpdatedKey y.mode Delete sv.1 (in_updated p (Delete, Current) sv.0 (inr (inr (inl refl)))) x.mode (given Delete Current x n) xs.range (given_range p Delete Current x n xs.range ns.range)
    for_key Delete Current may KeyInserted sv out = conflicts_current p InsertedKey y.mode Delete sv (inr (inr (inr (inr (inl refl))))) x.mode (given Delete Current x n) xs.range (given_range p Delete Current x n xs.range ns.range)
    for_key Delete Next may KeyFree sv out = absurd (no out)
    for_key Delete Next may KeyRead sv out = absurd (no out)
    for_key Delete Next may KeyUpdated sv out = absurd (no out)
    for_key Delete Next may KeyInserted sv out = conflicts_next p InsertedKey y.mode Delete sv (inr (inr (inr (inr (inr (inl refl)))))) x.mode xs.range
    for_key Update Current may KeyFree sv out = absurd (no out)
    for_key Update Current may KeyRead sv out = conflicts_current p ReadKey y.mode Update sv (inr (in_updating p (Update, Current) ((Update, Current) ∷ []) may.1 (inl refl))) x.mode (given Update Current x n) xs.range (given_range p Update Current x n xs.range ns.range)
    for_key Update Current may KeyUpdated sv out = conflicts_current p UpdatedKey y.mode Update sv.1 (in_updated p (Update, Current) sv.0 (inr (inr (inr (inl refl))))) x.mode (given Update Current x n) xs.range (given_range p Update Current x n xs.range ns.range)
    for_key Update Current may KeyInserted sv out = conflicts_current p InsertedKey y.mode Update sv (inr (inr (inr (inr (inr (inr (in_updating p (Update, Current) ((Update, Current) ∷ []) may.1 (inl refl)))))))) x.mode (given Update Current x n) xs.range (given_range p Update Current x n xs.range ns.range)
    for_key Update Next may KeyFree sv out = absurd (no out)
    for_key Update Next may KeyRead sv out = absurd (no out)
    for_key Update Next may KeyUpdated sv out = absurd (no out)
    for_key Update Next may KeyInserted sv out = absurd (no out)

    for_gap : (r : Row) (s : Side) → MayAsk p r s x n → (g : GapUse) → GapServed p g y.mode → by_gap g r s ≡ true → Conflicts p y.mode x.mode (asked p r s x n)
    for_gap FetchHit Current may GapFree sv out = absurd (no out)
    for_gap FetchHit Current may GapRead sv out = absurd (no out)
    for_gap FetchHit Current may GapDeleted sv out = absurd (no out)
    for_gap FetchHit Next may GapFree sv out = absurd (no out)
    for_gap FetchHit Next may GapRead sv out = absurd (no out)
    for_gap FetchHit Next may GapDeleted sv out = absurd (no out)
    for_gap FetchMiss Current may GapFree sv out = absurd (no out)
    for_gap FetchMiss Current may GapRead sv out = absurd (no out)
    for_gap FetchMiss Current may GapDeleted sv out = absurd (no out)
    for_gap FetchMiss Next may GapFree sv out = absurd (no out)
    for_gap FetchMiss Next may GapRead sv out = absurd (no out)
    for_gap FetchMiss Next may GapDeleted sv out = alike FetchMiss Next x y tt xs.range (conflicts_next p DeletedGap y.mode FetchMiss sv (inl refl) x.mode xs.range)
    for_gap ScanKey Current may GapFree sv out = absurd (no out)
    for_gap ScanKey Current may GapRead sv out = absurd (no out)
    for_gap ScanKey Current may GapDeleted sv out = conflicts_current p DeletedGap y.mode ScanKey sv (inr (inl refl)) x.mode (given ScanKey Current x n) xs.range (given_range p ScanKey Current x n xs.range ns.range)
    for_gap ScanKey Next may GapFree sv out = absurd (no out)
    for_gap ScanKey Next may GapRead sv out = absurd (no out)
    for_gap ScanKey Next may GapDeleted sv out = absurd (no out)
    for_gap ScanStop Current may GapFree sv out = absurd (no out)
    for_gap ScanStop Current may GapRead sv out = absurd (no out)
    for_gap ScanStop Current may GapDeleted sv out = absurd (no out)
    for_gap ScanStop Next may GapFree sv out = absurd (no out)
    for_gap ScanStop Next may GapRead sv out = absurd (no out)
    for_gap ScanStop Next may GapDeleted sv out = alike ScanStop Next x y tt xs.range (conflicts_next p DeletedGap y.mode ScanStop sv (inr (inr (inl refl))) x.mode xs.range)
    for_gap Insert Current may GapFree sv out = absurd (no out)
    for_gap Insert Current may GapRead sv out = absurd (no out)
    for_gap Insert Current may GapDeleted sv out = absurd (no out)
    for_gap Insert Next may GapFree sv out = absurd (no out)
    for_gap Insert Next may GapRead sv out = conflicts_next p ReadGap y.mode Insert sv (inl refl) x.mode xs.range
    for_gap Insert Next may GapDeleted sv out = conflicts_next p DeletedGap y.mode Insert sv (inr (inr (inr (inl refl)))) x.mode xs.range
    for_gap Delete Current may GapFree sv out = absurd (no out)
    for_gap Delete Current may GapRead sv out = conflicts_current p ReadGap y.mode Delete sv (inr (inl refl)) x.mode (given Delete Current x n) xs.range (given_range p Delete Current x n xs.range ns.range)
    for_gap Delete Current may GapDeleted sv out = conflicts_current p DeletedGap y.mode Delete sv (inr (inr (inr (inr (inl refl))))) x.mode (given Delete Current x n) xs.range (given_range p Delete Current x n xs.range ns.range)
    for_gap Delete Next may GapFree sv out = absurd (no out)
    for_gap Delete Next may GapRead sv out = absurd (no out)
    for_gap Delete Next may GapDeleted sv out = conflicts_next p DeletedGap y.mode Delete sv (inr (inr (inr (inr (inr (inl refl)))))) x.mode xs.range
    for_gap Update Current may GapFree sv out = absurd (no out)
    for_gap Update Current may GapRead sv out = absurd (no out)
    for_gap Update Current may GapDeleted sv out = absurd (no out)
    for_gap Update Next may GapFree sv out = absurd (no out)
    for_gap Update Next may GapRead sv out = absurd (no out)
    for_gap Update Next may GapDeleted sv out = absurd (no out)

  either : (a b : Bool) → (a || b) ≡ true → (a ≡ true) ⊎ (b ≡ true)
  either true b h = inl refl
  either false b h = inr h

  pub covered_is_safe : IsSafe p
  covered_is_safe r s x y n b reached may out =
      let z = both x y b in
      let v = both n free reached in
      let ys = z.1 in
      true_of y.mode x.mode (asked p r s x n)
      (⊎_elim (λ e. for_key x y n z.0 v.0 r s may y.key ys.key e) (λ e. for_gap x y n z.0 v.0 r s may y.gap ys.gap e) (either (by_key y.key r s) (by_gap y.gap r s) out))

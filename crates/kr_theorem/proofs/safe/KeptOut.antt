-- What the fixed protocol blocks has to be kept out.
use Rattle.std.proofs.Common.{ℕ, ◌≡◌, inl, inr, refl, true, false, arith}
use Rattle.std.specs.Prelude.{◌||◌}
use Rattle.kr_model.specs.declared.Row.{Row}
use Rattle.kr_model.specs.declared.Row.TheVariants.{FetchHit, FetchMiss, ScanKey, ScanStop, Insert, Delete, Update}
use Rattle.kr_model.specs.declared.Side.{Side}
use Rattle.kr_model.specs.declared.Side.TheVariants.{Current, Next}
use Rattle.kr_model.specs.declared.Cover.TheVariants.{InsertedKey}
use Rattle.kr_model.proofs.Guarantees.{Serves, Conflicts, conflicts_current, conflicts_next}
use Rattle.kr_model.specs.declared.KeyUse.{KeyUse}
use Rattle.kr_model.specs.declared.KeyUse.TheVariants.{Free as KeyFree, Read as KeyRead, Updated as KeyUpdated, Inserted as KeyInserted}
use Rattle.kr_model.specs.declared.GapUse.{GapUse}
use Rattle.kr_model.specs.declared.GapUse.TheVariants.{Free as GapFree, Read as GapRead, Deleted as GapDeleted}
use Rattle.kr_model.specs.Safe.{by_key, by_gap}
use Rattle.kr_theorem.proofs.safe.Shape.{code, shape}

-- No lock has to keep out an insert's request on its own key.
abbrev pub MayKeepOut : Row → Side → Type 0
MayKeepOut Insert Current = ⊥
MayKeepOut _ _ = Unit {0}

no : false ≡ true → ⊥
no e = cc

no' : true ≡ false → ⊥
no' e = cc

-- What a mode of the fixed protocol blocks, the lock state that it stands for has to keep out.
pub kept_out : (r : Row) (s : Side) (on o : ℕ) (k : KeyUse) (g : GapUse) → MayKeepOut r s → Conflicts shape (code k g) o (shape.ask r s on) → (by_key k r s || by_gap g r s) ≡ true
kept_out FetchHit Current on o KeyFree GapFree may h = absurd (no' h)
kept_out FetchHit Current on o KeyFree GapRead may h = absurd (no' h)
kept_out FetchHit Current on o KeyFree GapDeleted may h = absurd (no' h)
kept_out FetchHit Current on o KeyRead GapFree may h = absurd (no' h)
kept_out FetchHit Current on o KeyRead GapRead may h = absurd (no' h)
kept_out FetchHit Current on o KeyRead GapDeleted may h = absurd (no' h)
kept_out FetchHit Current on o KeyUpdated GapFree may h = refl
kept_out FetchHit Current on o KeyUpdated GapRead may h = refl
kept_out FetchHit Current on o KeyUpdated GapDeleted may h = refl
kept_out FetchHit Current on o KeyInserted GapFree may h = refl
kept_out FetchHit Current on o KeyInserted GapRead may h = refl
kept_out FetchHit Current on o KeyInserted GapDeleted may h = refl
kept_out FetchMiss Next on o KeyFree GapFree may h = absurd (no' h)
kept_out FetchMiss Next on o KeyFree GapRead may h = absurd (no' h)
kept_out FetchMiss Next on o KeyFree GapDeleted may h = refl
kept_out FetchMiss Next on o KeyRead GapFree may h = absurd (no' h)
kept_out FetchMiss Next on o KeyRead GapRead may h = absurd (no' h)
kept_out FetchMiss Next on o KeyRead GapDeleted may h = refl
kept_out FetchMiss Next on o KeyUpdated GapFree may h = absurd (no' h)
kept_out FetchMiss Next on o KeyUpdated GapRead may h = absurd (no' h)
kept_out FetchMiss Next on o KeyUpdated GapDeleted may h = refl
kept_out FetchMiss Next on o KeyInserted GapFree may h = refl
kept_out FetchMiss Next on o KeyInserted GapRead may h = refl
kept_out FetchMiss Next on o KeyInserted GapDeleted may h = refl
kept_out ScanKey Current on o KeyFree GapFree may h = absurd (no' h)
kept_out ScanKey Current on o KeyFree GapRead may h = absurd (no' h)
kept_out ScanKey Current on o KeyFree GapDeleted may h = refl
kept_out ScanKey Current on o KeyRead GapFree may h = absurd (no' h)
kept_out ScanKey Current on o KeyRead GapRead may h = absurd (no' h)
kept_out ScanKey Current on o KeyRead GapDeleted may h = refl
kept_out ScanKey Current on o KeyUpdated GapFree may h = refl
kept_out ScanKey Current on o KeyUpdated GapRead may h = refl
kept_out ScanKey Current on o KeyUpdated GapDeleted may h = refl
kept_out ScanKey Current on o KeyInserted GapFree may h = refl
kept_out ScanKey Current on o KeyInserted GapRead may h = refl
kept_out ScanKey Current on o KeyInserted GapDeleted may h = refl
kept_out ScanStop Next on o KeyFree GapFree may h = absurd (no' h)
kept_out ScanStop Next on o KeyFree GapRead may h = absurd (no' h)
kept_out ScanStop Next on o KeyFree GapDeleted may h = refl
kept_out ScanStop Next on o KeyRead GapFree may h = absurd (no' h)
kept_out ScanStop Next on o KeyRead GapRead may h = absurd (no' h)
kept_out ScanStop Next on o KeyRead GapDeleted may h = refl
kept_out ScanStop Next on o KeyUpdated GapFree may h = absurd (no' h)
kept_out ScanStop Next on o KeyUpdated GapRead may h = absurd (no' h)
kept_out ScanStop Next on o KeyUpdated GapDeleted may h = refl
kept_out ScanStop Next on o KeyInserted GapFree may h = refl
kept_out ScanStop Next on o KeyInserted GapRead may h = refl
kept_out ScanStop Next on o KeyInserted GapDeleted may h = refl
kept_out Insert Next on o KeyFree GapFree may h = absurd (no' h)
kept_out Insert Next on o KeyFree GapRead may h = refl
kept_out Insert Next on o KeyFree GapDeleted may h = refl
kept_out Insert Next on o KeyRead GapFree may h = absurd (no' h)
kept_out Insert Next on o KeyRead GapRead may h = refl
kept_out Insert Next on o KeyRead GapDeleted may h = refl
kept_out Insert Next on o KeyUpdated GapFree may h = absurd (no' h)
kept_out Insert Next on o KeyUpdated GapRead may h = refl
kept_out Insert Next on o KeyUpdated GapDeleted may h = refl
kept_out Insert Next on o KeyInserted GapFree may h = absurd (no' h)
kept_out Insert Next on o KeyInserted GapRead may h = refl
kept_out Insert Next on o KeyInserted GapDeleted may h = refl
kept_out Delete Current on o KeyFree GapFree may h = absurd (no' h)
kept_out Delete Current on o KeyFree GapRead may h = refl
kept_out Delete Current on o KeyFree GapDeleted may h = refl
kept_out Delete Current on o KeyRead GapFree may h = refl
kept_out Delete Current on o KeyRead GapRead may h = refl
kept_out Delete Current on o KeyRead GapDeleted may h = refl
kept_out Delete Current on o KeyUpdated GapFree may h = refl
kept_out Delete Current on o KeyUpdated GapRead may h = refl
kept_out Delete Current on o KeyUpdated GapDeleted may h = refl
kept_out Delete Current on o KeyInserted GapFree may h = refl
kept_out Delete Current on o KeyInserted GapRead may h = refl
kept_out Delete Current on o KeyInserted GapDeleted may h = refl
kept_out Delete Next on o KeyFree GapFree may h = absurd (no' h)
kept_out Delete Next on o KeyFree GapRead may h = absurd (no' h)
kept_out Delete Next on o KeyFree GapDeleted may h = refl
kept_out Delete Next on o KeyRead GapFree may h = absurd (no' h)
kept_out Delete Next on o KeyRead GapRead may h = absurd (no' h)
kept_out Delete Next on o KeyRead GapDeleted may h = refl
kept_out Delete Next on o KeyUpdated GapFree may h = absurd (no' h)
kept_out Delete Next on o KeyUpdated GapRead may h = absurd (no' h)
kept_out Delete Next on o KeyUpdated GapDeleted may h = refl
kept_out Delete Next on o KeyInserted GapFree may h = refl
kept_out Delete Next on o KeyInserted GapRead may h = refl
kept_out Delete Next on o KeyInserted GapDeleted may h = refl
kept_out Update Current on o KeyFree GapFree may h = absurd (no' h)
kept_out Update Current on o KeyFree GapRead may h = absurd (no' h)
kept_out Update Current on o KeyFree GapDeleted may h = absurd (no' h)
kept_out Update Current on o KeyRead GapFree may h = refl
kept_out Update Current on o KeyRead GapRead may h = refl
kept_out Update Current on o KeyRead GapDeleted may h = refl
kept_out Update Current on o KeyUpdated GapFree may h = refl
kept_out Update Current on o KeyUpdated GapRead may h = refl
kept_out Update Current on o KeyUpdated GapDeleted may h = refl
kept_out Update Current on o KeyInserted GapFree may h = refl
kept_out Update Current on o KeyInserted GapRead may h = refl
kept_out Update Current on o KeyInserted GapDeleted may h = refl
kept_out FetchHit Next on o k g may h = absurd h
kept_out FetchMiss Current on o k g may h = absurd h
kept_out ScanKey Next on o k g may h = absurd h
kept_out ScanStop Current on o k g may h = absurd h
kept_out Update Next on o k g may h = absurd h
kept_out Insert Current on o k g may h = absurd may

-- A lock that serves as the cover of an inserted key has to keep out whatever that cover must conflict with.
pub inserted_keeps_out : (r : Row) (s : Side) (k : KeyUse) (g : GapUse) → by_key KeyInserted r s ≡ true → Serves shape InsertedKey (code k g) → (by_key k r s || by_gap g r s) ≡ true
inserted_keeps_out FetchHit Current k g listed sv = kept_out FetchHit Current 0 0 k g tt (conflicts_current shape InsertedKey (code k g) FetchHit sv (inl refl) 0 0 (omega arith) (omega arith))
inserted_keeps_out FetchMiss Next k g listed sv = kept_out FetchMiss Next 0 0 k g tt (conflicts_next shape InsertedKey (code k g) FetchMiss sv (inr (inl refl)) 0 (omega arith))
inserted_keeps_out ScanKey Current k g listed sv = kept_out ScanKey Current 0 0 k g tt (conflicts_current shape InsertedKey (code k g) ScanKey sv (inr (inr (inl refl))) 0 0 (omega arith) (omega arith))
inserted_keeps_out ScanStop Next k g listed sv = kept_out ScanStop Next 0 0 k g tt (conflicts_next shape InsertedKey (code k g) ScanStop sv (inr (inr (inr (inl refl)))) 0 (omega arith))
inserted_keeps_out Delete Current k g listed sv = kept_out Delete Current 0 0 k g tt (conflicts_current shape InsertedKey (code k g) Delete sv (inr (inr (inr (inr (inl refl))))) 0 0 (omega arith) (omega arith))
inserted_keeps_out Delete Next k g listed sv = kept_out Delete Next 0 0 k g tt (conflicts_next shape InsertedKey (code k g) Delete sv (inr (inr (inr (inr (inr (inl refl)))))) 0 (omega arith))
inserted_keeps_out Update Current k g listed sv = kept_out Update Current 0 0 k g tt (conflicts_current shape InsertedKey (code k g) Update sv (inr (inr (inr (inr (inr (inr (inl refl))))))) 0 0 (omega arith) (omega arith))
inserted_keeps_out FetchHit Next k g listed sv = absurd (no listed)
inserted_keeps_out FetchMiss Current k g listed sv = absurd (no listed)
inserted_keeps_out ScanKey Next k g listed sv = absurd (no listed)
inserted_keeps_out ScanStop Current k g listed sv = absurd (no listed)
inserted_keeps_out Insert Current k g listed sv = absurd (no listed)
inserted_keeps_out Insert Next k g listed sv = absurd (no listed)
inserted_keeps_out Update Next k g listed sv = absurd (no listed)

-- After a request the fixed protocol's mode blocks all that the requested mode blocks.
use Rattle.std.proofs.Common.{ℕ, ◌≡◌, refl, Bool, true}
use Rattle.std.specs.Prelude.{Option, Some, None}
use Rattle.kr_model.specs.declared.Row.{Row}
use Rattle.kr_model.specs.declared.Row.TheVariants.{FetchHit, FetchMiss, ScanKey, ScanStop, Insert, Delete, Update}
use Rattle.kr_model.specs.declared.Side.{Side}
use Rattle.kr_model.specs.declared.Side.TheVariants.{Current, Next}
use Rattle.kr_model.specs.declared.Span.{Span}
use Rattle.kr_model.specs.declared.KeyUse.{KeyUse}
use Rattle.kr_model.specs.declared.KeyUse.TheVariants.{Free as KeyFree, Read as KeyRead, Updated as KeyUpdated, Inserted as KeyInserted}
use Rattle.kr_model.specs.declared.GapUse.{GapUse}
use Rattle.kr_model.specs.declared.GapUse.TheVariants.{Free as GapFree, Read as GapRead, Deleted as GapDeleted}
use Rattle.kr_model.specs.Safe.{key_after, gap_after}
use Rattle.kr_theorem.proofs.safe.Shape.{code, shape, blocks_all}

-- Whether the mode b blocks all that the requested mode blocks, if one is requested.
abbrev pub ask_within : Option (ℕ × Span) → ℕ → Bool
ask_within None b = true
ask_within (Some (q, span)) b = blocks_all q b

pub gains : (r : Row) (s : Side) (k : KeyUse) (g : GapUse) (j : KeyUse) (h : GapUse) → ask_within (shape.ask r s (code j h)) (code (key_after r s k) (gap_after r s g h)) ≡ true
gains FetchHit Current KeyFree GapFree j h = refl
gains FetchHit Current KeyFree GapRead j h = refl
gains FetchHit Current KeyFree GapDeleted j h = refl
gains FetchHit Current KeyRead GapFree j h = refl
gains FetchHit Current KeyRead GapRead j h = refl
gains FetchHit Current KeyRead GapDeleted j h = refl
gains FetchHit Current KeyUpdated GapFree j h = refl
gains FetchHit Current KeyUpdated GapRead j h = refl
gains FetchHit Current KeyUpdated GapDeleted j h = refl
gains FetchHit Current KeyInserted GapFree j h = refl
gains FetchHit Current KeyInserted GapRead j h = refl
gains FetchHit Current KeyInserted GapDeleted j h = refl
gains FetchHit Next k g j h = refl
gains FetchMiss Current k g j h = refl
gains FetchMiss Next KeyFree GapFree j h = refl
gains FetchMiss Next KeyFree GapRead j h = refl
gains FetchMiss Next KeyFree GapDeleted j h = refl
gains FetchMiss Next KeyRead GapFree j h = refl
gains FetchMiss Next KeyRead GapRead j h = refl
gains FetchMiss Next KeyRead GapDeleted j h = refl
gains FetchMiss Next KeyUpdated GapFree j h = refl
gains FetchMiss Next KeyUpdated GapRead j h = refl
gains FetchMiss Next KeyUpdated GapDeleted j h = refl
gains FetchMiss Next KeyInserted GapFree j h = refl
gains FetchMiss Next KeyInserted GapRead j h = refl
gains FetchMiss Next KeyInserted GapDeleted j h = refl
gains ScanKey Current KeyFree GapFree j h = refl
gains ScanKey Current KeyFree GapRead j h = refl
gains ScanKey Current KeyFree GapDeleted j h = refl
gains ScanKey Current KeyRead GapFree j h = refl
gains ScanKey Current KeyRead GapRead j h = refl
gains ScanKey Current KeyRead GapDeleted j h = refl
gains ScanKey Current KeyUpdated GapFree j h = refl
gains ScanKey Current KeyUpdated GapRead j h = refl
gains ScanKey Current KeyUpdated GapDeleted j h = refl
gains ScanKey Current KeyInserted GapFree j h = refl
gains ScanKey Current KeyInserted GapRead j h = refl
gains ScanKey Current KeyInserted GapDeleted j h = refl
gains ScanKey Next k g j h = refl
gains ScanStop Current k g j h = refl
gains ScanStop Next KeyFree GapFree j h = refl
gains ScanStop Next KeyFree GapRead j h = refl
gains ScanStop Next KeyFree GapDeleted j h = refl
gains ScanStop Next KeyRead GapFree j h = refl
gains ScanStop Next KeyRead GapRead j h = refl
gains ScanStop Next KeyRead GapDeleted j h = refl
gains ScanStop Next KeyUpdated GapFree j h = refl
gains ScanStop Next KeyUpdated GapRead j h = refl
gains ScanStop Next KeyUpdated GapDeleted j h = refl
gains ScanStop Next KeyInserted GapFree j h = refl
gains ScanStop Next KeyInserted GapRead j h = refl
gains ScanStop Next KeyInserted GapDeleted j h = refl
gains Insert Current k GapFree KeyFree GapFree = refl
gains Insert Current k GapFree KeyFree GapRead = refl
gains Insert Current k GapFree KeyFree GapDeleted = refl
gains Insert Current k GapFree KeyRead GapFree = refl
gains Insert Current k GapFree KeyRead GapRead = refl
gains Insert Current k GapFree KeyRead GapDeleted = refl
gains Insert Current k GapFree KeyUpdated GapFree = refl
gains Insert Current k GapFree KeyUpdated GapRead = refl
gains Insert Current k GapFree KeyUpdated GapDeleted = refl
gains Insert Current k GapFree KeyInserted GapFree = refl
gains Insert Current k GapFree KeyInserted GapRead = refl
gains Insert Current k GapFree KeyInserted GapDeleted = refl
gains Insert Current k GapRead KeyFree GapFree = refl
gains Insert Current k GapRead KeyFree GapRead = refl
gains Insert Current k GapRead KeyFree GapDeleted = refl
gains Insert Current k GapRead KeyRead GapFree = refl
gains Insert Current k GapRead KeyRead GapRead = refl
gains Insert Current k GapRead KeyRead GapDeleted = refl
gains Insert Current k GapRead KeyUpdated GapFree = refl
gains Insert Current k GapRead KeyUpdated GapRead = refl
gains Insert Current k GapRead KeyUpdated GapDeleted = refl
gains Insert Current k GapRead KeyInserted GapFree = refl
gains Insert Current k GapRead KeyInserted GapRead = refl
gains Insert Current k GapRead KeyInserted GapDeleted = refl
gains Insert Current k GapDeleted KeyFree GapFree = refl
gains Insert Current k GapDeleted KeyFree GapRead = refl
gains Insert Current k GapDeleted KeyFree GapDeleted = refl
gains Insert Current k GapDeleted KeyRead GapFree = refl
gains Insert Current k GapDeleted KeyRead GapRead = refl
gains Insert Current k GapDeleted KeyRead GapDeleted = refl
gains Insert Current k GapDeleted KeyUpdated GapFree = refl
gains Insert Current k GapDeleted KeyUpdated GapRead = refl
gains Insert Current k GapDeleted KeyUpdated GapDeleted = refl
gains Insert Current k GapDeleted KeyInserted GapFree = refl
gains Insert Current k GapDeleted KeyInserted GapRead = refl
gains Insert Current k GapDeleted KeyInserted GapDeleted = refl
gains Insert Next k g j h = refl
gains Delete Current k g j h = refl
gains Delete Next KeyFree GapFree j h = refl
gains Delete Next KeyFree GapRead j h = refl
gains Delete Next KeyFree GapDeleted j h = refl
gains Delete Next KeyRead GapFree j h = refl
gains Delete Next KeyRead GapRead j h = refl
gains Delete Next KeyRead GapDeleted j h = refl
gains Delete Next KeyUpdated GapFree j h = refl
gains Delete Next KeyUpdated GapRead j h = refl
gains Delete Next KeyUpdated GapDeleted j h = refl
gains Delete Next KeyInserted GapFree j h = refl
gains Delete Next KeyInserted GapRead j h = refl
gains Delete Next KeyInserted GapDeleted j h = refl
gains Update Current KeyFree GapFree j h = refl
gains Update Current KeyFree GapRead j h = refl
gains Update Current KeyFree GapDeleted j h = refl
gains Update Current KeyRead GapFree j h = refl
gains Update Current KeyRead GapRead j h = refl
gains Update Current KeyRead GapDeleted j h = refl
gains Update Current KeyUpdated GapFree j h = refl
gains Update Current KeyUpdated GapRead j h = refl
gains Update Current KeyUpdated GapDeleted j h = refl
gains Update Current KeyInserted GapFree j h = refl
gains Update Current KeyInserted GapRead j h = refl
gains Update Current KeyInserted GapDeleted j h = refl
gains Update Next k g j h = refl

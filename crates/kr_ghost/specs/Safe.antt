-- When a protocol whose deletes leave ghosts is safe: what a lock has to protect, which locks two transactions can have on one name at the same time, and that each of them blocks whom it must. It names no key, index or run.
use Rattle.std.specs.Prelude.{◌≡◌, ℕ, Bool, true, false, ◌||◌, if◌then◌else◌, Option}
use Rattle.kr_model.specs.declared.Row.TheVariants as row
use Rattle.kr_model.specs.declared.Side.TheVariants.{Current, Next}
use Rattle.kr_model.specs.declared.Span.{Span}
use Rattle.kr_model.specs.Covers.{conflicts_with, mode_after}
use Rattle.kr_ghost.specs.declared.vain.Vain.TheVariants as vain
use Rattle.kr_ghost.specs.Protocol.{GhostProtocol, Inherit}
use Rattle.kr_ghost.specs.Step as step
use Rattle.kr_ghost.specs.Step.{current, next}

-- Lock states --

-- What a transaction has done with the key of a name so far, and not undone: it has read it, whether it is present or a ghost; or it has changed it once, by an insert, an update or a delete, or more than once.
pub data KeyUse : Type 0 where
  Free : KeyUse
  Read : KeyUse
  Inserted : KeyUse
  Updated : KeyUse
  Deleted : KeyUse
  Several : KeyUse

-- What a transaction has on a name: the mode that it holds, 0 for no lock; what it has done with the key; whether it has read the gap below the name; and whether it rolls back.
pub record Hold : Type 0 where
  pub mode : ℕ
  pub key : KeyUse
  pub gap : Bool
  pub rolling : Bool

-- The lock state of a transaction that has done nothing there, and may roll back.
abbrev pub idle : Bool → Hold
idle rolling = record { mode = 0; key = Free; gap = false; rolling = rolling }

abbrev pub free : Hold
free = idle false

abbrev pub is_changed : KeyUse → Bool
is_changed Free = false
is_changed Read = false
is_changed _ = true

abbrev pub is_read : KeyUse → Bool
is_read Free = false
is_read _ = true

-- Requests --

-- What is requested of a name; an insert requests its lock on the next name here. A revive is an insert of a ghost; it and an insert of a present key may request a lock on the next name too.
pub data Ask : Type 0 where
  FetchHit : Ask
  FetchMiss : Ask
  ScanName : Ask
  ScanStop : Ask
  Insert : Ask
  Delete : Ask
  Update : Ask
  Revive : Ask
  InsertHit : Ask
  DeleteMiss : Ask
  UpdateMiss : Ask
  ReviveNext : Ask
  InsertHitNext : Ask

-- The mode and span requested by one whose own mode there is o.
abbrev pub asked : GhostProtocol → Ask → ℕ → Option (ℕ × Span)
asked p FetchHit o = current p row.FetchHit
asked p FetchMiss o = next p row.FetchMiss
asked p ScanName o = current p row.ScanKey
asked p ScanStop o = next p row.ScanStop
asked p Insert o = p.table.ask row.Insert Next o
asked p Delete o = current p row.Delete
asked p Update o = current p row.Update
asked p Revive o = p.revive
asked p InsertHit o = step.vain p vain.InsertHit
asked p DeleteMiss o = step.vain p vain.DeleteMiss
asked p UpdateMiss o = step.vain p vain.UpdateMiss
asked p ReviveNext o = p.revive_next
asked p InsertHitNext o = p.insert_hit_next

-- Whom a lock state has to keep out for the sake of the key, by whether the key is present: who has changed it keeps out all who read or change it; who has read it keeps out all who change it, a present key by a delete or an update, and a ghost by an insert.
abbrev pub by_key : Bool → KeyUse → Ask → Bool
by_key present k FetchMiss = false
by_key present k ScanStop = false
by_key present k Insert = false
by_key present k DeleteMiss = false
by_key present k UpdateMiss = false
by_key present k ReviveNext = false
by_key present k InsertHitNext = false
by_key present k FetchHit = is_changed k
by_key present k InsertHit = is_changed k
by_key present k ScanName = is_changed k
by_key present k Delete = if present then is_read k else is_changed k
by_key present k Update = if present then is_read k else is_changed k
by_key present k Revive = if present then is_changed k else is_read k

-- And for the sake of the gap: who has read it keeps out all who insert into it.
abbrev pub by_gap : Bool → Ask → Bool
by_gap gap Insert = gap
by_gap gap _ = false

-- Whether no other transaction may be granted the request beside this lock state.
abbrev pub keeps_out : Bool → Hold → Ask → Bool
keeps_out present x a = by_key present x.key a || by_gap x.gap a

-- A transaction may come to request this of a name: it doesn't roll back; only a ghost is revived, an insert finds only a present key, and an update is offered.
abbrev pub MayAsk : GhostProtocol → Bool → Hold → Ask → Type 0
MayAsk p present x Revive = (x.rolling ≡ false) × (present ≡ false)
MayAsk p present x InsertHit = (x.rolling ≡ false) × (present ≡ true)
MayAsk p present x Update = (x.rolling ≡ false) × (p.table.updates ≡ true)
MayAsk p present x UpdateMiss = (x.rolling ≡ false) × (p.table.updates ≡ true)
MayAsk p present x _ = x.rolling ≡ false

-- Whether the lock of one with the lock state y blocks the request of one with the lock state x.
abbrev pub is_blocked : GhostProtocol → Hold → Hold → Ask → Bool
is_blocked p x y a = conflicts_with p.table y.mode x.mode (asked p a x.mode)

-- What a granted request does --

-- Whether the key is present after it: a delete leaves a ghost, and a revive takes it back.
abbrev pub present_after : Bool → Ask → Bool
present_after present Delete = false
present_after present Revive = true
present_after present _ = present

-- What has been done with the key once it is read, and once it is changed by this.
abbrev pub and_read : KeyUse → KeyUse
and_read Free = Read
and_read k = k

abbrev pub and_changed : KeyUse → KeyUse → KeyUse
and_changed by Free = by
and_changed by Read = by
and_changed by _ = Several

-- What has been done with the key after it; of a ghost a delete and an update only read that it isn't present.
abbrev pub key_after : Bool → KeyUse → Ask → KeyUse
key_after present k FetchHit = and_read k
key_after present k ScanName = and_read k
key_after present k InsertHit = and_read k
key_after present k Delete = if present then and_changed Deleted k else and_read k
key_after present k Update = if present then and_changed Updated k else and_read k
key_after present k Revive = and_changed Inserted k
key_after present k _ = k

-- Whether the gap has been read after it.
abbrev pub gap_after : Bool → Ask → Bool
gap_after gap FetchMiss = true
gap_after gap DeleteMiss = true
gap_after gap UpdateMiss = true
gap_after gap ScanName = true
gap_after gap ScanStop = true
gap_after gap _ = gap

-- The lock state after it.
abbrev pub after : GhostProtocol → Bool → Hold → Ask → Hold
after p present x a = record { mode = mode_after p.table x.mode (asked p a x.mode); key = key_after present x.key a; gap = gap_after x.gap a; rolling = x.rolling }

-- The lock state on a new key of one who has inserted it below a name where it had the lock state x: what it had read of the gap that the key splits, it has read of both parts.
abbrev pub on_new_key : GhostProtocol → Hold → Hold
on_new_key p x = record { mode = mode_after p.table 0 (p.table.ask row.Insert Current x.mode); key = Inserted; gap = x.gap; rolling = false }

-- What needs no lock --

-- What is left of a lock state once its transaction rolls back: it will never commit, so what it has read is of no account.
abbrev pub rolled : Hold → Hold
rolled x = record { mode = x.mode; key = if is_changed x.key then x.key else Free; gap = false; rolling = true }

-- What is left of the key's changes once the newest is undone, and whether the key is present then.
pub data Undone : KeyUse → Bool → KeyUse → Type 0 where
  insert : Undone Inserted false Free
  update : Undone Updated true Free
  delete : Undone Deleted true Free
  to_insert : Undone Several true Inserted
  to_update : Undone Several true Updated
  to_delete : Undone Several false Deleted
  to_several : (present : Bool) → Undone Several present Several

-- What a transaction does that requests nothing on the name: it commits; it ends where it has no change of the key left; it begins to roll back; and, rolling back, it undoes its newest change of the key.
pub data Quiet : Bool → Hold → Bool → Hold → Type 0 where
  commit : (present : Bool) (x : Hold) → x.rolling ≡ false → Quiet present x present free
  leave : (present : Bool) (x : Hold) → is_changed x.key ≡ false → Quiet present x present free
  roll : (present : Bool) (x : Hold) → x.rolling ≡ false → Quiet present x present (rolled x)
  undo : (present : Bool) (x : Hold) (then_present : Bool) (k : KeyUse) → x.rolling ≡ true → Undone x.key then_present k
      → Quiet present x then_present (record { mode = x.mode; key = k; gap = false; rolling = true })

-- The lock state on the next name of one that had x there, and y on a ghost that is purged: its lock is inherited, and what it had read on the ghost, it has read of the gap. Of one who rolls back nothing is inherited.
abbrev pub inherits : GhostProtocol → (ℕ → ℕ) → Hold → Hold → Hold
inherits p heir x y = if y.rolling then x else record { mode = p.table.convert x.mode (heir y.mode); key = x.key; gap = x.gap || (y.gap || is_read y.key); rolling = x.rolling }

-- Which two can be on one name --

-- Two transactions can have the lock states x and y on one name, while its key is present or not.
pub data Beside (p : GhostProtocol) : Bool → Hold → Hold → Type 0 where
  -- at first neither has anything there; and the two may be exchanged
  start : (present : Bool) → Beside p present free free
  turn : (present : Bool) (x y : Hold) → Beside p present x y → Beside p present y x
  -- one is granted what it comes to request, where the other's lock doesn't block it; or it does what needs no lock
  ask : (a : Ask) (present : Bool) (x y : Hold) → Beside p present x y → MayAsk p present x a → is_blocked p x y a ≡ false → Beside p (present_after present a) (after p present x a) y
  quiet : (present : Bool) (x y : Hold) (then_present : Bool) (z : Hold) → Beside p present x y → Quiet present x then_present z → Beside p then_present z y
  -- a third, whose lock stands beside both, takes the key away or brings it back, or undoes that
  third_asks : (a : Ask) (present : Bool) (x y z : Hold) → Beside p present x y → Beside p present z x → Beside p present z y → MayAsk p present z a
      → is_blocked p z x a ≡ false → is_blocked p z y a ≡ false → Beside p (present_after present a) x y
  third_undoes : (present : Bool) (x y z : Hold) (then_present : Bool) (w : Hold) → Beside p present x y → Beside p present z x → Beside p present z y
      → Quiet present z then_present w → Beside p then_present x y
  -- one inserts a new key below a name
  new : (present : Bool) (x : Hold) → Beside p present x free → x.rolling ≡ false → Beside p true (on_new_key p x) free
  -- a ghost below the name is purged, on which they have y and w
  purge : (heir : ℕ → ℕ) (present : Bool) (x z y w : Hold) → p.purges ≡ Inherit heir → Beside p present x z → Beside p false y w
      → is_changed y.key ≡ false → is_changed w.key ≡ false → x.rolling ≡ y.rolling → z.rolling ≡ w.rolling → Beside p present (inherits p heir x y) (inherits p heir z w)

-- Safe --

-- A protocol is safe if, of two transactions on one name, each one's lock blocks every request of the other that it has to keep out.
abbrev pub IsSafeGhost : GhostProtocol → Type 0
IsSafeGhost p = (a : Ask) (present : Bool) (x y : Hold) → Beside p present x y → MayAsk p present x a → keeps_out present y a ≡ true → is_blocked p x y a ≡ true

-- Lock states, requests and pairs as the definitions have them, and their numbers.
use Rattle.std.specs.Prelude.{ℕ, ◌+◌, ◌*◌, ◌/◌, ◌%◌, ◌==◌, Bool, Option, Some, None, cond, if◌then◌else◌}
use Rattle.kr_ghost.specs.Safe.{KeyUse, Free, Read, Inserted, Updated, Deleted, Several, Hold, Ask, FetchHit, FetchMiss, ScanName, ScanStop, Insert, Delete, Update, Revive, InsertHit, DeleteMiss, UpdateMiss, ReviveNext, InsertHitNext}
use Rattle.kr_ghost_decide.specs.declared.hold.KeyUse.{KeyUse as KeyUseInCode}
use Rattle.kr_ghost_decide.specs.declared.hold.KeyUse.TheVariants as key
use Rattle.kr_ghost_decide.specs.declared.hold.Hold.{Hold as HoldInCode}
use Rattle.kr_ghost_decide.specs.declared.hold.Pair.{Pair}
use Rattle.kr_ghost_decide.specs.declared.ask.Ask.{Ask as AskInCode}
use Rattle.kr_ghost_decide.specs.declared.ask.Ask.TheVariants as ask

-- What the code's words are to the definitions --

abbrev pub key_use : KeyUseInCode → KeyUse
key_use key.Free = Free
key_use key.Read = Read
key_use key.Inserted = Inserted
key_use key.Updated = Updated
key_use key.Deleted = Deleted
key_use key.Several = Several

abbrev pub hold : HoldInCode → Hold
hold x = record { mode = x.mode; key = key_use x.key; gap = x.gap; rolling = x.rolling }

abbrev pub asking : AskInCode → Ask
asking ask.FetchHit = FetchHit
asking ask.FetchMiss = FetchMiss
asking ask.ScanName = ScanName
asking ask.ScanStop = ScanStop
asking ask.Insert = Insert
asking ask.Delete = Delete
asking ask.Update = Update
asking ask.Revive = Revive
asking ask.InsertHit = InsertHit
asking ask.DeleteMiss = DeleteMiss
asking ask.UpdateMiss = UpdateMiss
asking ask.ReviveNext = ReviveNext
asking ask.InsertHitNext = InsertHitNext

-- What two transactions have on one name, while its key is present or not.
pub record Fact : Type 0 where
  pub present : Bool
  pub own : Hold
  pub other : Hold

abbrev pub fact : Pair → Fact
fact q = record { present = q.present; own = hold q.own; other = hold q.other }

abbrev pub facts : Option Pair → Option Fact
facts None = None
facts (Some q) = Some (fact q)

-- Numbers --

abbrev pub key_number : KeyUse → ℕ
key_number Free = 0
key_number Read = 1
key_number Inserted = 2
key_number Updated = 3
key_number Deleted = 4
key_number Several = 5

abbrev pub key_at : ℕ → KeyUse
key_at n = if n == 0 then Free else if n == 1 then Read else if n == 2 then Inserted else if n == 3 then Updated else if n == 4 then Deleted else Several

-- The number of a lock state; with at most 15 modes it is below 384, and each has its own.
abbrev pub hold_number : Hold → ℕ
hold_number x = x.mode * 24 + key_number x.key * 4 + cond x.gap 2 0 + cond x.rolling 1 0

abbrev pub hold_at : ℕ → Hold
hold_at n = record { mode = n / 24; key = key_at (n / 4 % 6); gap = n / 2 % 2 == 1; rolling = n % 2 == 1 }

-- The number of what two have; it is below 294,912.
abbrev pub place : Fact → ℕ
place f = (hold_number f.own * 384 + hold_number f.other) * 2 + cond f.present 1 0

abbrev pub fact_at : ℕ → Fact
fact_at n = record { present = n % 2 == 1; own = hold_at (n / 768); other = hold_at (n / 2 % 384) }

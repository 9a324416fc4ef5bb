-- What comes of two lock states on one name, as tests.
use Rattle.std.specs.Prelude.{Bool, true, false, ◌&&◌, ◌||◌, ◌==◌, not, if◌then◌else◌, List, [], ◌∷◌, Option, Some, None}
use Rattle.kr_ghost.specs.Protocol.{GhostProtocol}
use Rattle.kr_ghost.specs.Safe.{KeyUse, Free, Inserted, Updated, Deleted, Several, Hold, free, is_changed, is_read, Ask, Delete, Update, Revive, InsertHit, UpdateMiss, is_blocked, present_after, after, on_new_key, rolled}
use Rattle.kr_ghost_decide.specs.declared.ask.Ask.{Ask as AskInCode}
use Rattle.kr_ghost_decide.specs.declared.ask.Ask.TheVariants as ask
use Rattle.kr_ghost_decide.specs.declared.hold.KeyUse.TheVariants as key
use Rattle.kr_ghost_decide.specs.declared.way.Way.{Way}
use Rattle.kr_ghost_decide.specs.declared.way.Way.TheVariants as way
use Rattle.kr_ghost_decide.specs.Holds.{key_use, asking, Fact}

-- All requests, in order.
abbrev pub asks : List AskInCode
asks = ask.FetchHit ∷ ask.FetchMiss ∷ ask.ScanName ∷ ask.ScanStop ∷ ask.Insert ∷ ask.Delete ∷ ask.Update ∷ ask.Revive ∷ ask.InsertHit ∷ ask.DeleteMiss ∷ ask.UpdateMiss ∷ ask.ReviveNext ∷ ask.InsertHitNext ∷ []

-- Whether one with the lock state x may come to request this.
abbrev pub may_ask : GhostProtocol → Bool → Hold → Ask → Bool
may_ask p present x Revive = not x.rolling && not present
may_ask p present x InsertHit = not x.rolling && present
may_ask p present x Update = not x.rolling && p.table.updates
may_ask p present x UpdateMiss = not x.rolling && p.table.updates
may_ask p present x _ = not x.rolling

-- The first is granted what it comes to request, where the other's lock doesn't block it.
abbrev pub granted : GhostProtocol → Fact → Ask → Option Fact
granted p f a =
    if may_ask p f.present f.own a && not (is_blocked p f.own f.other a)
    then Some (record { present = present_after f.present a; own = after p f.present f.own a; other = f.other }) else None

-- Whether the newest change of a key may be undone so that it is present then or not, and this is left.
abbrev pub is_undone : KeyUse → Bool → KeyUse → Bool
is_undone Inserted false Free = true
is_undone Updated true Free = true
is_undone Deleted true Free = true
is_undone Several true Inserted = true
is_undone Several true Updated = true
is_undone Several false Deleted = true
is_undone Several present Several = true
is_undone _ _ _ = false

-- The first rolls back, and undoes its newest change.
abbrev pub undone : Fact → Bool → KeyUse → Option Fact
undone f then_present k =
    if f.own.rolling && is_undone f.own.key then_present k
    then Some (record { present = then_present; own = record { mode = f.own.mode; key = k; gap = false; rolling = true }; other = f.other }) else None

-- Whether a lock state is that of one who has nothing.
abbrev pub is_free : Hold → Bool
is_free x = x.mode == 0 && (not (is_read x.key) && (not x.gap && not x.rolling))

-- The first inserts a key below the name, where the other has nothing.
abbrev pub with_new : GhostProtocol → Fact → Option Fact
with_new p f = if is_free f.other && not f.own.rolling then Some (record { present = true; own = on_new_key p f.own; other = free }) else None

-- All ways on which what two have on a name comes of what they had.
abbrev pub ways : List Way
ways =
    way.Turn ∷ way.End ∷ way.Roll ∷ way.New ∷ way.Ask ask.FetchHit ∷ way.Ask ask.FetchMiss ∷ way.Ask ask.ScanName ∷ way.Ask ask.ScanStop ∷ way.Ask ask.Insert ∷ way.Ask ask.Delete ∷ way.Ask ask.Update ∷ way.Ask ask.Revive
    ∷ way.Undo false key.Free ∷ way.Undo true key.Free ∷ way.Undo true key.Inserted ∷ way.Undo true key.Updated ∷ way.Undo false key.Deleted ∷ way.Undo true key.Several ∷ way.Undo false key.Several
    ∷ way.Ask ask.InsertHit ∷ way.Ask ask.DeleteMiss ∷ way.Ask ask.UpdateMiss ∷ way.Ask ask.ReviveNext ∷ way.Ask ask.InsertHitNext ∷ []

-- What they have then.
abbrev pub moved : GhostProtocol → Fact → Way → Option Fact
moved p f way.Turn = Some (record { present = f.present; own = f.other; other = f.own })
moved p f way.End = if f.own.rolling && is_changed f.own.key then None else Some (record { present = f.present; own = free; other = f.other })
moved p f way.Roll = if f.own.rolling then None else Some (record { present = f.present; own = rolled f.own; other = f.other })
moved p f way.New = with_new p f
moved p f (way.Ask a) = granted p f (asking a)
moved p f (way.Undo then_present k) = undone f then_present (key_use k)

-- Whether one with the lock state z, whose lock stands beside x and y, may take the key away, or bring it back, or undo that.
abbrev pub alters : GhostProtocol → Bool → Hold → Hold → Hold → Bool
alters p present z x y =
    if z.rolling then is_undone z.key (not present) Free || is_undone z.key (not present) Several
    else not (is_blocked p z x (if present then Delete else Revive)) && not (is_blocked p z y (if present then Delete else Revive))

-- What is inherited of two lock states on a ghost that is purged.
use Rattle.std.specs.Prelude.{Bool, true, false, ◌&&◌, ◌||◌, not, if◌then◌else◌, Option, Some, None}
use Rattle.kr_ghost.specs.Protocol.{GhostProtocol, heir_of}
use Rattle.kr_ghost.specs.Safe.{Hold, is_changed, is_read}
use Rattle.kr_ghost_decide.specs.declared.heir.Heir.{Heir}
use Rattle.kr_ghost_decide.specs.declared.heir.Heirs.{Heirs}
use Rattle.kr_ghost_decide.specs.Holds.{Fact}

-- What is left of y on a ghost: the inherited mode, and whether the gap below the next name is as read then.
abbrev pub left : GhostProtocol → Hold → Heir
left p y = record { mode = heir_of p.purges y.mode; read = y.gap || is_read y.key; rolling = y.rolling }

-- What is left of two on a ghost, where neither has changed its key.
abbrev pub left_of : GhostProtocol → Fact → Option Heirs
left_of p f = if f.present || (is_changed f.own.key || is_changed f.other.key) then None else Some (record { own = left p f.own; other = left p f.other })

-- The lock state on the next name of one that had x there.
abbrev pub inherited : GhostProtocol → Hold → Heir → Hold
inherited p x h = if h.rolling then x else record { mode = p.table.convert x.mode h.mode; key = x.key; gap = x.gap || h.read; rolling = x.rolling }

-- Whether one rolls back here and there, or doesn't here and there.
abbrev pub same : Bool → Bool → Bool
same true b = b
same false b = not b

-- What two have on the next name.
abbrev pub inherited_by : GhostProtocol → Fact → Heirs → Option Fact
inherited_by p f h =
    if same f.own.rolling h.own.rolling && same f.other.rolling h.other.rolling
    then Some (record { present = f.present; own = inherited p f.own h.own; other = inherited p f.other h.other }) else None

-- What a fault of a call tells.
use Rattle.std.specs.Prelude.{◌≡◌, Bool, true, false}
use Rattle.kr_model.specs.declared.Reply.{Reply}
use Rattle.kr_model.specs.declared.Reply.TheVariants as reply
use Rattle.kr_model.specs.declared.Refusal.TheVariants as refusal
use Rattle.kr_model.specs.Run.{is_granted}
use Rattle.kr_records.specs.declared.faults.EngineFault.{EngineFault}
use Rattle.kr_records.specs.declared.faults.EngineFault.TheVariants.{Deadlock, RowFull, Refused, Memory, Taken, NotBegun, Open, PlaceTaken}

-- The fault that tells a reply which wasn't granted.
abbrev pub fault_of : Reply → EngineFault
fault_of (reply.Refused refusal.Memory) = Memory
fault_of r = Refused r

-- A refusal carries this reply, which isn't granted.
abbrev pub TellsReply : EngineFault → Reply → Type 0
TellsReply (Refused r) s = (r ≡ s) × (is_granted r ≡ false)
TellsReply _ s = Unit {0}

-- Whether it is a refusal.
abbrev pub is_refusal : EngineFault → Bool
is_refusal (Refused r) = true
is_refusal _ = false

-- Whether it says that the step is blocked.
abbrev pub is_blocked : EngineFault → Bool
is_blocked (Refused (reply.Blocked us)) = true
is_blocked _ = false

-- Whether it says that the seat has begun nothing.
abbrev pub is_unbegun : EngineFault → Bool
is_unbegun NotBegun = true
is_unbegun _ = false

-- Whether it is a fault that a begin may have: the seat's transaction is active, the number was begun before, the row is full, or a growth was refused.
abbrev pub is_of_begin : EngineFault → Bool
is_of_begin Open = true
is_of_begin Taken = true
is_of_begin RowFull = true
is_of_begin Memory = true
is_of_begin _ = false

-- Whether it is a fault that one attempt may have: the machine refused it or it was blocked, the row is full, a growth or the place was refused.
abbrev pub is_of_attempt : EngineFault → Bool
is_of_attempt (Refused r) = true
is_of_attempt RowFull = true
is_of_attempt Memory = true
is_of_attempt PlaceTaken = true
is_of_attempt _ = false

-- Whether it is a fault that the write of a place may have: a growth or the place was refused.
abbrev pub is_of_write : EngineFault → Bool
is_of_write Memory = true
is_of_write PlaceTaken = true
is_of_write _ = false

-- Whether it is a fault that a wait may have.
abbrev pub is_of_wait : EngineFault → Bool
is_of_wait (Deadlock cycle) = true
is_of_wait Memory = true
is_of_wait _ = false

-- Whether it is a fault that one attempt of a seat may have: such a one, or that the seat has begun nothing.
abbrev pub is_of_try : EngineFault → Bool
is_of_try NotBegun = true
is_of_try f = is_of_attempt f

-- Whether it is a fault that a call may have which waits: such a one, or a deadlock.
abbrev pub is_of_call : EngineFault → Bool
is_of_call (Deadlock cycle) = true
is_of_call f = is_of_try f

-- Whom the operations wait for that are under way.
use Rattle.std.specs.Prelude.{◌==◌, ℕ, Bool, true, false, List, [], ◌∷◌, if◌then◌else◌}
use Rattle.kr_model.specs.declared.Event.{Event}
use Rattle.kr_model.specs.declared.Op.{Op}
use Rattle.kr_model.specs.declared.Reply.{Reply}
use Rattle.kr_model.specs.declared.Reply.TheVariants as reply

-- The operation o of t.
abbrev pub event : ℕ → Op → Event
event t o = record { txn = t; op = o }

-- Who blocks t's operation, the first of t in this list; nobody where t has none.
abbrev pub blockers_now : (Event → List ℕ) → List Event → ℕ → List ℕ
blockers_now blockers [] t = []
blockers_now blockers (e ∷ es) t = if e.txn == t then blockers e else blockers_now blockers es t

-- Whether a reply says that the step is blocked.
abbrev pub is_blocked_reply : Reply → Bool
is_blocked_reply (reply.Blocked us) = true
is_blocked_reply _ = false

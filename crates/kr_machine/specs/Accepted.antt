-- Why a step isn't done that is done only if its reply is accepted.
use Rattle.std.specs.Prelude.{◌≡◌, ℕ, true, false}
use Rattle.kr_model.specs.declared.Op.{Op}
use Rattle.kr_model.specs.declared.Refusal.TheVariants as refusal
use Rattle.kr_model.specs.declared.Reply.TheVariants as reply
use Rattle.kr_model.specs.Protocol.{Protocol}
use Rattle.kr_model.specs.State.{State}
use Rattle.kr_model.specs.Step.{step, IsStep}
use Rattle.kr_model.specs.Run.{is_granted}
use Rattle.kr_machine.specs.declared.accepted.NotDone.{NotDone}
use Rattle.kr_machine.specs.declared.accepted.NotDone.TheVariants.{NotGranted, Declined}

-- The step was refused or blocked, with this reply; or it would be granted, and its reply was declined so.
abbrev pub TellsWhy : {E : Type 0} → Protocol → State → ℕ → Op → (E → Type 0) → NotDone E → Type 0
TellsWhy p s t o IsDeclined (NotGranted r) = IsStep p s t o r s × (is_granted r ≡ false)
TellsWhy p s t o IsDeclined (Declined e) = (is_granted (step p s t o).0 ≡ true) × IsDeclined e

-- Memory was refused, or the reply was declined so.
abbrev pub LacksMemoryOr : {E : Type 0} → (E → Type 0) → NotDone E → Type 0
LacksMemoryOr IsDeclined (NotGranted r) = r ≡ reply.Refused refusal.Memory
LacksMemoryOr IsDeclined (Declined e) = IsDeclined e

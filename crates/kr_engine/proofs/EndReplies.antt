-- The replies of ends.
use Rattle.std.proofs.Common.{◌≡◌, ℕ, true, Option, Some, None, refl}
use Rattle.kr_model.specs.declared.Op.{Op}
use Rattle.kr_model.specs.declared.Op.TheVariants as op
use Rattle.kr_model.specs.declared.Refusal.{Refusal}
use Rattle.kr_model.specs.Protocol.{Protocol}
use Rattle.kr_model.specs.State.{State}
use Rattle.kr_model.specs.Step.{step, is_end, refusal_of, unless_refused}
use Rattle.kr_model.specs.Run.{is_granted}
use Rattle.kr_touch.specs.Parts.{end_reply}

granted_commit : (p : Protocol) (s : State) (t : ℕ) (r : Option Refusal) → is_granted (unless_refused p s t op.Commit r).0 ≡ true → (unless_refused p s t op.Commit r).0 ≡ end_reply op.Commit
granted_commit p s t (Some r) granted = cc
granted_commit p s t None granted = refl

granted_abort : (p : Protocol) (s : State) (t : ℕ) (r : Option Refusal) → is_granted (unless_refused p s t op.Abort r).0 ≡ true → (unless_refused p s t op.Abort r).0 ≡ end_reply op.Abort
granted_abort p s t (Some r) granted = cc
granted_abort p s t None granted = refl

-- A granted operation that ends its transaction has one answer.
pub end_granted : (p : Protocol) (s : State) (t : ℕ) (o : Op) → is_end o ≡ true → is_granted (step p s t o).0 ≡ true → (step p s t o).0 ≡ end_reply o
end_granted p s t op.Commit ends granted = granted_commit p s t (refusal_of p s t op.Commit) granted
end_granted p s t op.Abort ends granted = granted_abort p s t (refusal_of p s t op.Abort) granted
end_granted p s t (op.Fetch k) ends granted = cc
end_granted p s t (op.Scan lo hi) ends granted = cc
end_granted p s t op.Go ends granted = cc
end_granted p s t (op.Insert k v) ends granted = cc
end_granted p s t (op.Delete k) ends granted = cc
end_granted p s t (op.Update k v) ends granted = cc
end_granted p s t op.Back ends granted = cc

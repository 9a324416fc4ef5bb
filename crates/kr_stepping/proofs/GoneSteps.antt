-- A step where a deleted key goes at once, by whether it is refused memory.
use Rattle.std.specs.Prelude.{◌≡◌, ℕ, [], ◌∷◌}
use Rattle.std.proofs.Common.{sym, ap, inl, inr, ◌∙◌}
use Rattle.kr_model.specs.declared.Event.{Event}
use Rattle.kr_model.specs.declared.Op.{Op}
use Rattle.kr_model.specs.declared.Reply.{Reply}
use Rattle.kr_model.specs.declared.Reply.TheVariants as reply
use Rattle.kr_model.specs.declared.Refusal.TheVariants as refusal
use Rattle.kr_model.specs.Protocol.{Protocol}
use Rattle.kr_model.specs.State.{State}
use Rattle.kr_model.specs.Step as gone
use Rattle.kr_model.specs.Step.{IsStep}
use Rattle.kr_model.proofs.RunLaws.{memory_of_run}

-- A step that was refused memory leaves the state.
pub stays : (p : Protocol) (s : State) (t : ℕ) (o : Op) (r : Reply) (new : State) → IsStep p s t o r new → r ≡ reply.Refused refusal.Memory → new ≡ s
stays p s t o r new (inl e) is =
    let event : Event = record { txn = t; op = o } in
    absurd ((memory_of_run p s (event ∷ [])).0 (ap (λ (x : gone.Outcome). x.0) (sym e) ∙ is))
stays p s t o r new (inr b) is = b.1

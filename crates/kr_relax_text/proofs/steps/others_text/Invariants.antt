-- the steps so far are written
use Rattle.std.proofs.Common.{◌≡◌, flat_map, take, string_bytes}
use Rattle.kr_relax_text.specs.Steps.{beside_word}
use Rattle.kr_relax_text.proofs.steps.others_text.Given as goal

abbrev pub invariant-loop-event : goal.invariant-loop-event
invariant-loop-event l = string_bytes l.out ≡ flat_map (beside_word l.txn) (take l.event-index l.events)

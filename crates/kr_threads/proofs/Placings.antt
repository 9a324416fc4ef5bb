-- Steps that were left out, told where their transactions came to them.
use Rattle.std.proofs.Common.{◌≡◌, ℕ, ◌+◌, List, [], ◌∷◌, All, map, refl, sym, ap, ◌∙◌, subst}
use Rattle.std.proofs.lemmas.List.Elements.{All-map}
use Rattle.kr_model.specs.declared.Event.{Event}
use Rattle.kr_model.specs.Protocol.{Protocol}
use Rattle.kr_model.specs.Map.{Map}
use Rattle.kr_model.specs.Run as model
use Rattle.kr_records.specs.declared.name.Entry.{Entry}
use Rattle.kr_records.specs.Histories.{events_with_replies}
use Rattle.kr_script.specs.declared.not_done.StepFault.{StepFault}
use Rattle.kr_workers.specs.declared.left_out.LeftOut.{LeftOut}
use Rattle.kr_workers.specs.Counts.{missed_before}
use Rattle.kr_workers.specs.Placed.{IsBetween}
use Rattle.kr_workers.proofs.Placings.{done_between}
use Rattle.kr_threads.specs.Told.{IsTold, IsLeftOut, AreTold}

-- The events of entries.
pub events_are : (es : List Entry) → model.events_of (events_with_replies es) ≡ map (λ e. e.event) es
events_are [] = refl
events_are (e ∷ es) = ap (λ (l : List Event). e.event ∷ l) (events_are es)

-- A step that was left out between its places, where its transaction came to it.
placed_told : (p : Protocol) (opening : Map) (faults : List StepFault) (es : List Entry) (l : LeftOut) → IsLeftOut p opening (events_with_replies es) l
    → IsBetween (map (λ e. e.event) es) (missed_before faults l.fault.txn l.fault.step) l → IsTold p opening faults (events_with_replies es) l.fault
placed_told p opening faults es l t b = record {
  before = t.before;
  state = t.caused.state;
  begins = t.begins;
  run = t.caused.run;
  cause = t.caused.cause;
  placed =
      ap (λ (n : ℕ). n + missed_before faults l.fault.txn l.fault.step + 1) (done_between (map (λ e. e.event) es) (events_with_replies es) t.before (events_are es) t.begins l.last l.next l.fault.txn b.number t.past t.up_to b.up_to b.before)
      ∙ b.is;
}

-- So are all.
pub all_placed : (p : Protocol) (opening : Map) (faults : List StepFault) (es : List Entry) (ls : List LeftOut) → faults ≡ map (λ l. l.fault) ls → AreTold p opening es ls
    → All (λ l. IsBetween (map (λ e. e.event) es) (missed_before (map (λ l. l.fault) ls) l.fault.txn l.fault.step) l) ls
    → All (IsTold p opening faults (events_with_replies es)) faults
all_placed p opening faults es ls is told placed =
    subst (λ (fs : List StepFault). All (IsTold p opening fs (events_with_replies es)) fs) (sym is)
    (All-map (IsTold p opening (map (λ l. l.fault) ls) (events_with_replies es)) (λ l. l.fault) ls
    (λ k d within. placed_told p opening (map (λ l. l.fault) ls) es _ (told k d within) (placed k d within)))

-- What it is for a rule to be needed.
use Rattle.std.specs.Prelude.{◌≡◌, List, All}
use Rattle.kr_model.specs.declared.Rule.{Rule}
use Rattle.kr_model.specs.declared.Event.{Event}
use Rattle.kr_model.specs.Protocol.{Protocol, IsLawful}
use Rattle.kr_model.specs.Covers.{failed_cases}
use Rattle.kr_model.specs.Map.{Map, IsMap}
use Rattle.kr_model.specs.State.{start}
use Rattle.kr_model.specs.Run.{run, programs}
use Rattle.kr_model.specs.Serial.{AreSerial}

-- No case of p but those of the rule fails, and yet a run under p isn't serializable.
abbrev pub GoesWrongWithout : Rule → Protocol → Type 0
GoesWrongWithout rule p =
    All (λ f. f.case ≡ rule) (failed_cases p)
    × ((opening : Map) × (events : List Event) × IsMap opening × (let r = run p (start opening) events in AreSerial opening (programs r.history) → ⊥))

-- The theorem fails without the rule: some lawful protocol goes wrong.
abbrev pub IsNeeded : Rule → Type 0
IsNeeded rule = (p : Protocol) × IsLawful p × GoesWrongWithout rule p

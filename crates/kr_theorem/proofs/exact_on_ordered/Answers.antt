use Rattle.kr_model.specs.Protocol.{Protocol, IsLawful}
use Rattle.kr_model.specs.Serial.{RunsAreSerial}
use Rattle.kr_theorem.specs.Fixed.{FixedHole}
use Rattle.kr_theorem.specs.Schedules.{opening, schedule}
use Rattle.kr_theorem.proofs.Fixed.{fixed_goes_wrong}
use Rattle.kr_theorem.proofs.Holes.{fixed_or_safe}
use Rattle.kr_theorem.proofs.exact_on_ordered.Goals as goal

none : (p : Protocol) → IsLawful p → RunsAreSerial p → FixedHole p → ⊥
none p laws serial hole =
    let wrong = fixed_goes_wrong p laws hole in
    wrong.not_serial (serial (opening hole) (schedule hole) wrong.is_map).0

pub returns : goal.returns
returns c = λ p laws ordered serial. fixed_or_safe p laws ordered (none p laws serial)

-- What a refusal tells.
use Rattle.std.specs.Prelude.{◌≡◌}
use Rattle.kr_model.specs.Protocol.{Protocol}
use Rattle.kr_model.specs.Covers.{failed_cases}
use Rattle.kr_cases.specs.declared.checker.WhyRejected.{WhyRejected}
use Rattle.kr_cases.specs.declared.checker.WhyRejected.TheVariants.{Failed, Memory}

-- All failed cases of the protocol, in order; or memory ran out.
abbrev pub Tells : Protocol → WhyRejected → Type 0
Tells p (Failed list) = list.items ≡ failed_cases p
Tells p Memory = Unit {0}

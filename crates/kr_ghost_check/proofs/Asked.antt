-- What a lawful protocol requests is within its modes.
use Rattle.std.proofs.Common.{◌≡◌, ℕ, ◌≤◌, Option, Some, None, sym}
use Rattle.std.specs.Prelude.{IfSome}
use Rattle.kr_model.specs.declared.Span.{Span}
use Rattle.kr_model.specs.Protocol.{Protocol}
use Rattle.kr_ghost.specs.Protocol.{AsksMode}

pub asked_within : (p : Protocol) (asked result : Option (ℕ × Span)) → AsksMode p asked → result ≡ asked → IfSome result (λ a. a.0 ≤ p.count)
asked_within p asked None mode e = tt
asked_within p asked (Some (q, span)) mode e = let m = mode q span (sym e) in m.in_range

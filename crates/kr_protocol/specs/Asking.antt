-- What a protocol answers of any numbers, and how a request is granted.
use Rattle.std.specs.Prelude.{ℕ, nat_le, Option, None, if◌then◌else◌, ◌&&◌}
use Rattle.kr_model.specs.declared.Row.{Row}
use Rattle.kr_model.specs.declared.Side.{Side}
use Rattle.kr_model.specs.declared.Span.{Span}
use Rattle.kr_model.specs.Protocol.{Protocol}

-- What a row requests at a side with this own mode on the next name; nothing where that is no mode.
abbrev pub asked_at : Protocol → Row → Side → ℕ → Option (ℕ × Span)
asked_at p r s own_next = if nat_le own_next p.count then p.ask r s own_next else None

-- What a held and a requested mode convert to; no lock where one of them is no mode.
abbrev pub converted_at : Protocol → ℕ → ℕ → ℕ
converted_at p held requested = if nat_le held p.count && nat_le requested p.count then p.convert held requested else 0

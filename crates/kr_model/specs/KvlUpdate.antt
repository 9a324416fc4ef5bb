-- Key-value locking with updates: the table of key-value locking, where an update takes its key exclusive. That rule is this project's own.
use Rattle.std.specs.Prelude.{ℕ, true, Option}
use Rattle.kr_model.specs.declared.Row.{Row}
use Rattle.kr_model.specs.declared.Row.TheVariants.{Update}
use Rattle.kr_model.specs.declared.Side.{Side}
use Rattle.kr_model.specs.declared.Side.TheVariants.{Current}
use Rattle.kr_model.specs.declared.Span.{Span}
use Rattle.kr_model.specs.Protocol.{Protocol}
use Rattle.kr_model.specs.Matrices.{for_commit}
use Rattle.kr_model.specs.Kvl.{X, kvl, kvl_ask}

-- What each row and side requests.
abbrev pub kvl_update_ask : Row → Side → ℕ → Option (ℕ × Span)
kvl_update_ask Update Current own = for_commit X
kvl_update_ask row side own = kvl_ask row side own

-- The bundled table of key-value locking with updates.
abbrev pub kvl_update : Protocol
kvl_update = record kvl { ask = kvl_update_ask; updates = true }

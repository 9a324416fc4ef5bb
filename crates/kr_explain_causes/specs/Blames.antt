-- What may be blamed for a failed case.
use Rattle.std.specs.Prelude.{◌≡◌, ◌⊎◌, ℕ, nat_le, true, Option, Some, None, option_map, Contains, if◌then◌else◌}
use Rattle.kr_model.specs.declared.FailedCase.{FailedCase}
use Rattle.kr_model.specs.declared.Origin.{Origin}
use Rattle.kr_model.specs.declared.Origin.TheVariants as origin
use Rattle.kr_model.specs.declared.Row.{Row}
use Rattle.kr_model.specs.declared.Row.TheVariants as row
use Rattle.kr_model.specs.declared.Rule.{Rule}
use Rattle.kr_model.specs.declared.Rule.TheVariants as rule
use Rattle.kr_model.specs.declared.Side.{Side}
use Rattle.kr_model.specs.declared.Side.TheVariants.{Current, Next}
use Rattle.kr_model.specs.declared.Span.{Span}
use Rattle.kr_model.specs.declared.Span.TheVariants.{Instant, Commit}
use Rattle.kr_model.specs.Protocol.{Protocol, IsMode}
use Rattle.kr_protocol.specs.Asking as asking
use Rattle.kr_model.specs.Covers.{Ask, must_conflict, requester, is_open}
use Rattle.kr_explain_causes.specs.declared.blame.Blame.{Blame}
use Rattle.kr_explain_causes.specs.declared.blame.Blame.TheVariants.{Place, Request, Conversion, Pair}
use Rattle.kr_explain_causes.specs.Causes.{own_next}

-- The row and the side at which the lock was requested that a case of this rule relies on. A lock that is converted may have been requested by any row: it counts as a fetch's.
abbrev pub taken_at : Rule → Ask
taken_at rule.Conversion = (row.FetchHit, Current)
taken_at rule.FetchHit = (row.FetchHit, Current)
taken_at rule.FetchMiss = (row.FetchMiss, Next)
taken_at rule.ScanKey = (row.ScanKey, Current)
taken_at rule.ScanStop = (row.ScanStop, Next)
taken_at rule.Insert = (row.Insert, Current)
taken_at rule.Split = (row.Insert, Current)
taken_at rule.Delete = (row.Delete, Next)
taken_at rule.Update = (row.Update, Current)

-- What p requests at a row and a side, with the own mode o on the next name; nothing where o is no mode.
abbrev pub asked_at : Protocol → Ask → ℕ → Option (ℕ × Span)
asked_at p (r, s) o = asking.asked_at p r s o

-- The mode of one who holds h and requests q; where h is no mode, it holds none.
abbrev pub converted : Protocol → ℕ → ℕ → ℕ
converted p h q = if nat_le h p.count then p.convert h q else q

-- No lock keeps out what a row requests at a side: one who holds nothing comes through beside each mode.
abbrev pub IsVoid : Protocol → Row → Side → Type 0
IsVoid p r s = (m : ℕ) → IsMode p m → is_open p m (requester (r, s) 0 0) ≡ true

-- The request of the lock that a failed case relies on.
abbrev pub lock_request : Protocol → FailedCase → Option (ℕ × Span)
lock_request p f = asked_at p (taken_at f.case) (own_next f)

-- The conversion of the own mode o by a request, where the lock is kept: the held mode and the requested one.
abbrev pub conversion_by : ℕ → Option (ℕ × Span) → Option (ℕ × ℕ)
conversion_by o (Some (q, Commit)) = Some (o, q)
conversion_by o (Some (q, Instant)) = None
conversion_by o None = None

-- The conversion by which the lock of a failed case comes to its mode: that of the case, or that of the own mode by the lock's request.
abbrev pub conversion_in : Option (ℕ × Span) → Origin → Option (ℕ × ℕ)
conversion_in request (origin.Conversion held asked) = Some (held, asked)
conversion_in request (origin.Own own) = conversion_by own request
conversion_in request (origin.Insert own_next own) = conversion_by own request

abbrev pub lock_conversion : Protocol → FailedCase → Option (ℕ × ℕ)
lock_conversion p f = conversion_in (lock_request p f) f.from

-- The mode that is requested by the one who comes through.
abbrev pub hole_request : Protocol → FailedCase → Option ℕ
hole_request p f = option_map (λ a. a.0) (asked_at p (f.hole.row, f.hole.side) f.hole.own_next)

-- The blame is a reason of the failed case of p:
abbrev pub IsBlamed : Protocol → Blame → FailedCase → Type 0
-- a row and a side which no lock keeps out, that its cover has to keep out, or where its lock was requested;
IsBlamed p (Place row side) f = IsVoid p row side × (Contains (must_conflict p f.cover) (row, side) ⊎ ((row, side) ≡ taken_at f.case))
-- the request of its lock;
IsBlamed p (Request row side asked) f = ((row, side) ≡ taken_at f.case) × (asked ≡ lock_request p f)
-- the conversion of its lock, or of what is held by the one who comes through;
IsBlamed p (Conversion held requested) f = (lock_conversion p f ≡ Some (held, requested)) ⊎ ((held ≡ f.hole.own) × (hole_request p f ≡ Some requested))
-- or that the converted mode of the one who comes through is compatible with its mode.
IsBlamed p (Pair requested held) f = (option_map (converted p f.hole.own) (hole_request p f) ≡ Some requested) × (held ≡ f.mode)

-- Key-value locking on a unique index, after ARIES/KVL (C. Mohan, VLDB 1990); which mode an insert takes, by the own mode on the next name, is this project's choice.
use Rattle.std.specs.Prelude.{ℕ, false, List, [], ◌∷◌, Option, None, if◌then◌else◌}
use Rattle.kr_model.specs.declared.Row.{Row}
use Rattle.kr_model.specs.declared.Row.TheVariants.{FetchHit, FetchMiss, ScanKey, ScanStop, Insert, Delete, Update}
use Rattle.kr_model.specs.declared.Side.{Side}
use Rattle.kr_model.specs.declared.Side.TheVariants.{Current, Next}
use Rattle.kr_model.specs.declared.Span.{Span}
use Rattle.kr_model.specs.Protocol.{Protocol}
use Rattle.kr_model.specs.Matrices.{stands_in, ok_by, convert_by, for_commit, at_once}

-- Intention shared.
abbrev pub IS : ℕ
IS = 1

-- Intention exclusive.
abbrev pub IX : ℕ
IX = 2

-- Shared.
abbrev pub S : ℕ
S = 3

-- Shared, with intention exclusive.
abbrev pub SIX : ℕ
SIX = 4

-- Exclusive.
abbrev pub X : ℕ
X = 5

-- For each mode requested, the held modes that it is compatible with; the lines are those of IS, IX, S, SIX and X.
abbrev pub kvl_beside : List (List ℕ)
kvl_beside =
    (IS ∷ IX ∷ S ∷ SIX ∷ [])
    ∷ (IS ∷ IX ∷ [])
    ∷ (IS ∷ S ∷ [])
    ∷ (IS ∷ [])
    ∷ []
    ∷ []

-- For each held mode, the mode after asking for IS, IX, S, SIX and X; the lines are those of held IS, IX, S, SIX and X.
abbrev pub kvl_converted : List (List ℕ)
kvl_converted =
    (IS ∷ IX ∷ S ∷ SIX ∷ X ∷ [])
    ∷ (IX ∷ IX ∷ SIX ∷ SIX ∷ X ∷ [])
    ∷ (S ∷ SIX ∷ S ∷ SIX ∷ X ∷ [])
    ∷ (SIX ∷ SIX ∷ SIX ∷ SIX ∷ X ∷ [])
    ∷ (X ∷ X ∷ X ∷ X ∷ X ∷ [])
    ∷ []

-- What each row and side requests.
abbrev pub kvl_ask : Row → Side → ℕ → Option (ℕ × Span)
kvl_ask FetchHit Current own = for_commit S
kvl_ask FetchMiss Next own = for_commit S
kvl_ask ScanKey Current own = for_commit S
kvl_ask ScanStop Next own = for_commit S
kvl_ask Insert Current own = if stands_in (S ∷ SIX ∷ X ∷ []) own then for_commit X else for_commit IX
kvl_ask Insert Next own = at_once IX
kvl_ask Delete Current own = at_once X
kvl_ask Delete Next own = for_commit X
kvl_ask FetchHit Next own = None
kvl_ask FetchMiss Current own = None
kvl_ask ScanKey Next own = None
kvl_ask ScanStop Current own = None
kvl_ask Update side own = None

-- The bundled table of key-value locking.
abbrev pub kvl : Protocol
kvl = record { count = 5; ok = ok_by kvl_beside; convert = convert_by kvl_converted; ask = kvl_ask; updates = false }

-- Index-specific locking, after ARIES/IM (C. Mohan and F. Levine, SIGMOD 1992), as this project's profile has it.
use Rattle.std.specs.Prelude.{ℕ, false, List, [], ◌∷◌, Option, None}
use Rattle.kr_model.specs.declared.Row.{Row}
use Rattle.kr_model.specs.declared.Row.TheVariants.{FetchHit, FetchMiss, ScanKey, ScanStop, Insert, Delete, Update}
use Rattle.kr_model.specs.declared.Side.{Side}
use Rattle.kr_model.specs.declared.Side.TheVariants.{Current, Next}
use Rattle.kr_model.specs.declared.Span.{Span}
use Rattle.kr_model.specs.Protocol.{Protocol}
use Rattle.kr_model.specs.Matrices.{ok_by, convert_by, for_commit, at_once}

-- Shared.
abbrev pub S : ℕ
S = 1

-- Exclusive.
abbrev pub X : ℕ
X = 2

-- For each mode requested, the held modes that it is compatible with; the lines are those of S and X.
abbrev pub im_beside : List (List ℕ)
im_beside =
    (S ∷ [])
    ∷ []
    ∷ []

-- For each held mode, the mode after asking for S and X; the lines are those of held S and X.
abbrev pub im_converted : List (List ℕ)
im_converted =
    (S ∷ X ∷ [])
    ∷ (X ∷ X ∷ [])
    ∷ []

-- What each row and side requests.
abbrev pub im_ask : Row → Side → ℕ → Option (ℕ × Span)
im_ask FetchHit Current own = for_commit S
im_ask FetchMiss Next own = for_commit S
im_ask ScanKey Current own = for_commit S
im_ask ScanStop Next own = for_commit S
im_ask Insert Current own = for_commit X
im_ask Insert Next own = at_once X
im_ask Delete Current own = at_once X
im_ask Delete Next own = for_commit X
im_ask FetchHit Next own = None
im_ask FetchMiss Current own = None
im_ask ScanKey Next own = None
im_ask ScanStop Current own = None
im_ask Update side own = None

-- The bundled table of index-specific locking.
abbrev pub im : Protocol
im = record { count = 2; ok = ok_by im_beside; convert = convert_by im_converted; ask = im_ask; updates = false }

-- Which shares fit an engine of two seats: a share that doesn't can't come from its seats, so no call shows that it is told.
use Rattle.std.proofs.Common.{◌≡◌, ℕ, true, false, [], ◌∷◌, None, Some, refl}
use Rattle.kr_records.specs.declared.name.Entry.{Entry}
use Rattle.kr_records.specs.Cores.{no_seat}
use Rattle.kr_records.specs.declared.notes.SeatNote.{SeatNote}
use Rattle.kr_records.specs.Closed.{Lent, fits}

-- A seat that left and had done nothing.
abbrev pub gone : SeatNote
gone = record { count = 0; last = None; left = true }

-- Its share.
abbrev pub nothing_of : ℕ → Lent
nothing_of k = record { seat = k; count = 0; last = None; view = [] }

-- Nothing was done.
pub before : fits (gone ∷ no_seat ∷ []) [] (nothing_of 0) ≡ true
before = refl

-- The seat hasn't left.
pub not_left : fits (no_seat ∷ gone ∷ []) [] (nothing_of 0) ≡ false
not_left = refl

-- Seat 0 has an entry, and the share has no receipt.
pub too_few : (e : Entry) → fits (record { count = 1; last = Some 1; left = true } ∷ gone ∷ []) (e ∷ []) (nothing_of 0) ≡ false
too_few e = refl

-- Seat 1 has none.
pub beside : (e : Entry) → fits (record { count = 1; last = Some 1; left = true } ∷ gone ∷ []) (e ∷ []) (nothing_of 1) ≡ true
beside e = refl

-- Seat 2 wasn't given.
pub not_given : (e : Entry) → fits (record { count = 1; last = Some 1; left = true } ∷ gone ∷ []) (e ∷ []) (nothing_of 2) ≡ false
not_given e = refl

-- What a table says, and its meaning as a locking protocol.
use Rattle.std.specs.Prelude.{◌≡◌, ℕ, ◌+◌, ◌*◌, ◌&&◌, List, [], ◌∷◌, ◌++◌, length, Bool, true, nat_lt, nat_le, Option, Some, None, slice_index_or, unwrap_or, is_some}
use Rattle.std.specs.List.{list_all}
use Rattle.kr_model.specs.declared.Row.{Row}
use Rattle.kr_model.specs.declared.Row.TheVariants.{FetchHit, FetchMiss, ScanKey, ScanStop, Insert, Delete, Update}
use Rattle.kr_model.specs.declared.Side.{Side}
use Rattle.kr_model.specs.declared.Side.TheVariants.{Current, Next}
use Rattle.kr_model.specs.declared.Span.{Span}
use Rattle.kr_model.specs.Protocol.{Protocol}
use Rattle.kr_table.specs.Matrix.{Matrix, ok_of, convert_of}
use Rattle.kr_table.specs.DocumentFaults.{is_good}

-- The mode and the span that are requested, or nothing.
abbrev pub Request : Type 0
Request = Option (ℕ × Span)

-- The modes with their names and matrices, and what each row requests at its sides. Insert and delete have a request for
-- each own mode on the next name, from 0, for no lock. Where updates are offered, the last is what they request.
pub record TableData : Type 0 where
  pub modes : Matrix
  pub fetch_hit : Request
  pub fetch_miss : Request
  pub scan_key : Request
  pub scan_stop : Request
  pub insert_current : List Request
  pub insert_next : List Request
  pub delete_current : List Request
  pub delete_next : List Request
  pub update : Option Request

-- Its meaning --

-- What a row requests at a side, where the requester holds this mode on the next name.
abbrev pub ask_of : TableData → Row → Side → ℕ → Request
ask_of x FetchHit Current own = x.fetch_hit
ask_of x FetchMiss Next own = x.fetch_miss
ask_of x ScanKey Current own = x.scan_key
ask_of x ScanStop Next own = x.scan_stop
ask_of x Insert Current own = slice_index_or x.insert_current own None
ask_of x Insert Next own = slice_index_or x.insert_next own None
ask_of x Delete Current own = slice_index_or x.delete_current own None
ask_of x Delete Next own = slice_index_or x.delete_next own None
ask_of x FetchHit Next own = None
ask_of x FetchMiss Current own = None
ask_of x ScanKey Next own = None
ask_of x ScanStop Current own = None
ask_of x Update Current own = unwrap_or x.update None
ask_of x Update Next own = None

-- The protocol that a table is.
abbrev pub protocol_of : TableData → Protocol
protocol_of x = record { count = length x.modes.names; ok = ok_of x.modes; convert = convert_of x.modes; ask = ask_of x; updates = is_some x.update }

-- What holds of every table, as tests --

-- Whether modes may have these names after those before them.
abbrev pub are_good : List (List ℕ) → List (List ℕ) → Bool
are_good before [] = true
are_good before (n ∷ ns) = is_good before n && are_good (before ++ n ∷ []) ns

-- Whether a number is one of m modes.
abbrev pub in_range : ℕ → ℕ → Bool
in_range m c = nat_lt 0 c && nat_le c m

-- Whether what is requested, if anything, is one of m modes.
abbrev pub asks_mode : ℕ → Request → Bool
asks_mode m None = true
asks_mode m (Some (q, s)) = in_range m q

-- A request for each own mode, from 0, and each for one of m modes.
pub record IsAsked (m : ℕ) (rs : List Request) : Type 0 where
  pub whole : length rs ≡ m + 1
  pub modes : list_all (asks_mode m) rs ≡ true

-- 1 to 15 modes with good names, two whole squares, and no conversion or request that leaves the modes.
pub record IsTable (x : TableData) : Type 0 where
  pub some : nat_lt 0 (length x.modes.names) ≡ true
  pub few : nat_lt (length x.modes.names) 16 ≡ true
  pub named : are_good [] x.modes.names ≡ true
  pub compatible : length x.modes.compatible ≡ length x.modes.names * length x.modes.names
  pub conversion : length x.modes.conversion ≡ length x.modes.names * length x.modes.names
  pub conversions : list_all (in_range (length x.modes.names)) x.modes.conversion ≡ true
  pub fetch_hit : asks_mode (length x.modes.names) x.fetch_hit ≡ true
  pub fetch_miss : asks_mode (length x.modes.names) x.fetch_miss ≡ true
  pub scan_key : asks_mode (length x.modes.names) x.scan_key ≡ true
  pub scan_stop : asks_mode (length x.modes.names) x.scan_stop ≡ true
  pub insert_current : IsAsked (length x.modes.names) x.insert_current
  pub insert_next : IsAsked (length x.modes.names) x.insert_next
  pub delete_current : IsAsked (length x.modes.names) x.delete_current
  pub delete_next : IsAsked (length x.modes.names) x.delete_next
  pub update : asks_mode (length x.modes.names) (unwrap_or x.update None) ≡ true

-- The names of modes, with their compatibility and their conversion.
use Rattle.std.specs.Prelude.{◌≡◌, ◌≢◌, ℕ, ◌+◌, ◌-◌, ◌*◌, ◌<◌, ◌≤◌, ◌||◌, Bool, false, not, ◌&&◌, nat_lt, nat_le, ◌==◌, if◌then◌else◌, List, All, AllPairs, length, map, slice_index_or, String}
use Rattle.std.specs.Global.{Global}
use Rattle.std.specs.Int.{bit_at}
use Rattle.std.specs.String.{string_bytes}
use Rattle.kr_model.specs.ModeNames.{IsModeName, name_of}

-- the modes are 1 to the number of names; each of the two squares has a row for each mode, one after another
pub record Matrix : Type 0 where
  pub names : List (List ℕ)
  -- a row for each mode requested, with an entry for each mode held
  pub compatible : List Bool
  -- a row for each mode held, with an entry for each mode requested
  pub conversion : List ℕ

-- the matrix of these three lists
abbrev pub matrix_of : List (String Global) → List Bool → List ℕ → Matrix
matrix_of names compatible conversion = record { names = map string_bytes names; compatible = compatible; conversion = conversion }

-- 1 to 15 modes with distinct names, two whole squares, and no conversion that leaves the modes
pub record IsMatrix (x : Matrix) : Type 0 where
  pub some : 0 < length x.names
  pub few : length x.names ≤ 15
  pub named : All IsModeName x.names
  pub distinct : AllPairs (λ a b. a ≢ b) x.names
  pub compatible_square : length x.compatible ≡ length x.names * length x.names
  pub conversion_square : length x.conversion ≡ length x.names * length x.names
  pub conversion_modes : All (λ m. (0 < m) × (m ≤ length x.names)) x.conversion

-- whether a request in mode q is compatible with a lock held in mode h; where one of them is 0, it is
abbrev pub ok_of : Matrix → ℕ → ℕ → Bool
ok_of x q h = (q == 0) || ((h == 0) || slice_index_or x.compatible ((q - 1) * length x.names + (h - 1)) false)

-- the mode of one who holds h and requests q; 0 adds nothing
abbrev pub convert_of : Matrix → ℕ → ℕ → ℕ
convert_of x h q = if h == 0 then q else (if q == 0 then h else slice_index_or x.conversion ((h - 1) * length x.names + (q - 1)) 0)

-- m is the mode with this name
abbrev pub IsNamed : Matrix → List ℕ → ℕ → Type 0
IsNamed x name m = (0 < m) × (m ≤ length x.names) × (name_of x.names m ≡ name)

-- h is a mode, and a request in mode q conflicts with it
abbrev pub conflicts_of : Matrix → ℕ → ℕ → Bool
conflicts_of x q h = (nat_lt 0 h && nat_le h (length x.names)) && not (ok_of x q h)

-- bit h of r is set exactly where h is a mode, and a request in mode q conflicts with it
abbrev pub IsRowOf : Matrix → ℕ → ℕ → Type 0
IsRowOf x q r = (h : ℕ) → bit_at r h ≡ (if conflicts_of x q h then 1 else 0)

-- row q stands at place q, for no lock and for each mode
abbrev pub AreRowsOf : Matrix → List ℕ → Type 0
AreRowsOf x rows = (q : ℕ) → q ≤ length x.names → IsRowOf x q (slice_index_or rows q 0)

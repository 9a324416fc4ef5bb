-- The words that a program is called with.
use Rattle.std.specs.Prelude.{◌≡◌, ◌≢◌, ◌||◌, ℕ, List, Bool, Some, bytes_eq, codes, slice_get}

-- A word can name a table or a file: it doesn't begin with a hyphen.
abbrev pub IsPlain : List ℕ → Type 0
IsPlain word = slice_get word 0 ≢ Some 45

-- A word never names a file: it begins with `@`.
abbrev pub IsNoFile : List ℕ → Type 0
IsNoFile word = slice_get word 0 ≡ Some 64

-- Whether a word is that of a bundled table.
abbrev pub is_bundled : List ℕ → Bool
is_bundled word =
    bytes_eq word (codes "@kvl") || bytes_eq word (codes "@kvl-update") || bytes_eq word (codes "@im") || bytes_eq word (codes "@range-key")

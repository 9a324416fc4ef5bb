-- How many places a row may have.
use Rattle.std.specs.Prelude.{ℕ, Bool, ◌&&◌, nat_lt, nat_le}

abbrev pub has_size : ℕ → Bool
has_size places = nat_lt 0 places && nat_le places 1000000

-- Keys with their values, as scripts and reports have them.
use Rattle.std.specs.Prelude.{ℕ, List, map}
use Rattle.serde_json.specs.Data.{Data, array, item, no_items}
use Rattle.serde_json.specs.View.{items_of}
use Rattle.kr_script.specs.Json.{whole}

-- A key with its value.
abbrev pub pair_data : ℕ × ℕ → Data
pair_data p = array (item (whole p.0) (item (whole p.1) no_items))

-- Keys with their values, in their order.
abbrev pub pairs_data : List (ℕ × ℕ) → Data
pairs_data ps = array (items_of (map pair_data ps))

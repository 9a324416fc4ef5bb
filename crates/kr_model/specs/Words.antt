-- The words and codes of rows, sides, durations, groups of cases and covers, as tables and reports have them.
use Rattle.std.specs.Prelude.{ℕ, List, codes}
use Rattle.kr_model.specs.declared.Cover.{Cover}
use Rattle.kr_model.specs.declared.Cover.TheVariants as cover
use Rattle.kr_model.specs.declared.Row.{Row}
use Rattle.kr_model.specs.declared.Row.TheVariants as row
use Rattle.kr_model.specs.declared.Rule.{Rule}
use Rattle.kr_model.specs.declared.Rule.TheVariants as rule
use Rattle.kr_model.specs.declared.Side.{Side}
use Rattle.kr_model.specs.declared.Side.TheVariants as side
use Rattle.kr_model.specs.declared.Span.{Span}
use Rattle.kr_model.specs.declared.Span.TheVariants as span

-- A row, as tables name it.
abbrev pub row_word : Row → List ℕ
row_word row.FetchHit = codes "fetch-hit"
row_word row.FetchMiss = codes "fetch-miss"
row_word row.ScanKey = codes "scan-key"
row_word row.ScanStop = codes "scan-stop"
row_word row.Insert = codes "insert"
row_word row.Delete = codes "delete"
row_word row.Update = codes "update"

-- A side, as tables name it.
abbrev pub side_word : Side → List ℕ
side_word side.Current = codes "current"
side_word side.Next = codes "next"

-- The place of a row in its order, from 0.
abbrev pub row_number : Row → ℕ
row_number row.FetchHit = 0
row_number row.FetchMiss = 1
row_number row.ScanKey = 2
row_number row.ScanStop = 3
row_number row.Insert = 4
row_number row.Delete = 5
row_number row.Update = 6

-- The place of a side in its order, from 0.
abbrev pub side_number : Side → ℕ
side_number side.Current = 0
side_number side.Next = 1

-- A duration, as tables name it.
abbrev pub span_word : Span → List ℕ
span_word span.Instant = codes "instant"
span_word span.Commit = codes "commit"

-- The code of a group of cases.
abbrev pub rule_code : Rule → List ℕ
rule_code rule.Conversion = codes "G1"
rule_code rule.FetchHit = codes "G2"
rule_code rule.FetchMiss = codes "G3"
rule_code rule.ScanKey = codes "G4"
rule_code rule.ScanStop = codes "G5"
rule_code rule.Insert = codes "G6"
rule_code rule.Split = codes "G7"
rule_code rule.Delete = codes "G8"
rule_code rule.Update = codes "G9"

-- The number of a group of cases.
abbrev pub rule_number : Rule → ℕ
rule_number rule.Conversion = 1
rule_number rule.FetchHit = 2
rule_number rule.FetchMiss = 3
rule_number rule.ScanKey = 4
rule_number rule.ScanStop = 5
rule_number rule.Insert = 6
rule_number rule.Split = 7
rule_number rule.Delete = 8
rule_number rule.Update = 9

-- The code of a cover.
abbrev pub cover_code : Cover → List ℕ
cover_code cover.ReadKey = codes "RK"
cover_code cover.ReadGap = codes "RG"
cover_code cover.InsertedKey = codes "IK"
cover_code cover.DeletedGap = codes "DG"
cover_code cover.UpdatedKey = codes "UK"

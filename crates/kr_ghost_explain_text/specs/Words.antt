-- The words of rules of tables with ghosts.
use Rattle.std.specs.Prelude.{ℕ, List, codes}
use Rattle.kr_ghost.specs.declared.cases.Access.{Access}
use Rattle.kr_ghost.specs.declared.cases.Access.TheVariants as access
use Rattle.kr_ghost.specs.declared.cases.Rule.{Rule}
use Rattle.kr_ghost.specs.declared.cases.Rule.TheVariants as rule

-- The number of a group of cases, from 1.
abbrev pub rule_number : Rule → ℕ
rule_number rule.Conversion = 1
rule_number rule.FetchHit = 2
rule_number rule.FetchMiss = 3
rule_number rule.ScanName = 4
rule_number rule.ScanStop = 5
rule_number rule.Insert = 6
rule_number rule.Split = 7
rule_number rule.Delete = 8
rule_number rule.Update = 9
rule_number rule.Revive = 10
rule_number rule.Heir = 11
rule_number rule.InsertHit = 12
rule_number rule.DeleteMiss = 13
rule_number rule.UpdateMiss = 14

-- The row of a rule.
abbrev pub row_words : Rule → List ℕ
row_words rule.Conversion = codes "conversion"
row_words rule.FetchHit = codes "fetch-hit"
row_words rule.FetchMiss = codes "fetch-miss"
row_words rule.ScanName = codes "scan-key"
row_words rule.ScanStop = codes "scan-stop"
row_words rule.Insert = codes "insert"
row_words rule.Split = codes "insert"
row_words rule.Delete = codes "delete"
row_words rule.Update = codes "update"
row_words rule.Revive = codes "revive"
row_words rule.Heir = codes "purge"
row_words rule.InsertHit = codes "insert-hit"
row_words rule.DeleteMiss = codes "delete-miss"
row_words rule.UpdateMiss = codes "update-miss"

-- What the row requests its lock on.
abbrev pub side_words : Rule → List ℕ
side_words rule.Conversion = codes "its key"
side_words rule.FetchHit = codes "its key"
side_words rule.FetchMiss = codes "the next name"
side_words rule.ScanName = codes "its key"
side_words rule.ScanStop = codes "the next name"
side_words rule.Insert = codes "its new key"
side_words rule.Split = codes "its new key"
side_words rule.Delete = codes "its key"
side_words rule.Update = codes "its key"
side_words rule.Revive = codes "its key"
side_words rule.Heir = codes "the next name"
side_words rule.InsertHit = codes "its key"
side_words rule.DeleteMiss = codes "the next name"
side_words rule.UpdateMiss = codes "the next name"

-- What an access requests its lock on.
abbrev pub access_side : Access → List ℕ
access_side access.Fetch = codes "its key"
access_side access.Scan = codes "its key"
access_side access.Delete = codes "its key"
access_side access.Update = codes "its key"
access_side access.Revive = codes "its key"
access_side access.Insert = codes "the next name"
access_side access.InsertHit = codes "its key"

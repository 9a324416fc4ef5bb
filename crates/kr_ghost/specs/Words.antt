-- The codes of groups of cases and of covers, and the words of what is requested.
use Rattle.std.specs.Prelude.{ℕ, List, codes}
use Rattle.kr_ghost.specs.declared.cases.Rule.{Rule}
use Rattle.kr_ghost.specs.declared.cases.Rule.TheVariants as rule
use Rattle.kr_ghost.specs.declared.cases.Cover.{Cover}
use Rattle.kr_ghost.specs.declared.cases.Cover.TheVariants as cover
use Rattle.kr_ghost.specs.declared.cases.Access.{Access}
use Rattle.kr_ghost.specs.declared.cases.Access.TheVariants as access

-- The code of a group of cases.
abbrev pub rule_code : Rule → List ℕ
rule_code rule.Conversion = codes "G1"
rule_code rule.FetchHit = codes "G2"
rule_code rule.FetchMiss = codes "G3"
rule_code rule.ScanName = codes "G4"
rule_code rule.ScanStop = codes "G5"
rule_code rule.Insert = codes "G6"
rule_code rule.Split = codes "G7"
rule_code rule.Delete = codes "G8"
rule_code rule.Update = codes "G9"
rule_code rule.Revive = codes "G10"
rule_code rule.Heir = codes "G11"
rule_code rule.InsertHit = codes "G12"
rule_code rule.DeleteMiss = codes "G13"
rule_code rule.UpdateMiss = codes "G14"

-- The code of a cover.
abbrev pub cover_code : Cover → List ℕ
cover_code cover.ReadKey = codes "RK"
cover_code cover.ReadGap = codes "RG"
cover_code cover.ChangedKey = codes "CK"

-- The row and the side of what is requested.
abbrev pub access_words : Access → List ℕ × List ℕ
access_words access.Fetch = (codes "fetch-hit", codes "current")
access_words access.Scan = (codes "scan-key", codes "current")
access_words access.Delete = (codes "delete", codes "current")
access_words access.Update = (codes "update", codes "current")
access_words access.Revive = (codes "revive", codes "current")
access_words access.Insert = (codes "insert", codes "next")
access_words access.InsertHit = (codes "insert-hit", codes "current")

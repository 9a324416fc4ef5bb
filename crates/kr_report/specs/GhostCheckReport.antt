-- The report of a check of a table with ghosts: the value that it is, and its text.
use Rattle.std.specs.Prelude.{ℕ, List, [], ◌∷◌, map, length}
use Rattle.serde_json.specs.Data.{Data, array}
use Rattle.serde_json.specs.View.{items_of}
use Rattle.serde_json.specs.Written.{compact_text}
use Rattle.kr_ghost.specs.declared.cases.Access.{Access}
use Rattle.kr_ghost.specs.declared.cases.Access.TheVariants as access
use Rattle.kr_ghost.specs.declared.cases.Requester.{Requester}
use Rattle.kr_ghost.specs.declared.cases.FailedCase.{FailedCase}
use Rattle.kr_ghost.specs.Protocol.{GhostProtocol}
use Rattle.kr_ghost.specs.Covers.{cases}
use Rattle.kr_ghost.specs.Words.{rule_code, cover_code, access_words}
use Rattle.kr_model.specs.ModeNames.{name_of}
use Rattle.kr_report.specs.CheckReport.{accepted_data, case_data, from_data, rejected_data, request_data}

-- The requester's mode on the next name, where that on the name is `own`: an insert requests on the next name, and nothing else looks there.
abbrev pub own_next : Access → ℕ → ℕ
own_next access.Insert own = own
own_next _ own = 0

-- A requester that is let through: the row and the side of its request, and its own modes on the name and on the next name.
abbrev pub requester_data : List (List ℕ) → Requester → Data
requester_data names x = request_data (access_words x.access).0 (access_words x.access).1 (name_of names x.own) (name_of names (own_next x.access x.own))

-- A failed case.
abbrev pub failed_data : List (List ℕ) → FailedCase → Data
failed_data names f = case_data (rule_code f.case) (cover_code f.cover) (from_data names f.from) (name_of names f.mode) (requester_data names f.hole)

-- Failed cases, in their order.
abbrev pub failed_list : List (List ℕ) → List FailedCase → Data
failed_list names fs = array (items_of (map (failed_data names) fs))

-- A check of a protocol whose modes have these names, with the cases that fail: none where it is accepted.
abbrev pub check_data : GhostProtocol → List (List ℕ) → List FailedCase → Data
check_data p names [] = accepted_data (length (cases p)) p.table.count
check_data p names (f ∷ fs) = rejected_data (length (cases p)) (failed_list names (f ∷ fs)) p.table.count

-- The text of a check's report.
abbrev pub check_text : GhostProtocol → List (List ℕ) → List FailedCase → List ℕ
check_text p names failed = compact_text (check_data p names failed)

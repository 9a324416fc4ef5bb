-- The report of a check: the value that it is, and its text.
use Rattle.std.specs.Prelude.{ℕ, true, false, List, [], ◌∷◌, codes, map, length}
use Rattle.serde_json.specs.Data.{Data, boolean, string, array, object, item, no_items, member, no_members}
use Rattle.serde_json.specs.View.{items_of}
use Rattle.serde_json.specs.Written.{compact_text}
use Rattle.kr_model.specs.declared.Origin.{Origin}
use Rattle.kr_model.specs.declared.Origin.TheVariants as origin
use Rattle.kr_model.specs.declared.Requester.{Requester}
use Rattle.kr_model.specs.declared.FailedCase.{FailedCase}
use Rattle.kr_model.specs.Protocol.{Protocol}
use Rattle.kr_model.specs.Covers.{cases}
use Rattle.kr_model.specs.ModeNames.{name_of}
use Rattle.kr_model.specs.Words.{row_word, side_word, rule_code, cover_code}
use Rattle.kr_script.specs.Json.{whole}

-- A mode, by its name.
abbrev pub mode_data : List (List ℕ) → ℕ → Data
mode_data names m = string (name_of names m)

-- The modes that a case is taken at.
abbrev pub from_data : List (List ℕ) → Origin → Data
from_data names (origin.Own own) = array (item (mode_data names own) no_items)
from_data names (origin.Conversion held asked) = array (item (mode_data names held) (item (mode_data names asked) no_items))
from_data names (origin.Insert own_next own) = array (item (mode_data names own_next) (item (mode_data names own) no_items))

-- A request that is let through: its row and side, and the own modes on its name and on the next name.
abbrev pub request_data : List ℕ → List ℕ → List ℕ → List ℕ → Data
request_data row side own own_next = array (item (string row) (item (string side) (item (string own) (item (string own_next) no_items))))

-- An open place.
abbrev pub place_data : List (List ℕ) → Requester → Data
place_data names x = request_data (row_word x.row) (side_word x.side) (name_of names x.own) (name_of names x.own_next)

-- A case that fails: the codes of its group and of what a lock has to protect, the modes that it is taken at, the mode that lets a request through, and this request.
abbrev pub case_data : List ℕ → List ℕ → Data → List ℕ → Data → Data
case_data case cover from mode let_in =
    object (member (codes "case") (string case)
    (member (codes "cover") (string cover)
    (member (codes "from") from
    (member (codes "mode") (string mode)
    (member (codes "open") let_in no_members)))))

-- A failed case.
abbrev pub failed_data : List (List ℕ) → FailedCase → Data
failed_data names f = case_data (rule_code f.case) (cover_code f.cover) (from_data names f.from) (name_of names f.mode) (place_data names f.hole)

-- Failed cases, in their order.
abbrev pub failed_list : List (List ℕ) → List FailedCase → Data
failed_list names fs = array (items_of (map (failed_data names) fs))

-- A check of which all cases hold, so many, of a protocol with so many modes.
abbrev pub accepted_data : ℕ → ℕ → Data
accepted_data cases modes =
    object (member (codes "accepted") (boolean true)
    (member (codes "cases") (whole cases)
    (member (codes "modes") (whole modes) no_members)))

-- The same where these of the cases fail.
abbrev pub rejected_data : ℕ → Data → ℕ → Data
rejected_data cases failed modes =
    object (member (codes "accepted") (boolean false)
    (member (codes "cases") (whole cases)
    (member (codes "failed") failed
    (member (codes "modes") (whole modes) no_members))))

-- A check of a protocol whose modes have these names, with the cases that fail: none where it is accepted.
abbrev pub check_data : Protocol → List (List ℕ) → List FailedCase → Data
check_data p names [] = accepted_data (length (cases p)) p.count
check_data p names (f ∷ fs) = rejected_data (length (cases p)) (failed_list names (f ∷ fs)) p.count

-- The text of a check's report.
abbrev pub check_text : Protocol → List (List ℕ) → List FailedCase → List ℕ
check_text p names failed = compact_text (check_data p names failed)

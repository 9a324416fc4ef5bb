-- Values that come next among the tokens of a text.
use Rattle.std.specs.Prelude.{◌≡◌, ◌<◌, ℕ, List, [], ◌∷◌, length, codes, Some, None}
use Rattle.json.specs.Token.{Token}
use Rattle.json.specs.Json.{Json, after_end_array, value}
use Rattle.serde_json.specs.Data.{Data, array, string}
use Rattle.serde_json.specs.Read.{of_json}
use Rattle.serde_json.specs.View.{items_of}
use Rattle.kr_model.specs.declared.Op.{Op}
use Rattle.kr_model.specs.declared.Op.TheVariants.{Fetch, Scan, Go, Insert, Delete, Update, Commit, Abort, Back}
use Rattle.kr_ghost.specs.declared.moves.Move.{Move}
use Rattle.kr_ghost.specs.declared.moves.Move.TheVariants.{Attempt, Purge}
use Rattle.kr_script.specs.Json.{whole}

-- One value comes next, which nests no deeper than the number, and then these tokens.
pub record IsNext (depth : ℕ) (old : List Token) (d : Data) (new : List Token) : Type 0 where
  pub json : Json
  pub is : value depth old ≡ Some (json, new)
  pub reads : of_json json ≡ Some d
  pub more : after_end_array old ≡ None
  pub shorter : length new < length old

-- These values come next, one after another.
abbrev pub AreNext : ℕ → List Token → List Data → List Token → Type 0
AreNext depth old [] new = new ≡ old
AreNext depth old (d ∷ ds) new = (between : List Token) × IsNext depth old d between × AreNext depth between ds new

-- The word of an operation.
abbrev pub word_of : Op → List ℕ
word_of (Fetch k) = codes "fetch"
word_of (Scan lo hi) = codes "scan"
word_of Go = codes "go"
word_of (Insert k v) = codes "insert"
word_of (Delete k) = codes "delete"
word_of (Update k v) = codes "update"
word_of Commit = codes "commit"
word_of Abort = codes "abort"
word_of Back = codes "back"

-- The numbers behind it.
abbrev pub behind_word : Op → List Data
behind_word (Fetch k) = whole k ∷ []
behind_word (Scan lo hi) = whole lo ∷ whole hi ∷ []
behind_word Go = []
behind_word (Insert k v) = whole k ∷ whole v ∷ []
behind_word (Delete k) = whole k ∷ []
behind_word (Update k v) = whole k ∷ whole v ∷ []
behind_word Commit = []
behind_word Abort = []
behind_word Back = []

-- The values of a move: the number of a transaction, and the word of an operation with its numbers; or the word of a purge with its key.
abbrev pub values_of_move : Move → List Data
values_of_move (Attempt e) = whole e.txn ∷ string (word_of e.op) ∷ behind_word e.op
values_of_move (Purge k) = string (codes "purge") ∷ whole k ∷ []

-- The step that a move is written as.
abbrev pub step_of_move : Move → Data
step_of_move m = array (items_of (values_of_move m))

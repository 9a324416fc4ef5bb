-- What each change of an entry does to a table.
use Rattle.std.specs.Prelude.{◌≡◌, ℕ, ◌++◌, List, All, Bool, true, false, Option, Some, None, IfSome, String, bytes_eq, codes, decimal, filter, flat_map, map, string_bytes}
use Rattle.std.specs.Global.{Global}
use Rattle.kr_model.specs.declared.Event.{Event}
use Rattle.kr_model.specs.Map.{Map}
use Rattle.kr_model.specs.Protocol.{Protocol}
use Rattle.kr_theorem.specs.Wrong.{GoesWrong}
use Rattle.kr_change.specs.declared.change.Change.{Change}
use Rattle.kr_change.specs.GhostChanges.{changed_index}
use Rattle.kr_change.specs.GhostEvery.{index_changes_of}
use Rattle.kr_change.specs.ChangeNames.{change_words, entry_words}
use Rattle.kr_explain_core.specs.Lines.{IsLineOf}
use Rattle.kr_ghost.specs.Protocol.{GhostProtocol}
use Rattle.kr_ghost_explain.specs.Lines.{IsGhostLineOf}
use Rattle.kr_ghost_explain.specs.Wrong.{GoesWrongBy}
use Rattle.kr_kinds.specs.Kinds.{IndexProtocol, Gone, Leaves, table_of}
use Rattle.kr_script.specs.GhostScript.{GhostScript}
use Rattle.kr_relax_core.specs.declared.outcome.Judged.{Judged}
use Rattle.kr_relax_core.specs.declared.outcome.Outcome.{Outcome}
use Rattle.kr_relax_core.specs.declared.outcome.Outcome.TheVariants.{NoChange, BlocksMore, LetsNothingMore, Unsafe, Relaxes}
use Rattle.kr_relax_core.specs.Outcomes.{IsJudged}
use Rattle.kr_relax_text.specs.declared.reasons.Reason.{Reason}

-- Those of some changes that are of the entry of this name.
abbrev pub of_entry : Protocol → List (List ℕ) → List ℕ → List Change → List Change
of_entry p names name all = filter (λ c. bytes_eq (entry_words p names c) name) all

-- The changes of p that are of it.
abbrev pub changes_of_entry : IndexProtocol → List (List ℕ) → List ℕ → List Change
changes_of_entry p names name = of_entry (table_of p) names name (index_changes_of p)

-- A line reads as a script that goes wrong under p.
pub record IsWrongGone (p : Protocol) (line : List ℕ) : Type 0 where
  pub opening : Map
  pub steps : List Event
  pub wrong : GoesWrong p opening steps
  pub is_line : IsLineOf opening steps line

-- The same with ghosts, whose purges may come between the steps.
pub record IsWrongLeaving (p : GhostProtocol) (line : List ℕ) : Type 0 where
  pub script : GhostScript
  pub wrong : GoesWrongBy p script.opening script.moves
  pub is_line : IsGhostLineOf script line

-- By the kind of p.
abbrev pub IsWrongLine : IndexProtocol → List ℕ → Type 0
IsWrongLine (Gone p) line = IsWrongGone p line
IsWrongLine (Leaves p) line = IsWrongLeaving p line

-- A script, if there is one, goes wrong under p with the change.
abbrev pub HasWrong : IndexProtocol → Change → Option (String Global) → Type 0
HasWrong p c script = IfSome script (λ line. IsWrongLine (changed_index p c) (string_bytes line))

-- So does that of a reason.
abbrev pub IsWrong : IndexProtocol → Reason → Type 0
IsWrong p r = HasWrong p r.judged.change r.wrong

-- A reason has a script only where the table with the change isn't safe.
abbrev pub IsWrongOnly : Reason → Type 0
IsWrongOnly r = IfSome r.wrong (λ line. r.judged.outcome ≡ Unsafe)

-- What the reasons of a list are of.
abbrev pub judged_in : List Reason → List Judged
judged_in list = map (λ r. r.judged) list

-- The list says what each of these changes does to p, in their order; its scripts go wrong, and only a change that leaves p unsafe has one.
pub record AreReasons (p : IndexProtocol) (changes : List Change) (list : List Reason) : Type 0 where
  pub same : map (λ j. j.change) (judged_in list) ≡ changes
  pub judged : All (IsJudged p) (judged_in list)
  pub wrong : All (IsWrong p) list
  pub only : All IsWrongOnly list

-- The change of a reason is a relaxation.
abbrev pub is_relaxation : Outcome → Bool
is_relaxation (Relaxes width) = true
is_relaxation _ = false

abbrev pub IsRelaxing : Reason → Type 0
IsRelaxing r = is_relaxation r.judged.outcome ≡ true

-- The text --

-- What a change does.
abbrev pub outcome_words : Outcome → List ℕ
outcome_words NoChange = codes "no change of the table"
outcome_words BlocksMore = codes "blocks more somewhere"
outcome_words LetsNothingMore = codes "lets nothing more through"
outcome_words Unsafe = codes "not safe"
outcome_words (Relaxes width) = codes "a relaxation, more granted: " ++ decimal width

-- A script that goes wrong, if there is one.
abbrev pub wrong_words : Option (String Global) → List ℕ
wrong_words None = codes "\n"
wrong_words (Some line) = codes ", as this goes wrong\n   " ++ (string_bytes line ++ codes "\n")

-- A change, and what it does.
unfoldable pub reason_words : Protocol → List (List ℕ) → Reason → List ℕ
reason_words p names r = change_words p names r.judged.change ++ (codes "\n   " ++ (outcome_words r.judged.outcome ++ wrong_words r.wrong))

-- So each of some.
abbrev pub reasons_words : Protocol → List (List ℕ) → List Reason → List ℕ
reasons_words p names list = flat_map (reason_words p names) list

-- What is printed of a part, and whether all is well with it, by what is asked.
use Rattle.std.specs.Prelude.{◌≡◌, ◌≢◌, ◌⊎◌, ◌↔◌, ℕ, Bool, true, IsTrue, List, [], ◌∷◌, ◌++◌, Option, None, length}
use Rattle.kr_model.specs.Protocol.{Protocol}
use Rattle.kr_ghost.specs.Protocol.{GhostProtocol, IsLawfulGhost}
use Rattle.kr_ghost.specs.Safe.{IsSafeGhost}
use Rattle.kr_ghost_follow.specs.Following.{Stand}
use Rattle.kr_ghost_follow.specs.Points.{Point}
use Rattle.kr_ghost_follow.specs.Report.{ghost_part_text}
use Rattle.kr_trace_lines.specs.declared.deviation.Deviation.{Deviation}
use Rattle.kr_trace_lines.specs.declared.verdict.TraceVerdict.{TraceVerdict}
use Rattle.kr_trace_parts.specs.Committed.{IsVerdict}
use Rattle.kr_trace_parts.specs.Parts.{Part}
use Rattle.kr_trace_parts.specs.Printed.{IsPrintedAgainst, IsPrintedInCommitOrder, IsPrintedInSomeOrder, IsSerialVerdict, deviation_in}
use Rattle.kr_trace_parts.specs.Tales.{committed_in}
use Rattle.kr_cli_trace.specs.OnePart.{IsShown, cut_words}

-- What is asked of each part: whether it is as a table without ghosts or with ghosts has it, whose modes have these names, and serializable in commit order; whether it is serializable in commit order; or in some order; or, of the part with this number alone, the first of these as a text, for a table of either kind.
pub data Question : Type 0 where
  against : Protocol → List (List ℕ) → Question
  against_ghosts : GhostProtocol → List (List ℕ) → Question
  in_commit_order : Question
  in_some_order : Question
  one_part : Protocol → List (List ℕ) → ℕ → Question
  one_ghost_part : GhostProtocol → List (List ℕ) → ℕ → Question

-- Where a table with ghosts is safe, all is well with a part that conforms to it: the verdict on its answers says that they are serializable.
abbrev pub IsWellWhereSafe : GhostProtocol → Option Deviation → Bool → Type 0
IsWellWhereSafe p found well = IsLawfulGhost p → IsSafeGhost p → found ≡ None → IsTrue well

-- The text of a part that has this number, and whether all is well with it.
abbrev pub IsPrinted : Question → ℕ → Part → List ℕ → Bool → Type 0
IsPrinted (against p names) n s text well = IsPrintedAgainst p names n s text well
IsPrinted (against_ghosts p names) n s text well =
    (points : List Point) × (queued : ℕ) × (found : Option Deviation) × (cut : Option ℕ) × (v : TraceVerdict)
    × Stand p s.opening s.steps points queued found × IsVerdict s.opening (committed_in s.steps) v
    × (text ≡ ghost_part_text names n found queued (length points) cut s.tests v ++ 10 ∷ []) × (IsTrue well ↔ ((found ≡ None) × IsSerialVerdict v)) × IsWellWhereSafe p found well
IsPrinted (one_part p names asked) n s text well = ((n ≡ asked) × IsShown names n s (deviation_in p s) text well) ⊎ ((n ≢ asked) × ((text ≡ []) × (well ≡ true)))
IsPrinted (one_ghost_part p names asked) n s text well =
    ((n ≡ asked) × ((points : List Point) × (queued : ℕ) × (found : Option Deviation) × (cut : Option ℕ) × (shown : List ℕ)
    × Stand p s.opening s.steps points queued found × IsShown names n s found shown well × (text ≡ shown ++ cut_words found cut) × IsWellWhereSafe p found well))
    ⊎ ((n ≢ asked) × ((text ≡ []) × (well ≡ true)))
IsPrinted in_commit_order n s text well = IsPrintedInCommitOrder n s text well
IsPrinted in_some_order n s text well = IsPrintedInSomeOrder n s text well

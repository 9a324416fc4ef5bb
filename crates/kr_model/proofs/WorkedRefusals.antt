-- Worked examples of refusals: which comes first, and where `Memory` may be answered.
use Rattle.std.specs.Prelude.{◌≡◌, List, [], ◌∷◌, ◌++◌, map, true, false, refl}
use Rattle.kr_model.specs.Covers.{count_up}
use Rattle.kr_model.specs.Kvl.{kvl}
use Rattle.kr_model.specs.KvlUpdate.{kvl_update}
use Rattle.kr_model.specs.State.{State, start}
use Rattle.kr_model.specs.Step.{may_lack_memory}
use Rattle.kr_model.specs.Run.{run}
use Rattle.kr_model.specs.declared.Op.TheVariants.{Fetch, Scan, Go, Insert, Delete, Update, Commit, Abort, Back}
use Rattle.kr_model.specs.declared.Event.{Event}
use Rattle.kr_model.specs.declared.Reply.TheVariants as r
use Rattle.kr_model.specs.declared.Refusal.TheVariants as refusal
use Rattle.kr_model.proofs.WorkedRuns.{by, three, replies, report}

-- Which refusal comes first --

-- The 65th transaction: 64 fetch the same key, and the next is refused.
pub the_65th_transaction : replies kvl three (map (λ t. by t (Fetch 10)) (count_up 1 65))
    ≡ map (λ t. r.Found 1) (count_up 1 64) ++ r.Refused refusal.Full ∷ []
the_65th_transaction = refl

-- Ended before Full: transaction 1 has committed and 64 others are active; another new number is refused as one too many.
pub ended_before_full : replies kvl three (by 1 (Fetch 10) ∷ by 1 Commit ∷ (map (λ t. by t (Fetch 10)) (count_up 2 64) ++ by 1 (Fetch 10) ∷ by 66 (Fetch 10) ∷ []))
    ≡ r.Found 1 ∷ r.Committed ∷ (map (λ t. r.Found 1) (count_up 2 64) ++ r.Refused refusal.Ended ∷ r.Refused refusal.Full ∷ [])
ended_before_full = refl

-- Busy before BadRange: a range upside down in the midst of a scan; the scan goes on.
pub busy_before_bad_range : replies kvl three (by 1 (Scan 10 30) ∷ by 1 (Scan 30 10) ∷ by 1 Go ∷ [])
    ≡ r.Going 10 ∷ r.Refused refusal.Busy ∷ r.Going 20 ∷ []
busy_before_bad_range = refl

-- Busy before NoUpdate: an update in the midst of a scan, and one outside it, under a table that offers none.
pub busy_before_no_update : replies kvl three (by 1 (Scan 10 30) ∷ by 1 (Update 20 9) ∷ by 2 (Update 20 9) ∷ [])
    ≡ r.Going 10 ∷ r.Refused refusal.Busy ∷ r.Refused refusal.NoUpdate ∷ []
busy_before_no_update = refl

-- RollingBack before NoScan, BadRange and NoUpdate: who rolls back is told so first.
pub rolling_back_first : replies kvl three (by 1 (Insert 15 5) ∷ by 1 Back ∷ by 1 Go ∷ by 1 (Scan 30 10) ∷ by 1 (Update 20 9) ∷ by 1 Commit ∷ by 1 Back ∷ by 1 Abort ∷ [])
    ≡ r.Done ∷ r.Undone 0 ∷ r.Refused refusal.RollingBack ∷ r.Refused refusal.RollingBack ∷ r.Refused refusal.RollingBack ∷ r.Refused refusal.RollingBack ∷ r.Refused refusal.NothingLeft ∷ r.Aborted ∷ []
rolling_back_first = refl

-- Ended and Full before NothingLeft: by one that has ended, by one too many, and by one that has changed nothing.
pub nothing_left_last : replies kvl three (by 1 Commit ∷ by 1 Back ∷ by 2 Back ∷ (map (λ t. by t (Fetch 10)) (count_up 2 64) ++ by 2 Back ∷ by 66 Back ∷ []))
    ≡ r.Committed ∷ r.Refused refusal.Ended ∷ r.Refused refusal.NothingLeft ∷ (map (λ t. r.Found 1) (count_up 2 64) ++ r.Refused refusal.NothingLeft ∷ r.Refused refusal.Full ∷ [])
nothing_left_last = refl

-- Ended by its first step: a number that never did anything commits or aborts, and attempts no more.
pub ended_by_the_first_step : report kvl three (by 1 Commit ∷ by 1 (Fetch 10) ∷ by 2 Abort ∷ by 2 (Fetch 10) ∷ by 1 Commit ∷ by 2 Abort ∷ [])
    ≡ (
      r.Committed ∷ r.Refused refusal.Ended ∷ r.Aborted ∷ r.Refused refusal.Ended ∷ r.Refused refusal.Ended ∷ r.Refused refusal.Ended ∷ [],
      [],
      three,
      [],
    )
ended_by_the_first_step = refl

-- Memory --

-- The state after these events.
abbrev pub state_after : List Event → State
state_after events = let r = run kvl (start three) events in r.state

-- `Memory` may not be answered to the commit and the abort of an active transaction.
pub ends_take_no_memory : map (may_lack_memory kvl (state_after (by 1 (Insert 15 5) ∷ [])) 1) (Commit ∷ Abort ∷ []) ≡ false ∷ false ∷ []
ends_take_no_memory = refl

-- Nor to a change undone, of one in the midst of a scan too.
pub back_takes_no_memory : may_lack_memory kvl (state_after (by 1 (Insert 15 5) ∷ [])) 1 Back ∷ may_lack_memory kvl (state_after (by 1 (Insert 15 5) ∷ by 1 (Scan 10 30) ∷ [])) 1 Back ∷ [] ≡ false ∷ false ∷ []
back_takes_no_memory = refl

-- Nor to the abort of one in the midst of a scan.
pub abort_in_a_scan_takes_no_memory : may_lack_memory kvl (state_after (by 1 (Scan 10 30) ∷ [])) 1 Abort ≡ false
abort_in_a_scan_takes_no_memory = refl

-- It may be to those of a new number, which is written down as ended.
pub ends_of_a_new_number_take_memory : map (may_lack_memory kvl (state_after (by 1 (Insert 15 5) ∷ [])) 2) (Commit ∷ Abort ∷ []) ≡ true ∷ true ∷ []
ends_of_a_new_number_take_memory = refl

-- It may be to every other operation that isn't refused: granted or blocked.
pub others_take_memory : map (may_lack_memory kvl (state_after (by 2 (Fetch 15) ∷ [])) 1) (Fetch 10 ∷ Scan 10 30 ∷ Insert 17 5 ∷ Delete 10 ∷ []) ≡ true ∷ true ∷ true ∷ true ∷ []
others_take_memory = refl

-- So it may to an update, where updates are offered.
pub updates_take_memory : may_lack_memory kvl_update (state_after (by 2 (Fetch 15) ∷ [])) 1 (Update 10 4) ≡ true
updates_take_memory = refl

-- It stands in place of no other refusal: of an update that isn't offered, and of a change undone where none is left.
pub later_refusals_take_no_memory : map (may_lack_memory kvl (state_after []) 1) (Update 10 4 ∷ Back ∷ []) ≡ false ∷ false ∷ []
later_refusals_take_no_memory = refl

-- Nor of a number that has ended, of a scan that isn't there, and of a range upside down.
pub refusals_take_no_memory : map (may_lack_memory kvl (state_after (by 1 Commit ∷ [])) 1) (Fetch 10 ∷ Commit ∷ [])
    ++ map (may_lack_memory kvl (state_after []) 1) (Go ∷ Scan 30 10 ∷ []) ≡ false ∷ false ∷ false ∷ false ∷ []
refusals_take_no_memory = refl

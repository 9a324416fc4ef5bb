-- How far a trace is read.
use Rattle.std.specs.Prelude.{◌≡◌, ◌≤◌, ℕ, ◌+◌, Bool, ◌&&◌, List, Option, Some, None, length}
use Rattle.std.specs.Io.KnownBytes.{Appends}
use Rattle.kr_model.specs.Map.{IsMap}
use Rattle.kr_trace_lines.specs.Lines.{TraceLine, head, step, order}
use Rattle.kr_trace_lines.specs.Parts.{PartLines}
use Rattle.kr_trace_parts.specs.Parts.{Part, HaveNoFault, after_all, at_start, ended_in}
use Rattle.kr_trace_parts.specs.Printed.{AreWritten, CommitsOnce}

-- A part in progress stands for what is said of it, which has this number, if there is one.
abbrev pub StandsFor : {T : Type 0} → (T → ℕ → Part → Type 0) → ℕ → Option T → Option Part → Type 0
StandsFor stands n None None = Unit {0}
StandsFor stands n None (Some s) = ⊥
StandsFor stands n (Some x) None = ⊥
StandsFor stands n (Some x) (Some s) = stands x n s

-- What is printed of a part in progress, if there is one, is what is asked.
abbrev pub IsAsked : {T : Type 0} → (T → ℕ → Part → List ℕ → Bool → Type 0) → (ℕ → Part → List ℕ → Bool → Type 0) → Option T → Type 0
IsAsked asked P None = Unit {0}
IsAsked asked P (Some x) = (n : ℕ) (s : Part) (text : List ℕ) (well : Bool) → asked x n s text well → P n s text well

-- What is asked of a part in progress was asked of it before.
abbrev pub StillAsks : {T : Type 0} → (T → ℕ → Part → List ℕ → Bool → Type 0) → Option T → Option T → Type 0
StillAsks asked None None = Unit {0}
StillAsks asked None (Some y) = ⊥
StillAsks asked (Some x) None = ⊥
StillAsks asked (Some x) (Some y) = (n : ℕ) (s : Part) (text : List ℕ) (well : Bool) → asked y n s text well → asked x n s text well

-- No transaction of a part in progress commits twice, if there is one.
abbrev pub CommitOnce : Option Part → Type 0
CommitOnce None = Unit {0}
CommitOnce (Some s) = CommitsOnce s

-- A part in progress has ended, if there was one: what is asked of it was written, and whether all is well so far is whether it was, and is with this part.
abbrev pub HasEnded : {T : Type 0} → (T → ℕ → Part → List ℕ → Bool → Type 0) → Option T → Option Part → ℕ → Option (List ℕ) → Option (List ℕ) → Bool → Bool → Type 0
HasEnded asked None s n old new was well = (new ≡ old) × (well ≡ was)
HasEnded asked (Some x) None n old new was well = ⊥
HasEnded asked (Some x) (Some s) n old new was well =
    (text : List ℕ) × (is_well : Bool) × asked x n s text is_well × Appends old new text × (well ≡ (was && is_well))

-- Lines without a fault were read: what is asked was written of each part of theirs that has ended, and the part in progress stands for what they say of it; its number is the next.
pub record IsRead {T : Type 0} (stands : T → ℕ → Part → Type 0) (asked : T → ℕ → Part → List ℕ → Bool → Type 0) (P : ℕ → Part → List ℕ → Bool → Type 0) (front : List (List ℕ)) (old now : Option (List ℕ)) (ended : ℕ) (well : Bool) (kept : PartLines) (part : Option T) : Type 0 where
  pub faultless : HaveNoFault at_start front
  pub written : AreWritten P (ended_in front) old now well
  pub count : ended ≡ length (ended_in front)
  pub few : ended ≤ length front
  pub in_progress : StandsFor stands (ended + 1) part (let r = after_all at_start front in r.current)
  pub is_asked : IsAsked asked P part
  pub keeps : kept ≡ (let r = after_all at_start front in r.kept)

-- The keys of an opening rise, where the line is a head.
abbrev pub RisesIn : TraceLine → Type 0
RisesIn (head opening tests) = IsMap opening
RisesIn (step e o) = Unit {0}
RisesIn (order ts) = Unit {0}

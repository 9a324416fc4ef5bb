-- What a change of one entry does to a table.
use Rattle.std.specs.Prelude.{◌≡◌, true, false}
use Rattle.kr_kinds.specs.Kinds.{IndexProtocol, IsSafeIndex}
use Rattle.kr_change.specs.declared.change.Change.{Change}
use Rattle.kr_change.specs.GhostChanges.{changed_index, is_index_change}
use Rattle.kr_relax_core.specs.declared.outcome.Outcome.{Outcome}
use Rattle.kr_relax_core.specs.declared.outcome.Outcome.TheVariants as outcome
use Rattle.kr_relax_core.specs.declared.outcome.Judged.{Judged}
use Rattle.kr_relax_core.specs.Twins.{Differs, IsWeaker, GrantsMore}
use Rattle.kr_relax_core.specs.Width.{IsWidth}
use Rattle.kr_relax_core.specs.Relaxations.{IsRelaxation}

-- The change blocks nothing more, and lets nothing more through.
pub record GrantsNoMore (p : IndexProtocol) (c : Change) : Type 0 where
  pub change : is_index_change p c ≡ true
  pub weaker : IsWeaker p (changed_index p c)
  pub no_more : GrantsMore p (changed_index p c) → ⊥

-- It blocks nothing more and lets more through, and the table with it isn't safe.
pub record IsUnsafeWith (p : IndexProtocol) (c : Change) : Type 0 where
  pub change : is_index_change p c ≡ true
  pub weaker : IsWeaker p (changed_index p c)
  pub more : GrantsMore p (changed_index p c)
  pub unsafe : IsSafeIndex (changed_index p c) → ⊥

-- The outcome of a change is right.
abbrev pub IsOutcome : IndexProtocol → Change → Outcome → Type 0
IsOutcome p c outcome.NoChange = is_index_change p c ≡ false
IsOutcome p c outcome.BlocksMore = (is_index_change p c ≡ true) × Differs p (changed_index p c) false
IsOutcome p c outcome.LetsNothingMore = GrantsNoMore p c
IsOutcome p c outcome.Unsafe = IsUnsafeWith p c
IsOutcome p c (outcome.Relaxes n) = IsRelaxation p c × IsWidth p c n

-- So is that of a change that was judged.
abbrev pub IsJudged : IndexProtocol → Judged → Type 0
IsJudged p j = IsOutcome p j.change j.outcome

-- A change to another mode is of the same entry.
use Rattle.std.specs.Prelude.{ℕ}
use Rattle.kr_model.specs.declared.Row.{Row}
use Rattle.kr_model.specs.declared.Row.TheVariants as row
use Rattle.kr_model.specs.declared.Side.{Side}
use Rattle.kr_model.specs.declared.Side.TheVariants.{Current, Next}
use Rattle.kr_ghost.specs.declared.cases.Access.{Access}
use Rattle.kr_ghost.specs.declared.cases.Access.TheVariants as access
use Rattle.kr_ghost.specs.declared.cases.Rule.{Rule}
use Rattle.kr_ghost.specs.declared.cases.Rule.TheVariants as rule
use Rattle.kr_change.specs.declared.change.GhostRow.{GhostRow}
use Rattle.kr_change.specs.declared.change.GhostRow.TheVariants.{Revive, InsertHit, DeleteMiss, UpdateMiss}
use Rattle.kr_change.specs.declared.change.Change.{Change}
use Rattle.kr_change.specs.declared.change.Change.TheVariants as change
use Rattle.kr_change.specs.Changes.{with_mode}
use Rattle.kr_ghost_explain.specs.declared.blame.GhostBlame.{GhostBlame}
use Rattle.kr_ghost_explain.specs.declared.blame.GhostBlame.TheVariants as blame
use Rattle.kr_ghost_explain.specs.Mends.{IsAt, IsAtGhostRow, IsOfAccess, IsOfBlame, IsOfRule}

at_with : (r : Row) (s : Side) (m : ℕ) (t : Change) → IsAt r s t → IsAt r s (with_mode m t)
at_with r s m (change.Request q z own_next request) is = is
at_with r s m (change.GhostRequest q z request) is = absurd is
at_with r s m (change.Convert held requested mode) is = absurd is
at_with r s m (change.Heir held mode) is = absurd is
at_with r s m (change.Compatible requested held is_compatible) is = absurd is

at_ghost_row_with : (r : GhostRow) (s : Side) (m : ℕ) (t : Change) → IsAtGhostRow r s t → IsAtGhostRow r s (with_mode m t)
at_ghost_row_with r s m (change.Request q z own_next request) is = absurd is
at_ghost_row_with r s m (change.GhostRequest q z request) is = is
at_ghost_row_with r s m (change.Convert held requested mode) is = absurd is
at_ghost_row_with r s m (change.Heir held mode) is = absurd is
at_ghost_row_with r s m (change.Compatible requested held is_compatible) is = absurd is

of_access_with : (a : Access) (m : ℕ) (t : Change) → IsOfAccess a t → IsOfAccess a (with_mode m t)
of_access_with access.Fetch m t is = at_with row.FetchHit Current m t is
of_access_with access.Scan m t is = at_with row.ScanKey Current m t is
of_access_with access.Delete m t is = at_with row.Delete Current m t is
of_access_with access.Update m t is = at_with row.Update Current m t is
of_access_with access.Revive m t is = at_ghost_row_with Revive Current m t is
of_access_with access.Insert m t is = at_with row.Insert Next m t is
of_access_with access.InsertHit m t is = at_ghost_row_with InsertHit Current m t is

of_rule_with : (r : Rule) (m : ℕ) (t : Change) → IsOfRule r t → IsOfRule r (with_mode m t)
of_rule_with rule.Conversion m t is = absurd is
of_rule_with rule.FetchHit m t is = at_with row.FetchHit Current m t is
of_rule_with rule.FetchMiss m t is = at_with row.FetchMiss Next m t is
of_rule_with rule.ScanName m t is = at_with row.ScanKey Current m t is
of_rule_with rule.ScanStop m t is = at_with row.ScanStop Next m t is
of_rule_with rule.Insert m t is = absurd is
of_rule_with rule.Split m t is = absurd is
of_rule_with rule.Delete m t is = at_with row.Delete Current m t is
of_rule_with rule.Update m t is = at_with row.Update Current m t is
of_rule_with rule.Revive m t is = at_ghost_row_with Revive Current m t is
of_rule_with rule.Heir m t is = absurd is
of_rule_with rule.InsertHit m t is = at_ghost_row_with InsertHit Current m t is
of_rule_with rule.DeleteMiss m t is = at_ghost_row_with DeleteMiss Next m t is
of_rule_with rule.UpdateMiss m t is = at_ghost_row_with UpdateMiss Next m t is

pub of_with : (b : GhostBlame) (m : ℕ) (t : Change) → IsOfBlame b t → IsOfBlame b (with_mode m t)
of_with (blame.Void a) m t is = of_access_with a m t is
of_with (blame.Request r asked) m t is = of_rule_with r m t is
of_with (blame.NewKey k) m t is = at_with row.Insert Current m t is
of_with (blame.Heir k) m (change.Request q z own_next request) is = absurd is
of_with (blame.Heir k) m (change.GhostRequest q z request) is = absurd is
of_with (blame.Heir k) m (change.Convert held requested mode) is = absurd is
of_with (blame.Heir k) m (change.Heir held mode) is = tt
of_with (blame.Heir k) m (change.Compatible requested held is_compatible) is = absurd is
of_with (blame.Conversion h q k) m (change.Request r z own_next request) is = absurd is
of_with (blame.Conversion h q k) m (change.GhostRequest r z request) is = absurd is
of_with (blame.Conversion h q k) m (change.Convert held requested mode) is = is
of_with (blame.Conversion h q k) m (change.Heir held mode) is = absurd is
of_with (blame.Conversion h q k) m (change.Compatible requested held is_compatible) is = absurd is
of_with (blame.Pair q h) m (change.Request r z own_next request) is = absurd is
of_with (blame.Pair q h) m (change.GhostRequest r z request) is = absurd is
of_with (blame.Pair q h) m (change.Convert held requested mode) is = absurd is
of_with (blame.Pair q h) m (change.Heir held mode) is = absurd is
of_with (blame.Pair q h) m (change.Compatible requested held is_compatible) is = is

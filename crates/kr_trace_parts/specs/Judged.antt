-- How far the steps of a part have been judged in commit order.
use Rattle.std.specs.Prelude.{◌≡◌, ℕ, List, Option}
use Rattle.std.specs.BTreeMap.{BTreeMap}
use Rattle.kr_model.specs.Map.{Map}
use Rattle.kr_trace_follow.specs.Lines.{Line}
use Rattle.kr_trace_follow.specs.Programs.{no_tale}
use Rattle.kr_trace_lines.specs.declared.verdict.TraceVerdict.{TraceVerdict}
use Rattle.kr_trace_parts.specs.Committed.{IsFirstFound, map_left}
use Rattle.kr_trace_parts.specs.Tales.{committed_in, noted, told_after}
use Rattle.kr_trace_parts.specs.declared.tales.Tale.{Tale}

-- What the transactions that haven't ended have done is noted; the map is the one that the committed programs leave; and what was found is the first wrong answer of theirs.
pub record AreJudged (opening : Map) (steps : List Line) (tales : BTreeMap ℕ Tale) (map : Map) (found : Option TraceVerdict) : Type 0 where
  pub told : (u : ℕ) → noted tales u ≡ told_after (λ t. no_tale) steps u
  pub left : map ≡ map_left opening (committed_in steps)
  pub first : IsFirstFound opening (committed_in steps) found

-- How far a part has been held against a table.
use Rattle.std.specs.Prelude.{◌≡◌, ℕ, List, Option}
use Rattle.std.specs.BTreeMap.{BTreeMap}
use Rattle.kr_model.specs.Protocol.{Protocol}
use Rattle.kr_model.specs.Map.{Map}
use Rattle.kr_trace_lines.specs.declared.deviation.Deviation.{Deviation}
use Rattle.kr_trace_follow.specs.Following.{Following, after_lines, begun}
use Rattle.kr_trace_lines.specs.declared.verdict.TraceVerdict.{TraceVerdict}
use Rattle.kr_trace_parts.specs.Judged.{AreJudged}
use Rattle.kr_trace_parts.specs.Parts.{Part}
use Rattle.kr_trace_parts.specs.declared.tales.Tale.{Tale}

-- The steps were followed under the table, and its first deviation is known; the texts are those of the part's head; and the steps are judged.
pub record IsFollowed (p : Protocol) (s : Part) (own : Protocol) (at : Following) (deviation : Option Deviation) (tests : List (List ℕ)) (tales : BTreeMap ℕ Tale) (map : Map) (found : Option TraceVerdict) : Type 0 where
  pub same : own ≡ p
  pub followed : at ≡ after_lines p (begun s.opening) s.steps
  pub deviates : deviation ≡ at.found
  pub texts : tests ≡ s.tests
  pub judged : AreJudged s.opening s.steps tales map found

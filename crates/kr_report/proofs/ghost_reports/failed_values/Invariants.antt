use Rattle.std.proofs.Common.{◌≡◌, take, map}
use Rattle.serde_json.specs.View.{view}
use Rattle.kr_report.specs.GhostCheckReport.{failed_data}
use Rattle.kr_report.proofs.ghost_reports.failed_values.Given as goal

abbrev pub invariant-loop-case : goal.invariant-loop-case
invariant-loop-case g l = map view l.list.items ≡ map (failed_data (g.P.Protocol.names l.protocol)) (take l.case-index l.failed)

use Rattle.std.proofs.Common.{◌≡◌, ◌++◌, drop, map, string_bytes}
use Rattle.serde_json.specs.View.{items_of}
use Rattle.serde_json.specs.Written.{items_text, compact_text}
use Rattle.kr_report.specs.ThreadsReport.{faults_data, fault_data}
use Rattle.kr_report.proofs.threads_reports.write_faults.Given as goal

-- what is written, then the text of the rest, is the whole
abbrev pub invariant-loop-fault : goal.invariant-loop-fault
invariant-loop-fault l = string_bytes l.out ++ items_text l.later (items_of (map fault_data (drop l.fault-index l.faults))) ≡ string_bytes l.fn.out ++ compact_text (faults_data l.faults)

use Rattle.std.proofs.Common.{◌≡◌, ◌++◌, drop, map, string_bytes}
use Rattle.serde_json.specs.Data.{string}
use Rattle.serde_json.specs.View.{items_of}
use Rattle.serde_json.specs.Written.{items_text, compact_text}
use Rattle.kr_model.specs.ModeNames.{name_of}
use Rattle.kr_report.specs.Report.{locks_data, lock_data}
use Rattle.kr_report.proofs.writing.write_locks.Given as goal

-- what is written, then the text of the rest, is the whole, and the name is that of the mode seen last
abbrev pub invariant-loop-lock : goal.invariant-loop-lock
invariant-loop-lock g l = record {
  written : string_bytes l.out ++ items_text l.later (items_of (map (lock_data (g.P.Protocol.names l.protocol)) (drop l.lock-index l.locks)))
      ≡ string_bytes l.fn.out ++ compact_text (locks_data (g.P.Protocol.names l.protocol) l.locks);
  named : string_bytes l.name ≡ compact_text (string (name_of (g.P.Protocol.names l.protocol) l.named));
}

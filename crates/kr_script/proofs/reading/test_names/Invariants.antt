use Rattle.std.proofs.Common.{◌≡◌}
use Rattle.serde_json.specs.View.{members_view}
use Rattle.kr_script.specs.Faults.{name_faults}
use Rattle.kr_script.proofs.reading.test_names.Given as goal

-- the names so far are known
abbrev pub invariant-loop-name : goal.invariant-loop-name
invariant-loop-name l = name_faults (members_view l.fn.members.entries) ≡ name_faults (members_view l.name-iterator)

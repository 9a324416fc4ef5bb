-- the transactions so far are written, each behind a comma
use Rattle.std.proofs.Common.{◌≡◌, ◌++◌, flat_map, take, string_bytes}
use Rattle.kr_explain_text.specs.Spoken.{txn_behind}
use Rattle.kr_explain_text.proofs.spoken.txns_text.Given as goal

abbrev pub invariant-loop-other : goal.invariant-loop-other
invariant-loop-other l = string_bytes l.out ≡ string_bytes l.initial.out ++ flat_map txn_behind (take l.other-index l.others)

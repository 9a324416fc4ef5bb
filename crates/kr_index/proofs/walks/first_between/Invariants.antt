use Rattle.std.proofs.Common.{◌≡◌}
use Rattle.kr_model.specs.Map.{at}
use Rattle.kr_index.specs.Slots.{pairs_of, least}
use Rattle.kr_index.proofs.SkipLaws.{or_at}
use Rattle.kr_index.proofs.walks.first_between.Given as goal

-- no key so far has a value
abbrev pub invariant-loop-key : goal.invariant-loop-key
invariant-loop-key l = or_at (least (pairs_of l.key-iterator)) (at (pairs_of l.slots.entries) l.end) ≡ at (pairs_of l.slots.entries) l.from

-- the badges of the causes so far
use Rattle.std.proofs.Common.{◌≡◌, take, string_bytes}
use Rattle.kr_view_table.specs.Badges.{badges}
use Rattle.kr_view_table.proofs.badges.badges.Given as goal

abbrev pub invariant-loop-at : goal.invariant-loop-at
invariant-loop-at l = string_bytes l.out ≡ badges l.entry 1 (take l.at l.causes)

use Rattle.std.proofs.Common.{◌≡◌, ◌++◌, codes, decimal, flat_map, map, take}
use Rattle.kr_view_scenes.proofs.words.write_numbers.Given as goal

-- the numbers so far are written, each behind a comma
abbrev pub invariant-loop-number : goal.invariant-loop-number
invariant-loop-number l = l.out ≡ l.initial.out ++ flat_map (λ v. codes ", " ++ v) (map decimal (take l.number-index l.rest))

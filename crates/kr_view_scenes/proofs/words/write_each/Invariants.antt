use Rattle.std.proofs.Common.{◌≡◌, ◌++◌, codes, flat_map, map, take}
use Rattle.kr_view_scenes.specs.Words.{pair_words}
use Rattle.kr_view_scenes.proofs.words.write_each.Given as goal

-- the pairs so far are written, each behind a comma
abbrev pub invariant-loop-pair : goal.invariant-loop-pair
invariant-loop-pair l = l.out ≡ l.initial.out ++ flat_map (λ v. codes ", " ++ v) (map pair_words (take l.pair-index l.rest))

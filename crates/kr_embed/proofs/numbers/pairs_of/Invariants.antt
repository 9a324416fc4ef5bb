use Rattle.std.specs.Prelude.{◌≡◌, map, take}
use Rattle.kr_embed.specs.Numbers.{pair_of}
use Rattle.kr_embed.proofs.numbers.pairs_of.Given as goal

abbrev pub invariant-loop-pair : goal.invariant-loop-pair
invariant-loop-pair l = l.list.items ≡ map pair_of (take l.pair-index l.pairs)

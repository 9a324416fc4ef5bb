use Rattle.std.specs.Prelude.{◌≡◌, map, take}
use Rattle.kr_embed.specs.Numbers.{lock_of}
use Rattle.kr_embed.proofs.numbers.locks_of.Given as goal

abbrev pub invariant-loop-lock : goal.invariant-loop-lock
invariant-loop-lock l = l.list.items ≡ map lock_of (take l.lock-index l.locks)

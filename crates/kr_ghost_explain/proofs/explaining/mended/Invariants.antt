-- the causes so far are told, and the rest is still to come
use Rattle.std.specs.Prelude.{◌≡◌, ◌++◌, All, length}
use Rattle.std.specs.Vec.Iter.{into_iter_items, into_iter_len}
use Rattle.kr_ghost_explain.specs.Mends.{IsMended, causes_of}
use Rattle.kr_ghost_explain.proofs.explaining.mended.Given as goal

abbrev pub invariant-loop-cause : goal.invariant-loop-cause
invariant-loop-cause g l = record {
  causes : l.fn.causes.items ≡ causes_of l.list.items ++ into_iter_items l.cause-iterator;
  told : All (IsMended (g.P.GhostProtocol.ghosts l.protocol) l.failed) l.list.items;
  count : into_iter_len l.cause-iterator ≡ length (into_iter_items l.cause-iterator);
}

use Rattle.std.proofs.Common.{◌≡◌, ◌++◌, List, false, map, reverse}
use Rattle.std.specs.Prelude.{All}
use Rattle.std.specs.Vec.{vec_len}
use Rattle.kr_model.specs.Protocol.{Protocol}
use Rattle.kr_model.specs.Map.{Map}
use Rattle.kr_model.specs.Run as model
use Rattle.kr_threads.specs.Told.{IsToldAt, IsLeftOut, left_between}
use Rattle.kr_threads.proofs.left_out.settle.Given as goal

-- those that are left are told, and so are those that were moved; where no growth was refused, both together are those of the beginning
abbrev pub invariant-loop-fault : goal.invariant-loop-fault
invariant-loop-fault l = record {
  told : (p : Protocol) (opening : Map) (h : List model.Entry) → All (IsToldAt p opening h l.last l.next) l.fn.recent.items → All (IsLeftOut p opening h) l.fn.left_out.items
      → All (IsToldAt p opening h l.last l.next) l.recent.items × All (IsLeftOut p opening h) l.left_out.items;
  all : l.refused ≡ false → l.left_out.items ++ map (left_between l.last l.next) (reverse l.recent.items) ≡ l.fn.left_out.items ++ map (left_between l.last l.next) (reverse l.fn.recent.items);
}

abbrev pub decreases-loop-fault : goal.decreases-loop-fault
decreases-loop-fault l = vec_len l.recent

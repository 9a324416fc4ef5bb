use Rattle.std.proofs.Common.{◌≡◌, ◌≤◌, ◌-◌, take, length}
use Rattle.std.specs.Io.KnownBytes.{Appends}
use Rattle.kr_sink.proofs.sink.put_all.Given as goal

abbrev pub invariant-loop-done : goal.invariant-loop-done
invariant-loop-done g l = record {
  taken : Appends (g.W.Sink.taken l.fn.out) (g.W.Sink.taken l.out) (take l.done l.bytes);
  within : l.done ≤ length l.bytes;
  count : g.W.Sink.failures l.out ≡ g.W.Sink.failures l.fn.out;
}

abbrev pub decreases-loop-done : goal.decreases-loop-done
decreases-loop-done g l = length l.bytes - l.done

-- what was read so far is no more than is wanted, and all that the reader gave
use Rattle.std.specs.Prelude.{◌≤◌, length}
use Rattle.std.specs.Io.KnownBytes.{Consumes}
use Rattle.kr_cli.proofs.reading.first_bytes.Given as goal

abbrev pub invariant-loop : goal.invariant-loop
invariant-loop g l = record {
  within : length l.bytes.items ≤ l.most;
  read : Consumes (g.R.Read.remaining l.fn.reader) (g.R.Read.remaining l.reader) l.bytes.items;
}

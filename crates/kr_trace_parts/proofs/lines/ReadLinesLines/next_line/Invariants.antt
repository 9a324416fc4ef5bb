-- the bytes seen so far have no line feed, and what is left is what was left at first
use Rattle.std.specs.Prelude.{ℕ, List, ◌≤◌, length, drop}
use Rattle.kr_trace_parts.specs.Lines.{HasNoLineFeed, IsLeft}
use Rattle.kr_trace_parts.proofs.lines.ReadLinesLines.next_line.Given as goal

abbrev pub invariant-loop : goal.invariant-loop
invariant-loop g l = record {
  unseen : HasNoLineFeed l.seen (drop l.self.given l.self.ahead.items);
  within : l.seen ≤ length (drop l.self.given l.self.ahead.items);
  same : (bytes : List ℕ) → IsLeft l.self.ended (g.R.Read.remaining l.self.reader) (drop l.self.given l.self.ahead.items) bytes
      → IsLeft l.fn.self.ended (g.R.Read.remaining l.fn.self.reader) (drop l.fn.self.given l.fn.self.ahead.items) bytes;
}

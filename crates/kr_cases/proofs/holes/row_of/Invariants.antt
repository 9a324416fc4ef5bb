use Rattle.std.proofs.Common.{◌≡◌, ℕ, ◌<◌, None, length, slice_index_or}
use Rattle.kr_cases.specs.Holes.{first_open}
use Rattle.kr_cases.proofs.holes.row_of.Given as goal

-- the row tells the requester of each mode so far
abbrev pub invariant-loop-held : goal.invariant-loop-held
invariant-loop-held g l = record {
  wide : length l.row ≡ 16;
  told : (h : ℕ) → h < l.held → slice_index_or l.row h None ≡ first_open (g.P.Protocol.table l.protocol) l.cover h;
}

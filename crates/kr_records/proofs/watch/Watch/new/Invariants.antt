use Rattle.std.proofs.Common.{◌≡◌, take, map}
use Rattle.kr_records.specs.Notes.{name_of, what_of, KnowsNoneFrom}
use Rattle.kr_records.proofs.watch.Watch.new.Given as goal

-- a token for each place so far, which knows nothing
abbrev pub invariant-loop-place : goal.invariant-loop-place
invariant-loop-place g l = record {
  names : map name_of l.known.items ≡ take l.place l.row;
  nothing : KnowsNoneFrom (map what_of l.known.items) 0;
}

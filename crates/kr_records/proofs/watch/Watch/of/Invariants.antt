use Rattle.std.proofs.Common.{◌≡◌, ◌<◌, ℕ, None, slice_index_or, slice_get, length}
use Rattle.kr_records.specs.Notes.{KnowsNoneFrom}
use Rattle.kr_records.proofs.watch.Watch.of.Given as goal

-- it was told of the places so far
abbrev pub invariant-loop-place : goal.invariant-loop-place
invariant-loop-place g l = record {
  long : length l.watch ≡ length g.K.EngineName.places;
  told : (k : ℕ) → k < l.place → slice_index_or l.watch k None ≡ slice_get l.view k;
  others : KnowsNoneFrom l.watch l.place;
}

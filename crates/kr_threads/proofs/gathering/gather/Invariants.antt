use Rattle.std.proofs.Common.{◌≡◌, ◌++◌, map, None}
use Rattle.std.specs.Prelude.{All}
use Rattle.std.specs.List.{flat_map}
use Rattle.kr_threads.specs.Told.{IsToldToOne, first_failure}
use Rattle.kr_threads.proofs.gathering.gather.Given as goal

-- each step so far that was left out is told to one of the shares so far, which are those of the reports so far, and none of these workers gave up
abbrev pub invariant-loop-report : goal.invariant-loop-report
invariant-loop-report g l = record {
  told : All (IsToldToOne g.K.EngineName.table g.K.EngineName.opening l.shares.items) l.left_out.items;
  shares : l.shares.items ≡ map (λ w. w.share) l.yielded;
  left_out : l.left_out.items ≡ flat_map (λ w. w.left_out) l.yielded;
  whole : l.fn.reports.items ≡ l.yielded ++ l.report-iterator.rest.items;
  worked : first_failure l.yielded ≡ None;
}

use Rattle.std.proofs.Common.{◌≡◌, take, true}
use Rattle.std.specs.Prelude.{All}
use Rattle.std.specs.List.{list_all}
use Rattle.kr_records.specs.Closed.{fits, StandsIn}
use Rattle.kr_records.specs.Cores.{CountsAre}
use Rattle.kr_records.proofs.closing.fit_all.Given as goal

-- the shares so far fit, and stand in the history where each seat counts its entries
abbrev pub invariant-loop-share : goal.invariant-loop-share
invariant-loop-share g l = record {
  fit : list_all (fits l.seats l.history) (take l.share-index l.shares) ≡ true;
  stand : CountsAre l.seats l.history → All (StandsIn l.seats l.history) (take l.share-index l.shares);
}

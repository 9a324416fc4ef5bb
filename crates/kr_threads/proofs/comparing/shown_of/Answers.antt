use Rattle.std.proofs.Common.{refl}
use Rattle.kr_threads.proofs.Wholes.{shown_whole}
use Rattle.kr_threads.proofs.comparing.shown_of.Goals as goal

pub returns : goal.returns
returns c = λ p opening steps compared. shown_whole p opening steps c.args.history _ compared c.in_ok-history.ensures refl refl

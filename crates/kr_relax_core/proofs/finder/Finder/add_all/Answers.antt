use Rattle.kr_ghost_decide.specs.Holds.{fact}
use Rattle.kr_kinds.specs.Kinds.{Leaves}
use Rattle.kr_relax_core.proofs.Finding.{more_on}
use Rattle.kr_relax_core.proofs.finder.Finder.add_all.Goals as goal

pub returns : goal.returns
returns g c =
    let p = g.P.GhostProtocol.ghosts c.args.protocol.now.0 in
    let one = c.in_ok-add_asks.ensures in
    let two = c.in_ok-add_new.ensures in
    let three = c.in_ok-add_purges.ensures in
    let more_one = one.more in
    let more_two = two.more in
    let more_three = three.more in
    record {
      more = more_on (Leaves p) _ _ _ (more_on (Leaves p) _ _ _ more_one more_two) more_three;
      all = record {
        asks = λ k low may. more_three.kept _ (more_two.kept _ (one.asks k low may));
        new = λ alone stays. more_three.kept _ (two.new alone stays);
        purges = three.purges;
      };
    }

use Rattle.std.proofs.Common.{◌≡◌, ap, sym, ◌∙◌, subst}
use Rattle.kr_ghost_threads.proofs.Kernels.{told_in_order}
use Rattle.kr_ghost_threads.proofs.run.over.Goals as goal

pub returns : goal.returns
returns g c =
    let p = g.K.GhostRunName.table in
    let opening = g.K.GhostRunName.opening in
    let i = c.kernel.inside in
    let k = c.kernel.invariant (rw (← c.kernel.view_is) at c.in_ok-index.ensures.running) in
    record {
      state = i.stepper.state;
      run = k.history;
      done = k.done;
      ended = rw (← c.kernel.view_is) at c.in_ok-index.ensures.ended;
      told = told_in_order p opening i.faults.items c.in_order-faults.result.items i.history.items c.in_order-faults.ensures k.told;
      index = rw (← c.kernel.view_is) at c.in_ok-index.ensures.index;
      ghosts = rw (← c.kernel.view_is) at c.in_ok-index.ensures.ghosts;
    }

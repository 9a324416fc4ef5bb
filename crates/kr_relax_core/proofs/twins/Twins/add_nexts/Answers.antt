use Rattle.std.proofs.Common.{sym, subst}
use Rattle.kr_relax_core.specs.declared.twins.Twins.{Twins}
use Rattle.kr_relax_core.specs.Twins.{Grows, LeadsTo, twin_at}
use Rattle.kr_relax_core.proofs.Growing.{grows_none, grows_on, nexts_step}
use Rattle.kr_relax_core.proofs.twins.Twins.add_nexts.Goals as goal
use Rattle.kr_relax_core.proofs.twins.Twins.add_nexts.Goals.{then-next-request+in_ok-add, else-next-request}

pub loop-at-preserved : goal.loop-at-preserved
loop-at-preserved g c =
    let p = g.P.IndexProtocol.index c.args.base.now in
    let q = g.Q.IndexProtocol.index c.args.other.now in
    let from = c.args.from.now in
    let at = c.loop-at.at in
    let old = c.loop-at.self in
    let new = c.if-next-request.self in
    let before = c.loop-at.invariant in
    elim c.if-next-request.branch [
      | then-next-request+in_ok-add w ↦
          let more : Grows p q old new = subst (Grows p q old) (sym w.self-is) w.in_ok-add.ensures.grows in
          record {
            grows = grows_on p q c.args.self.now old new before.grows more;
            leads = nexts_step p q old new from at c.args.request c.args.own more before.leads (λ e. subst (λ (t : Twins). LeadsTo p q t.twins.items c.args.request c.args.own (twin_at from at).twin) (sym w.self-is) w.in_ok-add.ensures.leads);
          }
      | else-next-request w ↦
          let well = before.grows in
          let more : Grows p q old new = subst (Grows p q old) (sym w.self-is) (grows_none p q old well.well) in
          record {
            grows = grows_on p q c.args.self.now old new before.grows more;
            leads = nexts_step p q old new from at c.args.request c.args.own more before.leads (λ e. absurd (w.if-next-request.false e));
          }
    ]

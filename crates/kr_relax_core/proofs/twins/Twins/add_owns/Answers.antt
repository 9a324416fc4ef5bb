use Rattle.std.proofs.Common.{length, sym, subst}
use Rattle.kr_relax_core.specs.declared.twins.Twins.{Twins}
use Rattle.kr_relax_core.specs.Twins.{Grows, LeadsNexts, twin_at}
use Rattle.kr_relax_core.proofs.Growing.{grows_none, grows_on, owns_step}
use Rattle.kr_relax_core.proofs.twins.Twins.add_owns.Goals as goal
use Rattle.kr_relax_core.proofs.twins.Twins.add_owns.Goals.{then-own-request+in_ok-add_nexts, else-own-request}

pub loop-at-preserved : goal.loop-at-preserved
loop-at-preserved g c =
    let p = g.P.IndexProtocol.index c.args.base.now in
    let q = g.Q.IndexProtocol.index c.args.other.now in
    let from = c.args.from.now in
    let at = c.loop-at.at in
    let old = c.loop-at.self in
    let new = c.if-own-request.self in
    let before = c.loop-at.invariant in
    elim c.if-own-request.branch [
      | then-own-request+in_ok-add_nexts w ↦
          let more : Grows p q old new = subst (Grows p q old) (sym w.self-is) w.in_ok-add_nexts.ensures.grows in
          record {
            grows = grows_on p q c.args.self.now old new before.grows more;
            leads = owns_step p q old new from at c.args.request more before.leads (λ e. subst (λ (t : Twins). LeadsNexts p q t.twins.items from (length from) c.args.request (twin_at from at).twin) (sym w.self-is) w.in_ok-add_nexts.ensures.leads);
          }
      | else-own-request w ↦
          let well = before.grows in
          let more : Grows p q old new = subst (Grows p q old) (sym w.self-is) (grows_none p q old well.well) in
          record {
            grows = grows_on p q c.args.self.now old new before.grows more;
            leads = owns_step p q old new from at c.args.request more before.leads (λ e. absurd (w.if-own-request.false e));
          }
    ]

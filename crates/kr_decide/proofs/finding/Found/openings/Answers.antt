use Rattle.std.proofs.Common.{ℕ, Bool, ◌↔◌, List, false, IsTrue, get_or, sym, subst, rules}
use Rattle.kr_decide.specs.Pairs.{pair_at}
use Rattle.kr_decide.specs.Opens.{OpensFor}
use Rattle.kr_decide.proofs.Openings.{one_more_test}
use Rattle.kr_decide.proofs.finding.Found.openings.Goals as goal

pub loop-at-preserved : goal.loop-at-preserved
loop-at-preserved g c =
    let p = g.P.Protocol.table c.args.protocol.now in
    let P : ℕ → Bool → Type 0 = λ k b. IsTrue b ↔ OpensFor p c.args.cover (pair_at c.args.self.now.pairs.items k).own (pair_at c.args.self.now.pairs.items k).other in
    record {
      count = search rules;
      opens = λ k below. subst (λ (l : List Bool). P k (get_or l k false)) (sym c.in_ok-push.ensures.items)
          (one_more_test P c.loop-at.list.items c.opens.result c.loop-at.at c.loop-at.invariant.count c.loop-at.invariant.opens c.opens.ensures k below);
    }

pub returns : goal.returns
returns g c = record { size = search rules; each = λ k within. c.loop-at.invariant.opens k (search rules) }

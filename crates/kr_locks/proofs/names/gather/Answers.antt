use Rattle.std.proofs.Common.{◌++◌, ◌∙◌, ap, sym, subst, append_assoc}
use Rattle.std.specs.Map.Iter.{deref_pair}
use Rattle.std.proofs.lemmas.Map.Iter.{rest_more}
use Rattle.kr_model.specs.Locks.{Locks}
use Rattle.kr_locks.specs.Buckets.{Names, AreHolders, name_of, locks_at, listed}
use Rattle.kr_locks.proofs.names.gather.Goals as goal

pub loop-key-preserved : goal.loop-key-preserved
loop-key-preserved c =
    let is = rest_more deref_pair c.loop-key.key-iterator c.next.new.self c.next.result (c.in-Some.key, c.in-Some.bucket) c.in-Some.is c.next.ensures.steps in
    let all = c.loop-key.all.items in
    record {
      listed =
          ap (λ (l : Locks). l ++ listed c.next.new.self) (
          c.in_ok-add_holders.ensures
          ∙ ap (λ hs. all ++ locks_at c.name_of.result hs) c.holders.ensures.holders
          ∙ ap (λ n. all ++ locks_at n c.in-Some.bucket.now) c.name_of.ensures)
          ∙ append_assoc all (locks_at (name_of c.in-Some.key.now) c.in-Some.bucket.now) (listed c.next.new.self)
          ∙ ap (λ (z : Names). all ++ listed z) (sym is)
          ∙ c.loop-key.invariant.listed;
      in_order = λ rest. c.loop-key.invariant.in_order (subst AreHolders (sym is) (c.holders.ensures.in_order, rest));
    }

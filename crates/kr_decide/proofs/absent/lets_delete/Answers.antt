use Rattle.std.proofs.Common.{◌≡◌, ℕ, ◌≤◌, ◌<◌, ◌⊎◌, inl, inr, arith, rules, subst}
use Rattle.kr_model.specs.Protocol.{Protocol}
use Rattle.kr_model.specs.Safe.{LetsDelete}
use Rattle.kr_decide.specs.Absent.{LetsDeleteOf}
use Rattle.kr_decide.proofs.absent.lets_delete.Goals as goal

-- Where no own mode below the greatest is let in, nor that one, none is.
lets_none : (p : Protocol) (m n : ℕ) → p.count ≤ n → ((o : ℕ) → o < n → LetsDeleteOf p m o → ⊥) → (LetsDeleteOf p m n → ⊥) → LetsDelete p m → ⊥
lets_none p m n all below last h = split (below_or_last (let w = h.own_within in omega arith))
  where
    below_or_last : h.own ≤ n → (h.own < n) ⊎ (h.own ≡ n)
    below_or_last e = grind arith

    of_own : LetsDeleteOf p m h.own
    of_own = record { next = h.next; within = h.next_within; granted = h.granted }

    split : (h.own < n) ⊎ (h.own ≡ n) → ⊥
    split (inl b) = below h.own b of_own
    split (inr e) = last (subst (LetsDeleteOf p m) e of_own)

pub returns-else-lets_delete_of : goal.returns-else-lets_delete_of
returns-else-lets_delete_of g c =
    let p = g.P.Protocol.table c.args.protocol.now in
    let none : LetsDelete p c.args.mode → ⊥ = lets_none p c.args.mode c.loop-own.own (search rules) c.loop-own.invariant (search rules) in
    ((λ t. cc), λ h. absurd (none h))

-- A line that goes on with its scan.
use Rattle.std.specs.Prelude.{◌≡◌, ℕ, zero, suc, ◌+◌, ◌-◌, ◌<◌, ◌≤◌, true, false, refl, if◌then◌else◌}
use Rattle.std.proofs.Common.{ap, ◌∙◌, arith}
use Rattle.kr_model.specs.declared.Op.TheVariants as op
use Rattle.kr_model.specs.Locks.{Locks}
use Rattle.kr_ghost.specs.Protocol.{GhostProtocol}
use Rattle.kr_trace_follow.specs.Lines.{Line}
use Rattle.kr_ghost_follow.specs.Points.{Tried, gone_on, is_passed, tried}

-- Where it goes on, it does so for one step less.
pub goes : (p : GhostProtocol) (l : Line) (queue : Locks) (n i : ℕ) (y : Tried) → i < n → is_passed l y.left.state y.ahead y.reply ≡ true → gone_on p l queue (n - i) y ≡ gone_on p l queue (n - (i + 1)) (tried p queue l.event.txn y.left op.Go)
goes p l queue n i y below is =
    ap (λ k. gone_on p l queue k y) step ∙ ap (λ b. if b then gone_on p l queue (n - (i + 1)) (tried p queue l.event.txn y.left op.Go) else y) is
  where
    step : n - i ≡ suc (n - (i + 1))
    step = omega (arith, below)

-- Where it doesn't, the step is the last.
pub stops : (p : GhostProtocol) (l : Line) (queue : Locks) (n : ℕ) (y : Tried) → is_passed l y.left.state y.ahead y.reply ≡ false → gone_on p l queue n y ≡ y
stops p l queue zero y is = refl
stops p l queue (suc n) y is = ap (λ b. if b then gone_on p l queue n (tried p queue l.event.txn y.left op.Go) else y) is

-- And where no more steps may come.
pub ends : (p : GhostProtocol) (l : Line) (queue : Locks) (n i : ℕ) (y : Tried) → n ≤ i → gone_on p l queue (n - i) y ≡ y
ends p l queue n i y past = ap (λ k. gone_on p l queue k y) none
  where
    none : n - i ≡ 0
    none = omega (arith, past)

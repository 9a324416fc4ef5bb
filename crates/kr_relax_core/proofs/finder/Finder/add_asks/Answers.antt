use Rattle.std.proofs.Common.{◌≡◌, ℕ, List, length, get_or, ap, subst, arith}
use Rattle.kr_ghost_decide.specs.declared.ask.Ask.{Ask}
use Rattle.kr_ghost_decide.specs.declared.ask.Ask.TheVariants as ask
use Rattle.kr_ghost_decide.specs.Holds.{asking, fact}
use Rattle.kr_kinds.specs.Kinds.{Leaves}
use Rattle.kr_relax_core.specs.Finding.{FindsAsk, FindsAsks}
use Rattle.kr_relax_core.proofs.Finding.{more_none, more_on}
use Rattle.kr_relax_core.proofs.LeavingSpots.{asks_step}
use Rattle.kr_relax_core.proofs.finder.Finder.add_asks.Goals as goal

pub loop-number-init : goal.loop-number-init
loop-number-init g c = record { more = more_none (Leaves (g.P.GhostProtocol.ghosts c.args.protocol.now.0)) c.args.self.now c.requires.finding; asks = λ k low. absurd (omega arith) }

-- one request more
pub loop-number-preserved : goal.loop-number-preserved
loop-number-preserved g c =
    let p = g.P.GhostProtocol.ghosts c.args.protocol.now.0 in
    let old = c.loop-number.self in
    let new = c.add_ask.new.self in
    let before = c.loop-number.invariant in
    let found = c.in_ok-add_ask.ensures in
    let more = found.more in
    record {
      more = more_on (Leaves p) c.args.self.now old new before.more more;
      asks = asks_step p old.spots.items new.spots.items (fact c.args.pair) c.loop-number.number more.kept before.asks
          (subst (λ (l : List Ask). FindsAsk p new.spots.items (fact c.args.pair) (asking (get_or l c.loop-number.number ask.FetchHit))) c.asks-asks.ensures found.ask);
    }

pub returns : goal.returns
returns g c =
    let p = g.P.GhostProtocol.ghosts c.args.protocol.now.0 in
    let all : length c.asks-asks.result.now ≡ 13 = ap length c.asks-asks.ensures in
    let end : c.loop-number.number ≡ 13 = omega (arith, all) in
    let before = c.loop-number.invariant in
    record { more = before.more; asks = subst (FindsAsks p c.loop-number.self.spots.items (fact c.args.pair)) end before.asks }

use Rattle.std.proofs.Common.{ℕ, ◌≡◌, ◌+◌, ◌∙◌, List, ap, subst, sym, arith}
use Rattle.kr_ghost_decide.specs.declared.hold.Pair.{Pair}
use Rattle.kr_ghost_decide.specs.Every.{AreListed}
use Rattle.kr_ghost_decide.proofs.Complete.{every_listed}
use Rattle.kr_ghost_decide.proofs.Listing.{listed_none, listed_more, listed_same}
use Rattle.kr_ghost_decide.proofs.every.pairs_of.Goals as goal
use Rattle.kr_ghost_decide.proofs.every.pairs_of.Goals.{in-Some+in_ok-push, in_default}

pub loop-place-init : goal.loop-place-init
loop-place-init g c = listed_none (g.P.GhostProtocol.ghosts c.args.protocol.now) c.in_ok-found.found.marks.items c.new-pairs.result.items c.new-pairs.ensures.items

pub loop-place-preserved : goal.loop-place-preserved
loop-place-preserved g c =
    let p = g.P.GhostProtocol.ghosts c.args.protocol.now in
    let marks = c.in_ok-found.found.marks.items in
    let k = c.loop-place.place in
    elim c.match-at.branch [
      | in-Some+in_ok-push w ↦
          listed_more p marks k c.loop-place.pairs.items c.match-at.pairs.items c.at.result w.in-Some.pair c.loop-place.invariant c.at.ensures.found w.in-Some.is (ap (λ (l : _). l.items) w.pairs-is ∙ w.in_ok-push.ensures.items) w.in-Some.ensures.reached
      | in_default w ↦
          subst (λ (l : List Pair). AreListed p marks (k + 1) l) (sym (ap (λ (l : _). l.items) w.pairs-is)) (listed_same p marks k c.loop-place.pairs.items c.at.result c.loop-place.invariant c.at.ensures.found w.in_default.is)
    ]

pub returns : goal.returns
returns g c =
    let p = g.P.GhostProtocol.ghosts c.args.protocol.now in
    let laws = g.met.P.GhostProtocol.lawful_ghosts c.args.protocol.now in
    let marks = c.in_ok-found.found.marks.items in
    let most = c.loop-place.auto.place-end in
    let least = c.loop-place-test.false in
    let all : c.loop-place.place ≡ 294912 = omega arith in
    every_listed p laws marks c.loop-place.pairs.items c.in_ok-found.ensures.every (subst (λ (k : ℕ). AreListed p marks k c.loop-place.pairs.items) all c.loop-place.invariant)

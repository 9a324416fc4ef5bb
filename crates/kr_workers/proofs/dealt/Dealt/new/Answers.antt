use Rattle.std.proofs.Common.{ℕ, List, sym, subst, arith}
use Rattle.std.specs.Prelude.{◌≢◌, ◌↔◌, [], AllPairs, Contains}
use Rattle.std.proofs.lemmas.List.{take_all}
use Rattle.kr_model.specs.declared.Event.{Event}
use Rattle.kr_workers.specs.Follows.{ops_of}
use Rattle.kr_workers.specs.Dealt.{AreHands}
use Rattle.kr_workers.proofs.Hands.{hands_are}
use Rattle.kr_workers.proofs.Firsts.{occurs_exactly, firsts_apart}
use Rattle.kr_workers.proofs.dealt.Dealt.new.Goals as goal

pub returns : goal.returns
returns c =
    let events = c.args.events.now in
    let txns = c.loop-dealt.txns.items in
    let all : AreHands events txns c.loop-dealt.hands = subst (λ (es : List Event). AreHands es txns c.loop-dealt.hands) (take_all c.loop-dealt.dealt events (omega (arith, c.loop-dealt.invariant.0))) c.loop-dealt.invariant.1 in
    record {
      txns = all.firsts_are;
      occur = λ t. subst (λ (ts : List ℕ). Contains ts t ↔ (ops_of t events ≢ [])) (sym all.firsts_are) (occurs_exactly t events);
      each_once = subst (λ (ts : List ℕ). AllPairs (λ t u. t ≢ u) ts) (sym all.firsts_are) (firsts_apart events);
      ops = hands_are events txns c.loop-dealt.hands all;
    }

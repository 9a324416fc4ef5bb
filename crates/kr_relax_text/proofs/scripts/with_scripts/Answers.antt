use Rattle.std.proofs.Common.{◌≡◌, ◌<◌, ◌+◌, ◌++◌, ◌∷◌, [], get_or, length, rules, subst, sym, take}
use Rattle.kr_relax_text.specs.Scripts.{AreShown, IsShown}
use Rattle.kr_relax_text.proofs.Showing.{one_more}
use Rattle.kr_relax_text.proofs.scripts.with_scripts.Goals as goal

pub loop-relaxed-preserved : goal.loop-relaxed-preserved
loop-relaxed-preserved g c =
    let p = g.P.IndexProtocol.index c.args.protocol.now in
    let k = c.loop-relaxed.relaxed-index in
    let within : k < length c.args.relaxations.now = search (rules, c.loop-relaxed-test.true) in
    let is : c.in_ok-one.one.relaxed ≡ get_or c.args.relaxations.now k c.in_ok-one.one.relaxed = search (rules, within, c.in_ok-one.ensures.relaxed) in
    let shown : IsShown p c.in_ok-one.one = c.in_ok-one.ensures.script in
    let items : c.push.new.self.items ≡ c.loop-relaxed.list.items ++ (c.in_ok-one.one ∷ []) = c.in_ok-push.ensures.items in
    subst (AreShown p (take (k + 1) c.args.relaxations.now)) (sym items) (one_more p c.args.relaxations.now k c.loop-relaxed.list.items c.in_ok-one.one within c.loop-relaxed.invariant is shown)

use Rattle.std.proofs.Common.{◌≡◌, ◌≤◌, arith}
use Rattle.kr_model.specs.Protocol.{Protocol}
use Rattle.kr_alike.specs.declared.coming.Coming.{Coming}
use Rattle.kr_alike.proofs.Growing.{has_start}
use Rattle.kr_alike.proofs.Tested.{closed_by_test}
use Rattle.kr_alike.proofs.found.Found.close.Goals as goal

pub loop-before-init : goal.loop-before-init
loop-before-init g c = (c.requires, omega arith, λ e. absurd (let some = c.requires.some in omega arith))

pub returns-clause-closed : goal.returns-clause-closed
returns-clause-closed g c =
    let p : Protocol = g.P.Protocol.table c.args.first.now in
    let q : Protocol = g.Q.Protocol.table c.args.second.now in
    let w : Coming = c.args.coming.now in
    let i = c.loop-before.invariant in
    let found = i.0 in
    let most : c.loop-before.self.count ≤ c.loop-before.before = c.loop-before-test.false in
    let least : c.loop-before.before ≤ c.loop-before.self.count = i.1 in
    let same : c.loop-before.self.count ≡ c.loop-before.before = omega arith in
    λ t. closed_by_test p q w (g.met.P.Protocol.lawful c.args.first.now) (g.met.Q.Protocol.lawful c.args.second.now) c.loop-before.self.marks.items (has_start p q w c.loop-before.self found) (i.2 same)

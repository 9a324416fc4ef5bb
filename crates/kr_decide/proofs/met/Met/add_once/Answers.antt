use Rattle.std.proofs.Common.{ℕ, ◌≡◌, ◌∙◌, true, false, set, get_or, ap, subst, rules, arith}
use Rattle.std.proofs.lemmas.List.{get_or_default}
use Rattle.kr_decide.proofs.Marked.{adds_on, plainly_on, most_gone, most_done, done_one}
use Rattle.kr_decide.proofs.met.Met.add_once.Goals as goal

pub returns-then-own-clause-marks : goal.returns-then-own-clause-marks
returns-then-own-clause-marks g c = most_gone (g.P.Protocol.table c.args.protocol.now) c.args.self.now c.args.found.now.nexts.items c.args.own c.args.other c.if-own.true

pub returns-then-index-clause-marks : goal.returns-then-index-clause-marks
returns-then-index-clause-marks g c =
    let laws = g.met.P.Protocol.lawful c.args.protocol.now in
    let done = c.args.done.now.items in
    let at = c.place-at.ensures in
    let are = c.requires.done in
    let size = are.size in
    let is : get_or done c.place-at.result true ≡ true = search (rules, c.index.ensures, c.if-index.true) in
    most_done (g.P.Protocol.table c.args.protocol.now) c.args.self.now c.args.found.now.nexts.items done c.args.own c.args.other laws.few c.requires.own c.requires.other c.requires.done
    (subst (λ (n : ℕ). get_or done n false ≡ true) at.value (get_or_default done c.place-at.result false true (omega (arith, size, at.below)) ∙ is))

pub returns-clause-adds : goal.returns-clause-adds
returns-clause-adds g c = adds_on (g.P.Protocol.table c.args.protocol.now) _ _ _ c.add_plain.ensures.adds c.add_nexts.ensures.adds

pub returns-clause-marks : goal.returns-clause-marks
returns-clause-marks g c =
    record {
      plain = plainly_on (g.P.Protocol.table c.args.protocol.now) _ _ c.args.own c.args.other c.add_nexts.ensures.adds c.add_plain.ensures.marks;
      deletes = c.add_nexts.ensures.marks;
    }

pub returns-clause-done : goal.returns-clause-done
returns-clause-done g c =
    let p = g.P.Protocol.table c.args.protocol.now in
    let laws = g.met.P.Protocol.lawful c.args.protocol.now in
    let at = c.place-at.ensures in
    done_one p c.args.self.now c.add_nexts.new.self c.args.found.now.nexts.items c.args.done.now.items _ c.args.own c.args.other laws.few c.requires.own c.requires.other c.if-own.false
    (adds_on p _ _ _ c.add_plain.ensures.adds c.add_nexts.ensures.adds) c.requires.done
    (record {
      plain = plainly_on p _ _ c.args.own c.args.other c.add_nexts.ensures.adds c.add_plain.ensures.marks;
      deletes = c.add_nexts.ensures.marks;
    })
    (ap (λ (n : ℕ). set c.args.done.now.items n true) at.value)

pub add_plain-requires : goal.add_plain-requires
add_plain-requires g c = record { sound = c.requires.sound; own = c.requires.own; other = c.requires.other; beside = c.requires.beside }

pub add_nexts-requires : goal.add_nexts-requires
add_nexts-requires g c = record { sound = (let adds = c.add_plain.ensures.adds in adds.sound); going = c.requires.going; own = c.requires.own; other = c.requires.other; beside = c.requires.beside }

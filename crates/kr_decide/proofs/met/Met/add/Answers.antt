use Rattle.std.proofs.Common.{ℕ, ◌≡◌, ◌+◌, ◌*◌, ◌∙◌, true, set, ap}
use Rattle.kr_decide.proofs.Marked.{adds_one, marks_one}
use Rattle.kr_decide.proofs.met.Met.add.Goals as goal

pub returns-clause-adds : goal.returns-clause-adds
returns-clause-adds g c =
    let p = g.P.Protocol.table c.args.protocol.now in
    let at : c.place.result ≡ p.convert c.args.own.mode c.args.mode * 16 + c.args.other.mode = c.place.ensures.value ∙ ap (λ (n : ℕ). n * 16 + c.args.other.mode) c.convert-converted.ensures in
    adds_one p c.args.self.now _ c.args.own c.args.other c.args.mode (g.met.P.Protocol.lawful c.args.protocol.now) c.requires.sound c.requires.own c.requires.other c.requires.mode c.requires.requests
    (ap (λ (n : ℕ). set c.args.self.now.tested.items n true) at) (ap (λ (n : ℕ). set c.args.self.now.asked.items n true) c.place-2.ensures.value)

pub returns-clause-marked : goal.returns-clause-marked
returns-clause-marked g c =
    let p = g.P.Protocol.table c.args.protocol.now in
    let at : c.place.result ≡ p.convert c.args.own.mode c.args.mode * 16 + c.args.other.mode = c.place.ensures.value ∙ ap (λ (n : ℕ). n * 16 + c.args.other.mode) c.convert-converted.ensures in
    marks_one p c.args.self.now _ c.args.own c.args.other c.args.mode (g.met.P.Protocol.lawful c.args.protocol.now) c.requires.sound c.requires.own c.requires.other c.requires.mode
    (ap (λ (n : ℕ). set c.args.self.now.tested.items n true) at) (ap (λ (n : ℕ). set c.args.self.now.asked.items n true) c.place-2.ensures.value)

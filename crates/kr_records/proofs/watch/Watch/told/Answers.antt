use Rattle.std.proofs.Common.{ap, ◌∙◌}
use Rattle.kr_records.specs.declared.name.Entry.{Entry}
use Rattle.kr_records.specs.declared.known.Known.{Known}
use Rattle.kr_records.proofs.Watching.{names_stay, now_told}
use Rattle.kr_records.proofs.watch.Watch.told.Goals as goal

pub invariant_of-self : goal.invariant_of-self
invariant_of-self g c = (
  c.self.invariant.0,
  names_stay c.self.inside.known.items c.args.place c.again.result g.K.EngineName.places c.requires.place (ap (λ (n : Known Entry). n.cell) c.again.ensures ∙ c.requires.cell) c.self.invariant.1,
)

pub returns : goal.returns
returns g c = now_told c.self.inside.known.items c.args.self.now c.args.place c.again.result c.args.known.now.known c.self.view_is (ap (λ (n : Known Entry). n.known) c.again.ensures)

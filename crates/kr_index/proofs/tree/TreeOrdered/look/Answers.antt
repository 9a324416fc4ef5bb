use Rattle.std.proofs.Common.{ap₂}
use Rattle.kr_model.specs.declared.Name.TheVariants.{Key, End}
use Rattle.kr_index.proofs.TreeLaws.{present_in}
use Rattle.kr_index.proofs.tree.TreeOrdered.look.Goals as goal

pub returns-in-Key : goal.returns-in-Key
returns-in-Key c =
    let es = c.args.self.now.slots.entries in
    ap₂ (λ b n. (b, n)) (present_in es c.args.key (Key c.in-Key.found) c.args.self.now.sorted c.in-Key.ensures) c.in-Key.ensures

pub returns-in-End : goal.returns-in-End
returns-in-End c =
    let es = c.args.self.now.slots.entries in
    ap₂ (λ b n. (b, n)) (present_in es c.args.key End c.args.self.now.sorted c.in-End.ensures) c.name_at-name.ensures

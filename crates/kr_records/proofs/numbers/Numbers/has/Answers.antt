use Rattle.std.proofs.Common.{ap, ◌∙◌}
use Rattle.kr_records.specs.Numbers.{begun_by, was_begun}
use Rattle.kr_records.proofs.Begun.{found_begun}
use Rattle.kr_records.proofs.numbers.Numbers.has.Goals as goal

pub returns : goal.returns
returns c = c.contains_key.ensures ∙ found_begun c.self.inside.places c.self.inside.list.items c.args.txn c.self.invariant ∙ ap (λ v. was_begun (begun_by v) c.args.txn) c.self.view_is

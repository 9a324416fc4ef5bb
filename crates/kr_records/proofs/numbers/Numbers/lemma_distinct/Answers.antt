use Rattle.std.proofs.Common.{subst}
use Rattle.kr_records.specs.Numbers.{AreDistinct}
use Rattle.kr_records.proofs.Begun.{are_distinct}
use Rattle.kr_records.proofs.numbers.Numbers.lemma_distinct.Goals as goal

pub returns : goal.returns
returns c = subst AreDistinct c.self.view_is (are_distinct c.self.inside.places c.self.inside.list.items c.self.invariant)

use Rattle.std.proofs.Common.{◌∙◌, ap, sym, nat_lt}
use Rattle.kr_ghost_index.proofs.Views.{changes_are}
use Rattle.kr_ghost_index.proofs.index.GhostIndex.is_changed.Goals as goal

pub returns : goal.returns
returns c = ap (nat_lt 0) (c.changes_of.ensures ∙ sym (changes_are c.args.self.now c.self.inside.slots.entries c.self.view_is c.self.invariant c.args.key))

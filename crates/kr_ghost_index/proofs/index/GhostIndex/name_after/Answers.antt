use Rattle.std.proofs.Common.{◌∙◌, suc, refl}
use Rattle.kr_ghost_index.specs.Slots.{first_from}
use Rattle.kr_ghost_index.proofs.Views.{name_is}
use Rattle.kr_ghost_index.proofs.index.GhostIndex.name_after.Goals as goal

pub returns : goal.returns
returns c =
    let es = c.self.inside.slots.entries in
    c.name_past.ensures ∙ name_is c.args.self.now es c.self.view_is c.self.invariant (suc c.args.key) (first_from es (suc c.args.key)) refl

use Rattle.std.proofs.Common.{false}
use Rattle.kr_index.specs.declared.stretches.Stretch.{Stretch}
use Rattle.kr_index.specs.Slots.{pairs_of}
use Rattle.kr_index.proofs.SkipLaws.{stepped}
use Rattle.kr_index.proofs.walks.first_in.Goals as goal

pub returns-then-stretches-place-clause-none : goal.returns-then-stretches-place-clause-none
returns-then-stretches-place-clause-none c =
    let z : Stretch = record { from = 0; is_bare = false; slots = 0; present = 0 } in
    let bare = c.requires.marked.bare c.args.place z c.requires.home.in_range c.if-stretches-place.true in
    stepped c.args.stretches.now (pairs_of c.args.slots.now.entries) c.args.from c.args.end c.args.place c.requires.home c.requires.next c.requires.end bare z

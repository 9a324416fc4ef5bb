use Rattle.std.proofs.Common.{refl}
use Rattle.std.proofs.lemmas.List.{get_or_default}
use Rattle.kr_index.proofs.StretchLaws.{rising-set, marked-set}
use Rattle.kr_index.proofs.stretches.count.Goals as goal

pub returns-clause-rising : goal.returns-clause-rising
returns-clause-rising c = rising-set c.args.stretches.now c.args.place _ c.requires.place (λ d. rw (get_or_default c.args.stretches.now c.args.place _ d c.requires.place) refl) c.requires.rising

pub returns-clause-marked : goal.returns-clause-marked
returns-clause-marked c m marked =
    marked-set c.args.stretches.now c.args.place _ c.requires.place (λ d. rw (get_or_default c.args.stretches.now c.args.place _ d c.requires.place) refl) m m marked (marked.bare c.args.place _ c.requires.place) (λ q j differs w h. h)

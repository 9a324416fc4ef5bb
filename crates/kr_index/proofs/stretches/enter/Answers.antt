use Rattle.std.proofs.Common.{refl, ◌∙◌, false}
use Rattle.std.proofs.lemmas.List.{get_or_default}
use Rattle.kr_model.proofs.MapLaws.{get-set_other}
use Rattle.kr_index.specs.declared.stretches.Stretch.{Stretch}
use Rattle.kr_index.proofs.StretchLaws.{rising-set, marked-set, elsewhere, below_all_set}
use Rattle.kr_index.proofs.stretches.enter.Goals as goal

pub returns-in-None-clause-marked : goal.returns-in-None-clause-marked
returns-in-None-clause-marked c m v marked = below_all_set c.args.stretches.now c.args.key v c.in-None.ensures.none m marked

pub returns-after-is_new-clause-rising : goal.returns-after-is_new-clause-rising
returns-after-is_new-clause-rising c =
    let ss = c.args.stretches.now in
    let w = c.in-Some.ensures.place in
    rising-set ss c.in-Some.place _ w.in_range (λ d. rw (get_or_default ss c.in-Some.place _ d w.in_range) refl) c.requires

pub returns-after-is_new-clause-marked : goal.returns-after-is_new-clause-marked
returns-after-is_new-clause-marked c m v marked =
    let ss = c.args.stretches.now in
    let w = c.in-Some.ensures.place in
    let z : Stretch = record { from = 0; is_bare = false; slots = 0; present = 0 } in
    marked-set ss c.in-Some.place _ w.in_range (λ d. rw (get_or_default ss c.in-Some.place _ d w.in_range) refl) m _ marked (λ h. absurd (cc h)) (λ q j differs u h. get-set_other m c.args.key v q (elsewhere ss c.requires c.args.key c.in-Some.place w q j differs u z) ∙ h)

use Rattle.std.proofs.Common.{rules, Ok, Err}
use Rattle.std.proofs.lemmas.List.Sorted.{answers_always}
use Rattle.kr_index.proofs.SlotLaws.{t_in_order}
use Rattle.kr_index.proofs.Places.{searched, found_at, absent_at_gap}
use Rattle.kr_index.proofs.slots.search.Goals as goal

-- the closure gives an entry's key
pub returns-in-Ok-clause-place : goal.returns-in-Ok-clause-place
returns-in-Ok-clause-place c =
    let es = c.args.entries.now in
    let by_key = c.in-Ok.ensures.position (λ e. e.0) (answers_always _ _ _ (λ f a r g called. search rules)) in
    (searched es (t_in_order es c.requires) c.args.key (Ok c.in-Ok.place) c.in-Ok.ensures.bound by_key).found

pub returns-in-Ok-clause-slot : goal.returns-in-Ok-clause-slot
returns-in-Ok-clause-slot c =
    let es = c.args.entries.now in
    let by_key = c.in-Ok.ensures.position (λ e. e.0) (answers_always _ _ _ (λ f a r g called. search rules)) in
    let is_at = (searched es (t_in_order es c.requires) c.args.key (Ok c.in-Ok.place) c.in-Ok.ensures.bound by_key).found in
    found_at es (t_in_order es c.requires) c.args.key c.in-Ok.place is_at _

pub returns-in-Err-clause-gap : goal.returns-in-Err-clause-gap
returns-in-Err-clause-gap c =
    let es = c.args.entries.now in
    let by_key = c.in-Err.ensures.position (λ e. e.0) (answers_always _ _ _ (λ f a r g called. search rules)) in
    (searched es (t_in_order es c.requires) c.args.key (Err c.in-Err.place) c.in-Err.ensures.bound by_key).absent

pub returns-in-Err-clause-absent : goal.returns-in-Err-clause-absent
returns-in-Err-clause-absent c =
    let es = c.args.entries.now in
    let by_key = c.in-Err.ensures.position (λ e. e.0) (answers_always _ _ _ (λ f a r g called. search rules)) in
    let gap = (searched es (t_in_order es c.requires) c.args.key (Err c.in-Err.place) c.in-Err.ensures.bound by_key).absent in
    absent_at_gap es c.args.key c.in-Err.place gap (t_in_order es c.requires)

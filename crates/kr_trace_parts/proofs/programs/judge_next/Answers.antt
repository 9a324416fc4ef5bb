use Rattle.std.specs.Prelude.{◌≡◌, ◌<◌, None, length}
use Rattle.std.proofs.Common.{◌∙◌, ap, rules, subst, sym}
use Rattle.kr_trace_follow.specs.Judged.{Judged}
use Rattle.kr_trace_parts.specs.Committed.{AreSerial, map_left}
use Rattle.kr_trace_parts.specs.Orders.{place_in}
use Rattle.kr_trace_parts.proofs.WrongLaws.{judged_left, judged_none, judged_wrong, none_of, place_within}
use Rattle.kr_trace_parts.proofs.programs.judge_next.Goals as goal

pub returns-in_default-clause-none : goal.returns-in_default-clause-none
returns-in_default-clause-none c =
    let none : place_in c.args.committed.now c.args.txn ≡ None = sym (c.in_default.ensures.value ∙ c.requires c.args.txn) in
    subst (AreSerial c.args.judge.now.map) (sym (none_of c.args.committed.now c.args.txn none)) tt

pub returns-in_default-clause-left : goal.returns-in_default-clause-left
returns-in_default-clause-left c =
    let none : place_in c.args.committed.now c.args.txn ≡ None = sym (c.in_default.ensures.value ∙ c.requires c.args.txn) in
    sym (ap (map_left c.args.judge.now.map) (none_of c.args.committed.now c.args.txn none))

pub bounds-committed-place : goal.bounds-committed-place
bounds-committed-place c = place_within c.args.committed.now c.args.txn c.in-Some.field-0.now (sym (c.in-Some.ensures.value ∙ c.requires c.args.txn))

pub offset_bounds-committed-place : goal.offset_bounds-committed-place
offset_bounds-committed-place c =
    let within : c.in-Some.field-0.now < length c.args.committed.now = place_within c.args.committed.now c.args.txn c.in-Some.field-0.now (sym (c.in-Some.ensures.value ∙ c.requires c.args.txn)) in
    search rules

pub returns-in-Some-difference-clause-wrong : goal.returns-in-Some-difference-clause-wrong
returns-in-Some-difference-clause-wrong c =
    judged_wrong c.args.judge.now.map c.args.committed.now c.args.txn c.in-Some.field-0.now c.index-committed-place.result c.as_slice.result.now
    (sym (c.in-Some.ensures.value ∙ c.requires c.args.txn)) c.as_slice.ensures.value c.in-Some-difference.difference
    (c.differences_are_first.ensures.first c.args.judge.now.map c.as_slice.result.now c.in-Some-difference.difference (sym c.in_ok-difference.ensures.differs ∙ c.in-Some-difference.is))

pub returns-in-Some-difference-clause-left : goal.returns-in-Some-difference-clause-left
returns-in-Some-difference-clause-left c =
    judged_left c.args.judge.now.map c.args.committed.now c.args.txn c.in-Some.field-0.now c.index-committed-place.result c.as_slice.result.now
    (sym (c.in-Some.ensures.value ∙ c.requires c.args.txn)) c.as_slice.ensures.value c.commit.new.self.map (ap (λ (j : Judged). j.map) c.in_ok-difference.ensures.judged)

pub returns-in-None-clause-none : goal.returns-in-None-clause-none
returns-in-None-clause-none c =
    judged_none c.args.judge.now.map c.args.committed.now c.args.txn c.in-Some.field-0.now c.index-committed-place.result c.as_slice.result.now
    (sym (c.in-Some.ensures.value ∙ c.requires c.args.txn)) c.as_slice.ensures.value
    (c.differences_are_first.ensures.if_none c.args.judge.now.map c.as_slice.result.now (sym c.in_ok-difference.ensures.differs ∙ c.in-None.is))

pub returns-in-None-clause-left : goal.returns-in-None-clause-left
returns-in-None-clause-left c =
    judged_left c.args.judge.now.map c.args.committed.now c.args.txn c.in-Some.field-0.now c.index-committed-place.result c.as_slice.result.now
    (sym (c.in-Some.ensures.value ∙ c.requires c.args.txn)) c.as_slice.ensures.value c.commit.new.self.map (ap (λ (j : Judged). j.map) c.in_ok-difference.ensures.judged)

use Rattle.std.proofs.Common.{◌≡◌, ◌∙◌, map, ap, sym, subst, List}
use Rattle.std.specs.Prelude.{All, Bool, IsTrue, ◌↔◌}
use Rattle.kr_model.specs.declared.Event.{Event}
use Rattle.kr_workers.specs.Follows.{Follows, AreRising}
use Rattle.kr_script.specs.declared.not_done.StepFault.{StepFault}
use Rattle.kr_workers.specs.declared.left_out.LeftOut.{LeftOut}
use Rattle.kr_workers.specs.Counts.{missed_before}
use Rattle.kr_workers.specs.Placed.{IsBetween}
use Rattle.kr_workers.proofs.Counts.{not_both}
use Rattle.kr_threads.proofs.Placings.{all_placed}
use Rattle.kr_threads.proofs.comparing.compared.Goals as goal

-- The test of the places is one of the history's events and of the steps that were left out.
decided : (es events : List Event) (ls tested : List LeftOut) (b : Bool) → events ≡ es → tested ≡ ls
    → (AreRising (map (λ l. l.fault) tested) → (IsTrue b ↔ All (λ l. IsBetween events (missed_before (map (λ l. l.fault) tested) l.fault.txn l.fault.step) l) tested))
    → AreRising (map (λ l. l.fault) ls) → IsTrue b ↔ All (λ l. IsBetween es (missed_before (map (λ l. l.fault) ls) l.fault.txn l.fault.step) l) ls
decided es events ls tested b events_are tested_are is rising =
    subst (λ (fs : List Event). IsTrue b ↔ All (λ l. IsBetween fs (missed_before (map (λ l. l.fault) ls) l.fault.txn l.fault.step) l) ls) events_are
    (subst (λ (ms : List LeftOut). AreRising (map (λ l. l.fault) ms) → IsTrue b ↔ All (λ l. IsBetween events (missed_before (map (λ l. l.fault) ms) l.fault.txn l.fault.step) l) ms) tested_are is rising)

pub returns-then-not-branch-clause-place : goal.returns-then-not-branch-clause-place
returns-then-not-branch-clause-place c = λ steps dealt followed _.
    let es = map (λ e. e.event) c.args.worked.history.entries.items in
    let events : c.in_ok-steps.steps.items ≡ es = c.in_ok-steps.ensures ∙ ap (map (λ e. e.event)) c.deref.ensures.value in
    let tested : c.deref-3.result.now ≡ es = c.deref-3.ensures.value ∙ events in
    let is = decided es c.deref-3.result.now c.args.worked.left_out.items c.deref-2.result.now c.in_ok-are_placed.field-0 tested c.deref-2.ensures.value c.in_ok-are_placed.ensures followed.follows.rising in
    not_both c.in_ok-are_placed.field-0 (is.1 followed.placed) c.if-not-branch.true

pub returns-clause-followed : goal.returns-clause-followed
returns-clause-followed c = λ steps dealt.
    let ls = c.args.worked.left_out.items in
    let es = map (λ e. e.event) c.args.worked.history.entries.items in
    let faults_are : c.in_ok-faults.faults.items ≡ map (λ l. l.fault) ls = c.in_ok-faults.ensures in
    let events : c.in_ok-steps.steps.items ≡ es = c.in_ok-steps.ensures ∙ ap (map (λ e. e.event)) c.deref.ensures.value in
    let tested : c.deref-3.result.now ≡ es = c.deref-3.ensures.value ∙ events in
    let compared : c.deref-5.result.now ≡ es = c.deref-5.ensures.value ∙ events in
    let follows : Follows steps c.deref-4.result.now c.deref-5.result.now = (c.in_ok-follows.ensures steps dealt).0 c.if-not-branch-2.false in
    let follows : Follows steps c.deref-4.result.now es = subst (λ (l : List Event). Follows steps c.deref-4.result.now l) compared follows in
    let follows : Follows steps (map (λ l. l.fault) ls) es = subst (λ (fs : List StepFault). Follows steps fs es) (c.deref-4.ensures.value ∙ faults_are) follows in
    let is = decided es c.deref-3.result.now ls c.deref-2.result.now c.in_ok-are_placed.field-0 tested c.deref-2.ensures.value c.in_ok-are_placed.ensures follows.rising in
    record { follows = follows; placed = is.0 c.if-not-branch.false }

pub returns-clause-compared : goal.returns-clause-compared
returns-clause-compared c = λ p opening steps worked dealt.
    let faults_are : c.in_ok-faults.faults.items ≡ map (λ l. l.fault) c.args.worked.left_out.items = c.in_ok-faults.ensures in
    let followed = returns-clause-followed c steps dealt in
    record {
      shares = worked.shares;
      closed = worked.closed;
      ended = worked.ended;
      told = all_placed p opening c.in_ok-faults.faults.items c.args.worked.history.entries.items c.args.worked.left_out.items faults_are worked.told followed.placed;
      follows = subst (λ (fs : List StepFault). Follows steps fs (map (λ e. e.event) c.args.worked.history.entries.items)) (sym faults_are) followed.follows;
    }

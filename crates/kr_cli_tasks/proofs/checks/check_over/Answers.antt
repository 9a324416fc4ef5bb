use Rattle.std.proofs.Common.{◌≡◌, ℕ, List, [], IfErr, sym, ◌∙◌, refl, subst}
use Rattle.kr_model.specs.Covers.{failed_cases}
use Rattle.kr_cases.specs.Told.{Tells}
use Rattle.kr_cases.specs.declared.checker.WhyRejected.TheVariants.{Failed}
use Rattle.kr_cli_tasks.specs.Checks.{line_of, ExplainsLine}
use Rattle.kr_cli_tasks.proofs.checks.check_over.Goals as goal

-- The fault of printing the line of the cases that were listed, under the protocol that was given back, is that of the line of the check.
pub returns-in-Ok-clause-err : goal.returns-in-Ok-clause-err
returns-in-Ok-clause-err g c =
    let table = g.P.Protocol.table in
    let names = g.P.Protocol.names in
    let taken = g.W.Sink.taken in
    let failures = g.W.Sink.failures in
    let explains : List ℕ → Type 0 = λ line. IfErr c.write_check.result (ExplainsLine line (taken c.args.out.now) (taken c.write_check.new.out) (failures c.args.out.now) (failures c.write_check.new.out)) in
    let none : [] ≡ failed_cases (table c.args.protocol) = sym (c.in-Ok.ensures.exactly.0 refl) in
    let same : c.protocol.result.now ≡ c.args.protocol = c.protocol.ensures ∙ c.in-Ok.ensures.ok in
    subst (λ fs. explains (line_of (table c.args.protocol) (names c.args.protocol) fs)) none
    (subst (λ q. explains (line_of (table q) (names q) [])) same c.write_check.ensures.err)

pub returns-in-Failed-clause-err : goal.returns-in-Failed-clause-err
returns-in-Failed-clause-err g c =
    let table = g.P.Protocol.table in
    let names = g.P.Protocol.names in
    let taken = g.W.Sink.taken in
    let failures = g.W.Sink.failures in
    let explains : List ℕ → Type 0 = λ line. IfErr c.write_check-in-Failed.result (ExplainsLine line (taken c.args.out.now) (taken c.write_check-in-Failed.new.out) (failures c.args.out.now) (failures c.write_check-in-Failed.new.out)) in
    let told : Tells (table c.args.protocol) (Failed c.in-Failed.failed) = subst (Tells (table c.args.protocol)) c.in-Failed.is c.in-Err.ensures.cause in
    let all : c.as_slice.result.now ≡ failed_cases (table c.args.protocol) = c.as_slice.ensures.value ∙ told in
    let same : c.in-Err.field-0.protocol ≡ c.args.protocol = c.in-Err.ensures.given_back in
    subst (λ fs. explains (line_of (table c.args.protocol) (names c.args.protocol) fs)) all
    (subst (λ q. explains (line_of (table q) (names q) c.as_slice.result.now)) same c.write_check-in-Failed.ensures.err)

use Rattle.std.proofs.Common.{◌≡◌, ◌++◌, ◌∷◌, [], ℕ, List, codes, decimal, string_bytes, ap, sym, ◌∙◌}
use Rattle.serde_json.specs.Written.{compact_text}
use Rattle.serde_json.proofs.OnLiterals.{serde_json_on_literals}
use Rattle.kr_report.specs.Report.{reply_data, verdict_data}
use Rattle.std.proofs.lemmas.Result.{on_ok_weaker}
use Rattle.kr_report.proofs.Writes.{after_place}
use Rattle.kr_report.proofs.replies.write_verdict.Goals as goal

pub returns-in_ok-write_place-in-NotSerial : goal.returns-in_ok-write_place-in-NotSerial
unfolding serde_json_on_literals
returns-in_ok-write_place-in-NotSerial c =
    let told = c.in-NotSerial in
    let old : List ℕ = string_bytes c.args.out.now in
    let begun : List ℕ = string_bytes c.write_place.new.out in
    let new : List ℕ = string_bytes c.write_both.new.out in
    let rest : List ℕ = compact_text (reply_data told.given) ++ 44 ∷ (compact_text (reply_data told.serial) ++ 93 ∷ []) in
    on_ok_weaker {P = new ≡ begun ++ rest} {Q = new ≡ old ++ compact_text (verdict_data c.args.verdict.now)} c.write_both.result
    (λ f. after_place old new begun (codes "[\"not-serial\",") (decimal told.txn) (decimal told.operation) rest c.in_ok-write_place-in-NotSerial.ensures f
    ∙ ap (λ v. old ++ compact_text (verdict_data v)) (sym told.is))
    c.write_both.ensures

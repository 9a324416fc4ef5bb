use Rattle.std.proofs.Common.{◌≡◌, ◌∙◌, ap, ◌++◌, ◌∷◌, [], ℕ, List, codes, decimal, string_bytes}
use Rattle.std.proofs.lemmas.Result.{on_ok_weaker}
use Rattle.serde_json.specs.Written.{compact_text}
use Rattle.kr_script.specs.Replies.{reply_data}
use Rattle.kr_trace_lines.specs.Replies.{observed_data}
use Rattle.kr_trace_lines.proofs.Texts.{laid_behind, laid_by_three}
use Rattle.kr_trace_lines.proofs.report.write_difference.Goals as goal

pub returns : goal.returns
returns c =
    let old : List ℕ = string_bytes c.args.out.now in
    let begun : List ℕ = string_bytes c.write_before.new.out in
    let numbered : List ℕ = string_bytes c.write_number.new.out in
    let parted : List ℕ = string_bytes c.push_str.new.self in
    let new : List ℕ = string_bytes c.write_answers.new.out in
    let number : List ℕ = decimal c.args.operation in
    let rest : List ℕ = compact_text (observed_data c.args.given.now) ++ 44 ∷ (compact_text (reply_data c.args.serial.now) ++ 93 ∷ []) in
    on_ok_weaker {P = new ≡ parted ++ rest} {Q = new ≡ old ++ (codes "[\"not-serial\"," ++ (decimal c.args.txn ++ 44 ∷ (number ++ 44 ∷ rest)))} c.write_answers.result
    (λ f. laid_behind old begun new (codes "[\"not-serial\",") (decimal c.args.txn) (number ++ 44 ∷ rest)
    (c.in_ok-write_before.ensures ∙ ap (λ n. old ++ (codes "[\"not-serial\"," ++ (decimal n ++ 44 ∷ []))) c.from.ensures)
    (laid_by_three begun numbered parted new number (44 ∷ []) rest c.in_ok-write_number.ensures c.in_ok-push_str.ensures.bytes f))
    c.write_answers.ensures

use Rattle.std.proofs.Common.{◌≡◌, ◌++◌, ◌∷◌, [], ℕ, List, codes, string_bytes}
use Rattle.serde_json.specs.Written.{compact_text}
use Rattle.kr_trace_lines.specs.Report.{verdict_data}
use Rattle.kr_trace_lines.proofs.Texts.{last_write, laid_by_three}
use Rattle.kr_trace_lines.proofs.report.write_end.Goals as goal

pub returns : goal.returns
returns c =
    let old : List ℕ = string_bytes c.args.out.now in
    let named : List ℕ = string_bytes c.push_str.new.self in
    let written : List ℕ = string_bytes c.write_verdict.new.out in
    let new : List ℕ = string_bytes c.push_str-2.new.self in
    let verdict : List ℕ = compact_text (verdict_data c.args.verdict.now) in
    last_write c.push_str-2.result new (written ++ 125 ∷ []) written (new ≡ old ++ (codes ",\"verdict\":" ++ (verdict ++ 125 ∷ []))) c.push_str-2.ensures.bytes
    (λ f. laid_by_three old named written new (codes ",\"verdict\":") verdict (125 ∷ []) c.in_ok-push_str.ensures.bytes c.in_ok-write_verdict.ensures f)

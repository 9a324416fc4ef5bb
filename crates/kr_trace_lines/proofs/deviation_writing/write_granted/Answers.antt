use Rattle.std.proofs.Common.{◌≡◌, ◌++◌, ◌∷◌, [], ℕ, List, codes, decimal, string_bytes}
use Rattle.serde_json.specs.Written.{compact_text}
use Rattle.kr_script.specs.Replies.{numbers_data}
use Rattle.kr_trace_lines.specs.Report.{conflicts_data}
use Rattle.kr_trace_lines.proofs.Texts.{last_write, laid_behind, laid_by_four}
use Rattle.kr_trace_lines.proofs.deviation_writing.write_granted.Goals as goal

pub returns : goal.returns
returns g c =
    let old : List ℕ = string_bytes c.args.out.now in
    let begun : List ℕ = string_bytes c.write_before.new.out in
    let named : List ℕ = string_bytes c.write_with_numbers.new.out in
    let parted : List ℕ = string_bytes c.push_str.new.self in
    let listed : List ℕ = string_bytes c.write_conflicts.new.out in
    let new : List ℕ = string_bytes c.push_str-2.new.self in
    let line : List ℕ = decimal c.args.line in
    let blockers : List ℕ = codes "[\"blocked\"," ++ (compact_text (numbers_data c.args.blockers.now) ++ codes "]") in
    let conflicts : List ℕ = compact_text (conflicts_data (g.P.Protocol.names c.args.protocol.now) c.args.conflicts.now) in
    last_write c.push_str-2.result new (listed ++ 93 ∷ []) listed (new ≡ old ++ (codes "[\"granted\"," ++ (line ++ 44 ∷ (blockers ++ 44 ∷ (conflicts ++ 93 ∷ []))))) c.push_str-2.ensures.bytes
    (λ f. laid_behind old begun new (codes "[\"granted\",") line (blockers ++ 44 ∷ (conflicts ++ 93 ∷ [])) c.in_ok-write_before.ensures
    (laid_by_four begun named parted listed new blockers (44 ∷ []) conflicts (93 ∷ [])
    c.in_ok-write_with_numbers.ensures c.in_ok-push_str.ensures.bytes c.in_ok-write_conflicts.ensures f))

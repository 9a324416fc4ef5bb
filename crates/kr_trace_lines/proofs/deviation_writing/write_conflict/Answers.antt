use Rattle.std.proofs.Common.{◌≡◌, ◌∙◌, ap, ◌++◌, ◌∷◌, [], ℕ, List, decimal, string_bytes}
use Rattle.std.proofs.lemmas.Result.{on_ok_weaker}
use Rattle.serde_json.specs.Data.{string}
use Rattle.serde_json.specs.Written.{compact_text}
use Rattle.kr_model.specs.ModeNames.{name_of}
use Rattle.kr_script.specs.Replies.{name_data}
use Rattle.kr_trace_lines.specs.Report.{conflict_data}
use Rattle.kr_trace_lines.proofs.Texts.{conflict_is, laid_by_three}
use Rattle.kr_trace_lines.proofs.deviation_writing.write_conflict.Goals as goal

pub returns : goal.returns
returns g c =
    let names = g.P.Protocol.names c.args.protocol.now in
    let conflict = c.args.conflict in
    let old : List ℕ = string_bytes c.args.out.now in
    let held : List ℕ = string_bytes c.write_held.new.out in
    let dated : List ℕ = string_bytes c.write_since.new.out in
    let new : List ℕ = string_bytes c.write_asked.new.out in
    let name : List ℕ = compact_text (name_data conflict.name) in
    let holder : List ℕ = decimal conflict.holder in
    let mode : List ℕ = compact_text (string (name_of names conflict.held)) in
    let since : List ℕ = decimal conflict.since in
    let asked : List ℕ = compact_text (string (name_of names conflict.asked)) in
    let tested : List ℕ = compact_text (string (name_of names conflict.tested)) in
    let last : List ℕ = asked ++ 44 ∷ (tested ++ 93 ∷ []) in
    on_ok_weaker {P = new ≡ dated ++ last} {Q = new ≡ old ++ compact_text (conflict_data names conflict)} c.write_asked.result
    (λ f. laid_by_three old held dated new (91 ∷ (name ++ 44 ∷ (holder ++ 44 ∷ (mode ++ 44 ∷ [])))) (since ++ 44 ∷ []) last c.in_ok-write_held.ensures c.in_ok-write_since.ensures f
    ∙ ap (λ l. old ++ l) (conflict_is name holder mode since asked tested))
    c.write_asked.ensures

use Rattle.std.proofs.Common.{◌≡◌, [], Some, Ok, ap, subst, ◌∙◌}
use Rattle.json.specs.Lex.{tokens}
use Rattle.json.specs.Json.{Json, value}
use Rattle.serde_json.specs.Read.{of_json}
use Rattle.kr_script.specs.Reading.{document}
use Rattle.kr_script.specs.GhostReading.{reading_of}
use Rattle.kr_script.proofs.Documents.{if_some, text_reads}
use Rattle.kr_script.proofs.ghost_plain.read_plain_moves.Goals as goal

pub returns : goal.returns
returns c =
    let bytes = c.args.bytes.now in
    let same : c.in-Ok-new.reader ≡ tokens bytes = c.in-Ok-new.ensures.ok ∙ ap tokens c.in-Ok.ensures.cases.0 in
    if_some c.read_members.result (λ s. (j : Json) × (value 127 c.in-Ok-new.reader ≡ Some (j, [])) × (reading_of (of_json j) ≡ Ok s)) (λ s. reading_of (document bytes) ≡ Ok s)
    (λ s h. text_reads reading_of bytes (Ok s) c.in-Ok.ensures.cases.1 (h.0, subst (λ ts. value 127 ts ≡ Some (h.0, [])) same h.1, h.2))
    c.read_members.ensures

use Rattle.std.proofs.Common.{◌≡◌, ◌≤◌, [], length, Some, Ok, sym, subst, ap, ◌∙◌, arith}
use Rattle.json.specs.Json.{value}
use Rattle.serde_json.specs.View.{items_of}
use Rattle.std.specs.Prelude.{map}
use Rattle.kr_model.specs.Map.{IsMap}
use Rattle.kr_script.specs.Line.{format_number}
use Rattle.kr_script.specs.Pairs.{pair_data}
use Rattle.kr_script.specs.Steps.{step_of}
use Rattle.kr_script.specs.Reading.{reading_of}
use Rattle.kr_script.proofs.Kept.{rising}
use Rattle.kr_script.proofs.Documents.{document_next, document_reads, pairs_back}
use Rattle.kr_script.proofs.plain.read_members.Goals as goal

pub new-requires : goal.new-requires
new-requires c =
    let pairs = c.in_ok-opening.opening.items in
    record {
      rising = subst IsMap (pairs_back pairs) (rising (items_of (map pair_data pairs)) c.in_ok-opening.ensures.rising);
      few_pairs = omega (arith, c.in_ok-opening.ensures.few);
      few_steps = omega (arith, c.in_ok-steps.ensures.few);
    }

pub returns : goal.returns
returns c =
    let pairs = c.in_ok-opening.opening.items in
    let steps = c.in_ok-steps.steps.items in
    let two = c.in_ok-two.two in
    let d = document_next c.open_object.new.reader c.pass_name.new.reader c.read_format.new.reader c.pass_name-2.new.reader c.read_pairs.new.reader c.pass_name-3.new.reader c.read_events.new.reader [] (format_number two) pairs (map step_of steps)
    c.in_ok-pass_name.ensures c.in_ok-two.ensures c.in_ok-pass_name-2.ensures c.in_ok-opening.ensures.next c.in_ok-pass_name-3.ensures c.in_ok-steps.ensures.next c.in_ok-close_document.ensures in
    let few_pairs : length pairs ≤ 100000 = omega (arith, c.in_ok-opening.ensures.few) in
    let few_steps : length steps ≤ 100000 = omega (arith, c.in_ok-steps.ensures.few) in (
      d.0,
      subst (λ ts. value 127 ts ≡ Some (d.0, [])) (sym c.in_ok-open_object.ensures) d.1,
      ap reading_of d.2 ∙ document_reads two pairs steps c.in_ok-opening.ensures.rising c.in_ok-steps.ensures.back few_pairs few_steps ∙ ap Ok (sym c.new.ensures),
    )

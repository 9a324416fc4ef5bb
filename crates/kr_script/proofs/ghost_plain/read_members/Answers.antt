use Rattle.std.proofs.Common.{◌≡◌, ◌≤◌, [], length, Some, Ok, sym, subst, ap, ◌∙◌, arith}
use Rattle.json.specs.Json.{value}
use Rattle.serde_json.specs.View.{items_of}
use Rattle.std.specs.Prelude.{map}
use Rattle.kr_model.specs.Map.{IsMap}
use Rattle.kr_script.specs.Pairs.{pair_data}
use Rattle.kr_script.specs.GhostReading.{reading_of}
use Rattle.kr_script.specs.Tokens.{step_of_move}
use Rattle.kr_script.proofs.Kept.{rising}
use Rattle.kr_script.proofs.Documents.{document_next, pairs_back}
use Rattle.kr_script.proofs.GhostDocuments.{document_reads}
use Rattle.kr_script.proofs.ghost_plain.read_members.Goals as goal

pub new-requires : goal.new-requires
new-requires c =
    let pairs = c.in_ok-opening.opening.items in
    record {
      rising = subst IsMap (pairs_back pairs) (rising (items_of (map pair_data pairs)) c.in_ok-opening.ensures.rising);
      few_pairs = omega (arith, c.in_ok-opening.ensures.few);
      few_moves = omega (arith, c.in_ok-moves.ensures.few);
    }

pub returns : goal.returns
returns c =
    let pairs = c.in_ok-opening.opening.items in
    let moves = c.in_ok-moves.moves.items in
    let n = c.in_ok-format.format in
    let d = document_next c.open_object.new.reader c.pass_name.new.reader c.read_format.new.reader c.pass_name-2.new.reader c.read_pairs.new.reader c.pass_name-3.new.reader c.read_moves.new.reader [] n pairs (map step_of_move moves)
    c.in_ok-pass_name.ensures c.in_ok-format.ensures.next c.in_ok-pass_name-2.ensures c.in_ok-opening.ensures.next c.in_ok-pass_name-3.ensures c.in_ok-moves.ensures.next c.in_ok-close_document.ensures in
    let few_pairs : length pairs ≤ 100000 = omega (arith, c.in_ok-opening.ensures.few) in
    let few_moves : length moves ≤ 100000 = omega (arith, c.in_ok-moves.ensures.few) in (
      d.0,
      subst (λ ts. value 127 ts ≡ Some (d.0, [])) (sym c.in_ok-open_object.ensures) d.1,
      ap reading_of d.2 ∙ document_reads n pairs moves c.in_ok-format.ensures.known c.in_ok-opening.ensures.rising c.in_ok-moves.ensures.back few_pairs few_moves ∙ ap Ok (sym c.new.ensures),
    )

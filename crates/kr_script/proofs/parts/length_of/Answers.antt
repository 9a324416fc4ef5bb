use Rattle.std.proofs.Common.{Some, length, ap, ◌∙◌, sym, option_map}
use Rattle.serde_json.proofs.Views.{items_len-items_view}
use Rattle.serde_json.specs.Events.{items_len}
use Rattle.kr_script.proofs.parts.length_of.Goals as goal

pub returns-in-Some : goal.returns-in-Some
returns-in-Some c =
    ap Some (ap length c.as_slice.ensures.value ∙ sym (items_len-items_view c.in-Some.list.now.items))
    ∙ ap (option_map items_len) c.in-Some.ensures

use Rattle.std.specs.Prelude.{List, ℕ, string_bytes}
use Rattle.std.proofs.Common.{subst, ◌∙◌}
use Rattle.kr_model.specs.Map.{Map}
use Rattle.kr_model.specs.declared.Event.{Event}
use Rattle.kr_view_scenes.specs.Scenes.{drawn_steps}
use Rattle.kr_view_run.specs.Page.{AreBands}
use Rattle.kr_view_table.proofs.schedule.folded.Goals as goal

pub returns : goal.returns
returns g c =
    let p = g.P.Protocol.table c.args.protocol.now in
    let made = c.args.run.now.script in
    let bands = string_bytes c.in_ok-bands.bands in
    let ids = c.as_str-3.result.now in
    let From : Map → Type 0 = λ o. AreBands ids (drawn_steps p o c.as_slice-steps.result.now) bands in
    let Of : List Event → Type 0 = λ es. AreBands ids (drawn_steps p made.opening.items es) bands in
    let Named : List ℕ → Type 0 = λ i. AreBands i (drawn_steps p made.opening.items made.events.items) bands in
    record {
      summary = c.as_str-seen.result.now;
      before = c.as_str-before.result.now;
      bands = bands;
      behind = c.as_str-behind.result.now;
      summary_made = c.as_str-seen.ensures.parts;
      before_made = c.as_str-before.ensures.parts;
      behind_made = c.as_str-behind.ensures.parts;
      are_bands = subst Named (c.as_str-3.ensures.value ∙ c.in_ok-ids.ensures.ok) (subst Of c.as_slice-steps.ensures.value (subst From c.as_slice-opening.ensures.value c.in_ok-bands.ensures));
      written = c.in_ok-text.ensures.ok;
    }

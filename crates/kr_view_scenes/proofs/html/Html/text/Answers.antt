use Rattle.std.specs.Prelude.{string_bytes}
use Rattle.std.proofs.Common.{◌∙◌}
use Rattle.kr_view_scenes.specs.declared.part.Part.TheVariants as part
use Rattle.kr_view_scenes.proofs.More.{pushed_part}
use Rattle.kr_view_scenes.proofs.html.Html.text.Goals as goal

pub invariant_of-self : goal.invariant_of-self
invariant_of-self c = pushed_part c.push_str.result (part.Text c.args.text) (string_bytes c.self.inside.text) c.as_str.result.now (string_bytes c.push_str.new.self) c.self.invariant (c.as_str.ensures.value ∙ c.in_ok-page.ensures.written) c.push_str.ensures.bytes

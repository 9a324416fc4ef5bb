use Rattle.std.proofs.Common.{string_bytes, subst, Bool, ◌∙◌}
use Rattle.kr_explain_text.specs.Edits.{IsMending}
use Rattle.kr_explain_core.proofs.InBlocks.{both}
use Rattle.kr_explain_core.proofs.text.block.Goals as goal

pub returns : goal.returns
returns g c =
    let P : Bool → Type 0 = λ b. IsMending (g.P.Protocol.names c.args.protocol.now) b c.args.explained.now.mend (string_bytes c.in_ok-fixes.fixes) in
    record {
      title = string_bytes c.in_ok-title.title;
      said = string_bytes c.in_ok-said.said;
      fixes = string_bytes c.in_ok-fixes.fixes;
      is_title = c.in_ok-title.ensures;
      is_said = c.in_ok-said.ensures;
      is_mending = subst P c.is_some-is_harmless.ensures c.in_ok-fixes.ensures;
      written = both c.deref-3.ensures (c.deref-4.ensures ∙ both c.deref.ensures c.deref-2.ensures c.in_ok-behind.ensures) c.in_ok-text.ensures;
    }

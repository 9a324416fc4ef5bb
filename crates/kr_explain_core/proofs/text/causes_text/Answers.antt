use Rattle.std.proofs.Common.{ℕ, Bool, ◌++◌, ◌∙◌, ap, string_bytes, subst, List}
use Rattle.kr_explain_core.specs.declared.explanation.Explained.{Explained}
use Rattle.kr_explain_core.specs.Blocks.{AreBlocks, end_words}
use Rattle.kr_explain_core.proofs.InBlocks.{both}
use Rattle.kr_explain_core.proofs.text.causes_text.Goals as goal

pub returns : goal.returns
returns g c =
    let P : List Explained → Type 0 = λ es. AreBlocks (g.P.Protocol.table c.args.protocol.now) (g.P.Protocol.names c.args.protocol.now) 1 es (string_bytes c.in_ok-blocks.blocks) in
    record {
      blocks = string_bytes c.in_ok-blocks.blocks;
      are_blocks = subst P c.deref.ensures.value c.in_ok-blocks.ensures;
      written = both c.deref-2.ensures c.deref-3.ensures c.in_ok-text.ensures ∙ ap (λ (end : List ℕ). string_bytes c.in_ok-blocks.blocks ++ end) (c.in_ok-end.ensures ∙ ap (λ (known : Bool). end_words known c.args.word.now) c.has_run.ensures);
    }

use Rattle.std.specs.Prelude.{◌≡◌, ℕ, List, Some, string_bytes}
use Rattle.std.specs.Str.{chars}
use Rattle.std.proofs.Common.{ap, subst, ◌∙◌}
use Rattle.std.proofs.lemmas.Result.{IfOk-weaker}
use Rattle.kr_view_scenes.specs.Escape.{escaped, unescaped}
use Rattle.kr_explain_core.specs.declared.explanation.Explained.{Explained}
use Rattle.kr_view_table.specs.Causes.{AreCauses}
use Rattle.kr_view_table.specs.Page.{IsTablePage, page_of}
use Rattle.kr_view_table.proofs.Whole.{page_whole}
use Rattle.kr_view_table.proofs.page.page.Goals as goal

pub returns : goal.returns
returns g c =
    let p = g.P.Protocol.table c.args.protocol.now in
    let names = g.P.Protocol.names c.args.protocol.now in
    let Reads : List ℕ → Type 0 = λ n. unescaped (chars n) ≡ Some (chars c.args.table.now) in
    let Are : List Explained → Type 0 = λ es. AreCauses p names 1 es (string_bytes c.in_ok-blocks.blocks) in
    IfOk-weaker c.framed.result (λ page. string_bytes page ≡ page_of c.as_str-2.result.now c.is_safe.result c.as_str-3.result.now c.as_str-4.result.now c.as_str-5.result.now) (λ page. IsTablePage p names c.args.table.now (string_bytes page))
    (λ page framed. record {
      explanation = c.args.explanation.now;
      causes = string_bytes c.in_ok-blocks.blocks;
      explained = c.requires.explained;
      reads = subst Reads c.in_ok-name.ensures.written c.in_ok-name.ensures.reads_back;
      are_causes = subst Are c.causes_of.ensures c.in_ok-blocks.ensures;
      is_page = page_whole _ _ _ _ _ _ _ _ _ _ (string_bytes page) (c.as_str-2.ensures.value ∙ c.in_ok-name.ensures.written) c.is_safe.ensures (c.as_str-3.ensures.value ∙ (c.in_ok-shown.ensures.written ∙ ap escaped (c.as_str.ensures.value ∙ c.in_ok-verdict.ensures))) (c.as_str-4.ensures.value ∙ c.in_ok-tables.ensures) c.as_str-5.ensures.value framed;
    })
    c.framed.ensures

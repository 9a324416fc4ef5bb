use Rattle.std.specs.Prelude.{◌≡◌, ℕ, List, Some, length, string_bytes}
use Rattle.std.specs.Str.{chars}
use Rattle.std.proofs.Common.{ap, ap₂, refl, subst, sym, ◌∙◌}
use Rattle.std.proofs.lemmas.Result.{IfOk-weaker}
use Rattle.kr_ghost.specs.declared.cases.FailedCase.{FailedCase}
use Rattle.kr_ghost.specs.Covers.{cases, failed_cases}
use Rattle.kr_view_scenes.specs.Escape.{escaped, unescaped}
use Rattle.kr_view_table.specs.Page.{page_of}
use Rattle.kr_view_table.proofs.Whole.{page_whole}
use Rattle.kr_ghost_view_table.specs.Cases.{cases_words}
use Rattle.kr_ghost_view_table.specs.Page.{IsGhostTablePage, tables_words, verdict_words}
use Rattle.kr_ghost_view_table.proofs.page.page.Goals as goal

pub returns : goal.returns
returns g c =
    let p = g.P.GhostProtocol.ghosts c.args.protocol.now in
    let names = g.P.Protocol.names c.args.protocol.now in
    let failed = c.requires.failed in
    let safe = c.args.is_safe in
    let count : length (cases p) ≡ c.cases-count.result = sym c.cases-count.ensures in
    let Reads : List ℕ → Type 0 = λ n. unescaped (chars n) ≡ Some (chars c.args.table.now) in
    let verdict : string_bytes c.in_ok-verdict.verdict ≡ verdict_words safe (length (failed_cases p)) (length (cases p)) =
    c.in_ok-verdict.ensures ∙ ap₂ (λ (a b : ℕ). verdict_words safe a b) (ap (λ (fs : List FailedCase). length fs) failed) (sym count) in
    IfOk-weaker c.framed.result (λ page. string_bytes page ≡ page_of c.as_str-2.result.now safe c.as_str-3.result.now c.as_str-4.result.now c.as_str-5.result.now) (λ page. IsGhostTablePage p names c.args.table.now (string_bytes page) safe)
    (λ page framed. record {
      reads = subst Reads c.in_ok-name.ensures.written c.in_ok-name.ensures.reads_back;
      is_safe = c.requires.safe;
      is_page = page_whole c.as_str-2.result.now (escaped c.args.table.now) safe safe c.as_str-3.result.now (escaped (verdict_words safe (length (failed_cases p)) (length (cases p)))) c.as_str-4.result.now (tables_words p names) c.as_str-5.result.now (cases_words names (failed_cases p)) (string_bytes page)
          (c.as_str-2.ensures.value ∙ c.in_ok-name.ensures.written) refl
          (c.as_str-3.ensures.value ∙ (c.in_ok-shown.ensures.written ∙ ap escaped (c.as_str.ensures.value ∙ verdict)))
          (c.as_str-4.ensures.value ∙ c.in_ok-tables.ensures)
          (c.as_str-5.ensures.value ∙ (c.in_ok-items.ensures ∙ ap (λ (fs : List FailedCase). cases_words names fs) failed))
          framed;
    })
    c.framed.ensures

use Rattle.std.proofs.Common.{◌≡◌, [], sym, ◌∙◌, refl, subst}
use Rattle.std.specs.Prelude.{string_bytes}
use Rattle.kr_model.specs.Covers.{failed_cases}
use Rattle.kr_report.specs.CheckReport.{check_text}
use Rattle.kr_cli.specs.Tables.{table_of, names_of}
use Rattle.kr_embed.proofs.checks.check_gone.Goals as goal

-- An accepted table has no failed case, and the report is that of none.
pub returns-in-Ok-clause-text : goal.returns-in-Ok-clause-text
returns-in-Ok-clause-text c =
    let none : [] ≡ failed_cases (table_of c.args.table) = sym (c.in-Ok.ensures.exactly.0 refl) in
    let same : c.protocol.result.now ≡ c.args.table = c.protocol.ensures ∙ c.in-Ok.ensures.ok in
    let text = string_bytes c.in_ok-text-in-Ok.text in
    subst (λ fs. text ≡ check_text (table_of c.args.table) (names_of c.args.table) fs) none
    (subst (λ q. text ≡ check_text (table_of q) (names_of q) []) same c.in_ok-text-in-Ok.ensures.text)

use Rattle.std.specs.Prelude.{option_map, string_bytes}
use Rattle.std.proofs.lemmas.Result.{IfOk-weaker}
use Rattle.kr_cli.specs.Tables.{table_of}
use Rattle.kr_embed.specs.Explanations.{IsScriptAt}
use Rattle.kr_embed.proofs.Causes.{script_found}
use Rattle.kr_embed.proofs.explanations.script_of_gone.Goals as goal

-- What is found is the script of that cause of the table.
pub returns : goal.returns
returns c =
    let p = table_of c.args.table.now in
    IfOk-weaker c.script.result _ (λ found. IsScriptAt p c.args.number (option_map string_bytes found))
    (λ found is. script_found p c.args.number c.in_ok-explanation.explanation (option_map string_bytes found) c.in_ok-explanation.ensures is) c.script.ensures

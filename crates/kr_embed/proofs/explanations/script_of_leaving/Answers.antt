use Rattle.std.specs.Prelude.{option_map, string_bytes}
use Rattle.std.proofs.lemmas.Result.{IfOk-weaker}
use Rattle.kr_cli.specs.GhostTables.{ghosts_of}
use Rattle.kr_embed.specs.Explanations.{IsScheduleAt}
use Rattle.kr_embed.proofs.Schedules.{schedule_found}
use Rattle.kr_embed.proofs.explanations.script_of_leaving.Goals as goal

-- What is found is the script of that schedule of the table.
pub returns : goal.returns
returns c =
    let p = ghosts_of c.args.table.now in
    IfOk-weaker c.script.result _ (λ found. IsScheduleAt p c.args.number (option_map string_bytes found))
    (λ found is. schedule_found p c.args.number c.in_ok-explanation.explanation (option_map string_bytes found) c.in_ok-explanation.ensures is) c.script.ensures

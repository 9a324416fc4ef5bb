-- The scripts of the causes of an explanation: each that is found goes wrong.
use Rattle.std.specs.Prelude.{◌≡◌, ℕ, List, Option, Some, None, refl}
use Rattle.kr_model.specs.Protocol.{Protocol}
use Rattle.kr_explain_core.specs.Explained.{IsExplained, run_at}
use Rattle.kr_explain_core.specs.Told.{IsScriptOf}
use Rattle.kr_explain_core.specs.declared.run.Run.{Run}
use Rattle.kr_explain_core.specs.declared.explanation.Explanation.{Explanation}
use Rattle.kr_explain_core.proofs.Wrong.{wrong_of}
use Rattle.kr_embed.specs.Explanations.{IsScriptAt}

script_at : (p : Protocol) (n : ℕ) (x : Explanation) (run : Option Run) (line : Option (List ℕ)) → IsExplained p x → run_at n x ≡ run → IsScriptOf run line → IsScriptAt p n line
script_at p n x None None explained has is = record { explanation = x; explained = explained; none = has }
script_at p n x None (Some line) explained has is = absurd is
script_at p n x (Some run) None explained has is = absurd is
script_at p n x (Some run) (Some line) explained has is =
    record { explanation = x; run = run; explained = explained; numbered = has; wrong = wrong_of p n x run explained.told has; is_line = is }

-- the script of the run of a number, if there is one
pub script_found : (p : Protocol) (n : ℕ) (x : Explanation) (line : Option (List ℕ)) → IsExplained p x → IsScriptOf (run_at n x) line → IsScriptAt p n line
script_found p n x line explained is = script_at p n x (run_at n x) line explained refl is

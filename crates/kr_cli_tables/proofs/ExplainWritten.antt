-- The line of a script that is written, and that its run goes wrong.
use Rattle.std.specs.Prelude.{◌≡◌, ◌++◌, ◌∷◌, [], ℕ, List, Option, Some, None, String, option_map, string_bytes, refl}
use Rattle.std.specs.Io.KnownBytes.{Appends}
use Rattle.std.proofs.Common.{Global, subst}
use Rattle.kr_model.specs.Protocol.{Protocol}
use Rattle.kr_explain_core.specs.Explained.{IsExplained, run_at}
use Rattle.kr_explain_core.specs.Told.{IsScriptOf}
use Rattle.kr_explain_core.specs.declared.run.Run.{Run}
use Rattle.kr_explain_core.specs.declared.explanation.Explanation.{Explanation}
use Rattle.kr_explain_core.proofs.Wrong.{wrong_of}
use Rattle.kr_cli_tables.specs.Explain.{WritesScript}

written_of : (p : Protocol) (n : ℕ) (x : Explanation) (found : Option Run) (line : List ℕ) (old new : Option (List ℕ)) → IsExplained p x → run_at n x ≡ found → IsScriptOf found (Some line) → Appends old new (line ++ 10 ∷ []) → WritesScript p n old new
written_of p n x None line old new explained has is written = absurd is
written_of p n x (Some run) line old new explained has is written =
    record { explanation = x; run = run; line = line; explained = explained; numbered = has; wrong = wrong_of p n x run explained.told has; is_line = is; written = written }

-- the script of the run of a number was written
pub script_written : (p : Protocol) (n : ℕ) (x : Explanation) (found : Option (String Global)) (line : String Global) (text : List ℕ) (old new : Option (List ℕ)) → IsExplained p x → IsScriptOf (run_at n x) (option_map string_bytes found) → found ≡ Some line → text ≡ string_bytes line → Appends old new (text ++ 10 ∷ []) → WritesScript p n old new
script_written p n x found line text old new explained is has same written =
    let P : Option (String Global) → Type 0 = λ o. IsScriptOf (run_at n x) (option_map string_bytes o) in
    written_of p n x (run_at n x) (string_bytes line) old new explained refl (subst P has is) (subst (λ t. Appends old new (t ++ 10 ∷ [])) same written)

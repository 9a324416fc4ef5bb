-- The line of a script that is written of a table with ghosts, and that its schedule goes wrong.
use Rattle.std.specs.Prelude.{◌≡◌, ◌++◌, ◌∷◌, [], ◌==◌, ℕ, List, Bool, true, false, Option, Some, None, IfSome, String, option_map, string_bytes, refl, if◌then◌else◌}
use Rattle.std.specs.Io.KnownBytes.{Appends}
use Rattle.std.proofs.Common.{Global, subst}
use Rattle.kr_ghost.specs.Protocol.{GhostProtocol}
use Rattle.kr_ghost_explain.specs.Explained.{IsGhostExplained, IsWrong, Tells, schedule_at}
use Rattle.kr_ghost_explain.specs.declared.explanation.GhostExplanation.{GhostExplanation}
use Rattle.kr_ghost_explain.specs.declared.explanation.GhostExplanation.TheVariants as told
use Rattle.kr_ghost_explain.specs.declared.schedule.GhostSchedule.{GhostSchedule}
use Rattle.kr_cli_tables.specs.Explain.{WritesGhostScript}

wrong_if : (p : GhostProtocol) (is_first : Bool) (found : Option GhostSchedule) (s : GhostSchedule) → IfSome found (IsWrong p) → (if is_first then found else None) ≡ Some s → IsWrong p s
wrong_if p true found s wrong is = subst (λ (o : Option GhostSchedule). IfSome o (IsWrong p)) is wrong
wrong_if p false found s wrong is = absurd cc

-- the schedule of a number goes wrong
wrong_of : (p : GhostProtocol) (n : ℕ) (x : GhostExplanation) (s : GhostSchedule) → Tells p x → schedule_at n x ≡ Some s → IsWrong p s
wrong_of p n (told.Accepted cases) s tells has = absurd cc
wrong_of p n (told.Safe f) s tells has = absurd cc
wrong_of p n (told.Rejected f) s tells has = wrong_if p (n == 1) f.schedule s tells.wrong has

written_of : (p : GhostProtocol) (n : ℕ) (x : GhostExplanation) (found : Option GhostSchedule) (line : List ℕ) (old new : Option (List ℕ)) → IsGhostExplained p x → schedule_at n x ≡ found → Some line ≡ option_map (λ s. string_bytes s.line) found → Appends old new (line ++ 10 ∷ []) → WritesGhostScript p n old new
written_of p n x None line old new explained has is written = absurd cc
written_of p n x (Some s) line old new explained has is written =
    let same : line ≡ string_bytes s.line = cc in
    record { explanation = x; schedule = s; explained = explained; numbered = has; wrong = wrong_of p n x s explained.told has; is_line = s.reads; written = subst (λ t. Appends old new (t ++ 10 ∷ [])) same written }

-- the script of the schedule of a number was written
pub ghost_script_written : (p : GhostProtocol) (n : ℕ) (x : GhostExplanation) (found : Option (String Global)) (line : String Global) (text : List ℕ) (old new : Option (List ℕ)) → IsGhostExplained p x → option_map string_bytes found ≡ option_map (λ s. string_bytes s.line) (schedule_at n x) → found ≡ Some line → text ≡ string_bytes line → Appends old new (text ++ 10 ∷ []) → WritesGhostScript p n old new
ghost_script_written p n x found line text old new explained is has same written =
    let P : Option (String Global) → Type 0 = λ o. option_map string_bytes o ≡ option_map (λ s. string_bytes s.line) (schedule_at n x) in
    written_of p n x (schedule_at n x) (string_bytes line) old new explained refl (subst P has is) (subst (λ t. Appends old new (t ++ 10 ∷ [])) same written)

-- The schedules of an explanation of a table with ghosts: each that is found goes wrong.
use Rattle.std.specs.Prelude.{◌≡◌, ℕ, ◌==◌, Bool, true, false, List, Option, Some, None, IfSome, option_map, string_bytes, refl, if◌then◌else◌}
use Rattle.std.proofs.Common.{subst}
use Rattle.kr_ghost.specs.Protocol.{GhostProtocol}
use Rattle.kr_ghost_explain.specs.Explained.{IsGhostExplained, IsWrong, Tells, schedule_at}
use Rattle.kr_ghost_explain.specs.Lines.{IsGhostLineOf}
use Rattle.kr_ghost_explain.specs.declared.explanation.GhostExplanation.{GhostExplanation}
use Rattle.kr_ghost_explain.specs.declared.explanation.GhostExplanation.TheVariants as told
use Rattle.kr_ghost_explain.specs.declared.schedule.GhostSchedule.{GhostSchedule}
use Rattle.kr_embed.specs.Explanations.{IsScheduleAt}

wrong_if : (p : GhostProtocol) (is_first : Bool) (found : Option GhostSchedule) (s : GhostSchedule) → IfSome found (IsWrong p) → (if is_first then found else None) ≡ Some s → IsWrong p s
wrong_if p true found s wrong is = subst (λ (o : Option GhostSchedule). IfSome o (IsWrong p)) is wrong
wrong_if p false found s wrong is = absurd cc

-- the schedule of a number goes wrong
wrong_of : (p : GhostProtocol) (n : ℕ) (x : GhostExplanation) (s : GhostSchedule) → Tells p x → schedule_at n x ≡ Some s → IsWrong p s
wrong_of p n (told.Accepted cases) s tells has = absurd cc
wrong_of p n (told.Safe f) s tells has = absurd cc
wrong_of p n (told.Rejected f) s tells has = wrong_if p (n == 1) f.schedule s tells.wrong has

schedule_by : (p : GhostProtocol) (n : ℕ) (x : GhostExplanation) (found : Option GhostSchedule) (line : Option (List ℕ)) → IsGhostExplained p x → schedule_at n x ≡ found → line ≡ option_map (λ s. string_bytes s.line) found → IsScheduleAt p n line
schedule_by p n x None None explained has is = record { explanation = x; explained = explained; none = has }
schedule_by p n x None (Some line) explained has is = absurd cc
schedule_by p n x (Some s) None explained has is = absurd cc
schedule_by p n x (Some s) (Some line) explained has is =
    let same : string_bytes s.line ≡ line = cc in
    record { explanation = x; schedule = s; explained = explained; numbered = has; wrong = wrong_of p n x s explained.told has; is_line = subst (λ (t : List ℕ). IsGhostLineOf s.script t) same s.reads }

-- the script of the schedule of a number, if there is one
pub schedule_found : (p : GhostProtocol) (n : ℕ) (x : GhostExplanation) (line : Option (List ℕ)) → IsGhostExplained p x → line ≡ option_map (λ s. string_bytes s.line) (schedule_at n x) → IsScheduleAt p n line
schedule_found p n x line explained is = schedule_by p n x (schedule_at n x) line explained refl is

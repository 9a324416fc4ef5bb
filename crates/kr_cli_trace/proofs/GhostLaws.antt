-- A part that is held against a table with ghosts.
use Rattle.std.specs.Prelude.{◌≡◌, ℕ, Bool, List, [], ◌∷◌, ◌++◌, Option, Result, Ok, Err, IfOk}
use Rattle.std.specs.BTreeMap.{BTreeMap}
use Rattle.kr_cli.specs.declared.endings.Ending.{Ending}
use Rattle.kr_cli.specs.Lawful.{lawful_of}
use Rattle.kr_cli.specs.GhostLawful.{lawful_ghosts_of}
use Rattle.kr_cli.specs.NamedTables.{Names}
use Rattle.kr_cli.specs.declared.named.Named.{Named}
use Rattle.kr_cli.specs.declared.named.Named.TheVariants.{Table, Ghosts}
use Rattle.kr_model.specs.declared.Event.{Event}
use Rattle.kr_model.specs.Map.{Map}
use Rattle.kr_ghost.specs.Protocol.{GhostProtocol}
use Rattle.kr_ghost_follow.specs.Stands.{Follows, HasFollowed}
use Rattle.kr_trace_lines.specs.declared.deviation.Deviation.{Deviation}
use Rattle.kr_trace_lines.specs.declared.observed.Observed.{Observed}
use Rattle.kr_trace_lines.specs.declared.verdict.TraceVerdict.{TraceVerdict}
use Rattle.kr_cli_trace.specs.Ghosts.{AreFollowed, IsLawfulNamed}
use Rattle.kr_trace_parts.specs.Judged.{AreJudged}
use Rattle.kr_trace_parts.specs.Parts.{Part, with_step}
use Rattle.kr_trace_parts.specs.declared.tales.Tale.{Tale}

-- One more step is followed.
pub step_followed : {P : Type 0} (ghosts : P → GhostProtocol) (q : P) (s : Part) (n : ℕ) (e : Event) (o : Observed) (at new : Follows P) (d later : Option Deviation) (tests : List (List ℕ))
    (tales told : BTreeMap ℕ Tale) (m left : Map) (found now : Option TraceVerdict)
    → AreFollowed ghosts q s at d tests tales m found → HasFollowed ghosts q s.opening (s.steps ++ record { number = n; event = e; observed = o } ∷ []) new → later ≡ new.found
    → AreJudged s.opening (s.steps ++ record { number = n; event = e; observed = o } ∷ []) told left now
    → AreFollowed ghosts q (with_step n e o s) new later tests told left now
step_followed ghosts q s n e o at new d later tests tales told m left found now h is found_is judged = record { rising = h.rising; followed = is; deviates = found_is; texts = h.texts; judged = judged }

-- Each table that a word names is lawful.
pub lawful_named : (t : Named) → IsLawfulNamed t
lawful_named (Table t) = lawful_of t
lawful_named (Ghosts t) = lawful_ghosts_of t

-- What is asked of a table that a word names.
pub named_held : (may_give : List ℕ → Option (List ℕ) → Type 0) (table : List ℕ) (t : Named) (Held : Named → Bool → Type 0) (r : Result Bool Ending)
    → Names may_give table t → IfOk r (Held t) → IfOk r (λ well. (u : Named) × (Names may_give table u × (IsLawfulNamed u × Held u well)))
named_held may_give table t Held (Ok well) names h = (t, (names, (lawful_named t, h)))
named_held may_give table t Held (Err e) names h = tt

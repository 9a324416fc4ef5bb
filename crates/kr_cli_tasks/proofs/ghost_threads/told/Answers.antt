use Rattle.std.proofs.Common.{◌≡◌, ◌++◌, ◌∷◌, [], List, ℕ, ap, sym, refl, ◌∙◌}
use Rattle.kr_model.specs.Difference.{first_difference}
use Rattle.kr_judge.specs.declared.verdict.Verdict.{Verdict}
use Rattle.kr_judge.specs.declared.verdict.Verdict.TheVariants.{Serial}
use Rattle.kr_judge.specs.Verdicts.{verdict_of}
use Rattle.kr_judge.proofs.Wholes.{serial_exactly}
use Rattle.kr_ghost.proofs.AllCases.{covered_is_safe}
use Rattle.kr_ghost_threads.specs.Histories.{programs_of}
use Rattle.kr_ghost_threads.specs.Report.{ghost_threads_text}
use Rattle.kr_cli_tasks.proofs.ghost_threads.told.Goals as goal

-- Under a covered protocol, which is safe, the verdict is that the run is serializable.
pub returns : goal.returns
returns g c =
    let protocol = c.args.protocol.now in
    let p = g.P.GhostProtocol.ghosts protocol in
    let laws = (g.met.P.GhostProtocol g.world.𝓛 g.world.𝓜 g.world.𝓡 ((λ s x. x), (λ x. x), (λ x. x), λ x. x)).lawful_ghosts protocol in
    let opening = c.args.script.now.opening in
    let d = c.in_ok-threaded.threaded in
    let ps = programs_of p opening d.history.items in
    let v : Verdict = verdict_of (first_difference opening ps) in
    let is : v ≡ Serial = (serial_exactly v opening ps refl).1 (c.in_ok-threaded.ensures.safe (covered_is_safe p laws c.requires)) in
    (d, (c.in_ok-threaded.ensures.threaded, ap (λ (t : List ℕ). t ++ 10 ∷ []) (c.in_ok-report_ghost_threads.ensures.text ∙ (λ i. ghost_threads_text d.faults.items d.ghosts d.history.items d.index [] (sym is i)))))

use Rattle.std.proofs.Common.{◌≡◌, ℕ, ◌*◌, ◌+◌, Bool, refl, sym, ◌∙◌, ap}
use Rattle.std.specs.Prelude.{if◌then◌else◌}
use Rattle.kr_ghost.specs.Protocol.{inherits}
use Rattle.kr_ghost_check.specs.Groups.{line_count}
use Rattle.kr_ghost_check.proofs.CaseCount.{length_cases}
use Rattle.kr_ghost_check.proofs.checker.cases.Goals as goal
use Rattle.kr_ghost_check.proofs.checker.cases.Goals.{then-inherits, else-inherits}

by_parts : (m n l k : ℕ) (i : Bool) (heirs : ℕ) → m ≡ n → l ≡ k → heirs ≡ (if i then m * (m + 1) else 0)
    → 3 * (m * m) + l * (m + 1) + heirs ≡ 3 * (n * n) + k * (n + 1) + (if i then n * (n + 1) else 0)
by_parts m n l k i heirs e f h = rw (h, e, f) refl

pub returns : goal.returns
returns g c =
    let p = g.P.GhostProtocol.ghosts c.args.protocol.now in
    by_parts c.count-modes.result p.table.count c.lines.result (line_count p) (inherits p.purges) c.if-inherits.heirs c.count-modes.ensures.count c.lines.ensures.lines
    (heirs ∙ ap inherited c.inherits.ensures) ∙ sym (length_cases p)
  where
    inherited : Bool → ℕ
    inherited b = if b then c.count-modes.result * (c.count-modes.result + 1) else 0

    heirs : c.if-inherits.heirs ≡ inherited c.inherits.result
    heirs = elim c.if-inherits.branch [ then-inherits w ↦ w.heirs-is ∙ ap inherited (sym w.if-inherits.true) | else-inherits w ↦ w.heirs-is ∙ ap inherited (sym w.if-inherits.false) ]

-- A side requests a mode.
use Rattle.std.specs.Prelude.{◌≡◌, ℕ, Option, Some, None, refl}
use Rattle.std.proofs.Common.{sym, ◌∙◌, ap, subst}
use Rattle.kr_model.specs.declared.Name.{Name}
use Rattle.kr_model.specs.declared.Span.{Span}
use Rattle.kr_model.specs.Locks.{Request}
use Rattle.kr_model.specs.Plan.{side_request}
use Rattle.kr_model.specs.Protocol.{Protocol}
use Rattle.kr_ghost.specs.Protocol.{AsksMode}
use Rattle.kr_plan.specs.Modes.{SideIsMode}

-- What is requested on a name is a mode where a mode is asked.
asked_side : (p : Protocol) (n : Name) (asked : Option (ℕ × Span)) → AsksMode p asked → SideIsMode p.count (side_request (Some n) asked)
asked_side p n None mode = tt
asked_side p n (Some (q, span)) mode = let m = mode q span refl in (m.some, m.in_range)

-- The same of the protocol that has these tables, and of a side by its name and by what is asked.
pub side_mode : (p table : Protocol) → p ≡ table → (asked : Option (ℕ × Span)) → AsksMode p asked
    → (n : Name) (side : Option Request) (r : Option (ℕ × Span)) → side ≡ side_request (Some n) r → r ≡ asked → SideIsMode table.count side
side_mode p table same asked mode n side r is by =
    subst (λ q. SideIsMode q.count side) same (subst (SideIsMode p.count) (sym (is ∙ ap (side_request (Some n)) by)) (asked_side p n asked mode))

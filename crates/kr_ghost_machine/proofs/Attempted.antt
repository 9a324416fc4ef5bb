-- An attempt, by its parts.
use Rattle.std.specs.Prelude.{◌≡◌, ℕ, Bool, true, false, not, ◌||◌, ◌==◌, cond, List, [], ◌∷◌, Option, Some, None, filter, refl}
use Rattle.std.specs.Ordering.{nat_cmp}
use Rattle.std.specs.FinMap.{put}
use Rattle.std.proofs.Common.{sym, ◌∙◌, ap}
use Rattle.kr_model.specs.declared.Reply.{Reply}
use Rattle.kr_model.specs.Protocol.{Protocol}
use Rattle.kr_model.specs.Map.{Map}
use Rattle.kr_model.specs.Locks.{Locks, Request, kept}
use Rattle.kr_model.specs.State.{Active, Scan}
use Rattle.kr_model.specs.Step.{Effect}
use Rattle.kr_ghost.specs.Protocol.{GhostProtocol}
use Rattle.kr_ghost.specs.State.{GhostState, among}
use Rattle.kr_ghost.specs.Step.{after_effect, attempted}
use Rattle.kr_ghost_index.specs.Index.{GhostIndex}
use Rattle.kr_ghost_machine.specs.Machine.{shown}
use Rattle.kr_ghost_machine.specs.Sights.{HasRange}
use Rattle.kr_ghost_machine.proofs.Backs.{made}

-- The same requests, effect and ghosts make the same attempt.
pub attempted_as : (p : GhostProtocol) (s : GhostState) (t : ℕ) (rs qs : List Request) (e f : Effect) (g i : List ℕ) → rs ≡ qs → e ≡ f → g ≡ i → attempted p s t rs e g ≡ attempted p s t qs f i
attempted_as p s t rs qs e f g i same_requests same_effect same_ghosts =
    ap (λ z. attempted p s t z e g) same_requests ∙ ap (λ z. attempted p s t qs z g) same_effect ∙ ap (λ z. attempted p s t qs f z) same_ghosts

-- Without a key that is none of them, the ghosts are the same.
pub no_ghost_less : (ghosts : List ℕ) (k : ℕ) → among ghosts k ≡ false → filter (λ g. not (g == k)) ghosts ≡ ghosts
no_ghost_less [] k out = refl
no_ghost_less (g ∷ ghosts) k out = by (g == k) out (no_ghost_less ghosts k)
  where
    by : (b : Bool) → (b || among ghosts k) ≡ false → (among ghosts k ≡ false → filter (λ g. not (g == k)) ghosts ≡ ghosts)
        → cond (not b) (g ∷ filter (λ g. not (g == k)) ghosts) (filter (λ g. not (g == k)) ghosts) ≡ g ∷ ghosts
    by true h more = absurd (cc)
    by false h more = ap (λ (l : List ℕ). g ∷ l) (more h)

-- A scan that has this range left.
pub range_of : (lo hi : ℕ) (o : Option Scan) → HasRange (lo, hi) o → (rows : List (ℕ × ℕ)) × (o ≡ Some (record { lo = lo; hi = hi; rows = rows }))
range_of lo hi None has = absurd has
range_of lo hi (Some c) has = (c.rows, ap (λ l. Some (record { lo = l; hi = c.hi; rows = c.rows })) has.0 ∙ ap (λ h. Some (record { lo = lo; hi = h; rows = c.rows })) has.1)

-- What a granted attempt leaves, by the parts.
pub granted_as : (p : GhostProtocol) (table : Protocol) → p.table ≡ table → (s : GhostState) (t : ℕ) (rs : List Request) (e : Effect) (ghosts : List ℕ) (r : Reply) (y : GhostIndex) (l : Locks) (ended : List ℕ) (more : List (ℕ × Active))
    → r ≡ e.reply → y.map ≡ e.map → y.ghosts ≡ ghosts → l ≡ kept table s.state.locks t rs → ended ≡ s.state.ended → more ≡ put nat_cmp t e.standing s.state.active
    → after_effect p s t rs e ghosts ≡ (r, shown y l ended more)
granted_as p table same s t rs e ghosts r y l ended more replies maps ghosts_are locks ends items =
    sym (ap (λ (z : Reply). (z, made y.map y.ghosts l ended more)) replies
    ∙ ap (λ (z : Map). (e.reply, made z y.ghosts l ended more)) maps
    ∙ ap (λ (z : List ℕ). (e.reply, made e.map z l ended more)) ghosts_are
    ∙ ap (λ (z : Locks). (e.reply, made e.map ghosts z ended more)) (locks ∙ ap (λ (q : Protocol). kept q s.state.locks t rs) (sym same))
    ∙ ap (λ (z : List ℕ). (e.reply, made e.map ghosts (kept p.table s.state.locks t rs) z more)) ends
    ∙ ap (λ (z : List (ℕ × Active)). (e.reply, made e.map ghosts (kept p.table s.state.locks t rs) s.state.ended z)) items)

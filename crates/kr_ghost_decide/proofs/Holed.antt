-- What is a hole by the code's test is one.
use Rattle.std.proofs.Common.{Bool, true, false, ◌≡◌, Option, Some, None, refl, sym, ap, ◌∙◌, subst}
use Rattle.std.specs.Prelude.{◌&&◌, not, is_some, IsTrue, ◌↔◌}
use Rattle.std.proofs.lemmas.Bool.{and_parts}
use Rattle.kr_ghost.specs.Protocol.{GhostProtocol}
use Rattle.kr_ghost.specs.Safe.{is_blocked, keeps_out, IsSafeGhost}
use Rattle.kr_ghost_decide.specs.declared.ask.Ask.{Ask}
use Rattle.kr_ghost_decide.specs.declared.decision.Hole.{Hole}
use Rattle.kr_ghost_decide.specs.declared.hold.Pair.{Pair}
use Rattle.kr_ghost_decide.specs.Holds.{Fact, fact, facts, hold, asking}
use Rattle.kr_ghost_decide.specs.Ways.{may_ask}
use Rattle.kr_ghost_decide.specs.Found.{IsReached}
use Rattle.kr_ghost_decide.specs.Holes.{IsHole, Tells, HasNoHole, HaveNoHole, is_hole}
use Rattle.kr_ghost_decide.proofs.Moved.{not_true, may_back}

pub holed : (p : GhostProtocol) (q : Pair) (a : Ask) → IsReached p (fact q) → is_hole p (fact q) (asking a) ≡ true → IsHole p (record { ask = a; present = q.present; own = q.own; other = q.other })
holed p q a i h =
    let s = and_parts (may_ask p q.present (hold q.own) (asking a)) (keeps_out q.present (hold q.other) (asking a) && not (is_blocked p (hold q.own) (hold q.other) (asking a))) h in
    let t = and_parts (keeps_out q.present (hold q.other) (asking a)) (not (is_blocked p (hold q.own) (hold q.other) (asking a))) s.1 in
    record { beside = i.beside; may = may_back p q.present (hold q.own) (asking a) s.0; due = t.0; gets_through = not_true _ t.1 }

-- A protocol with a hole isn't safe.
pub hole_unsafe : (p : GhostProtocol) (h : Hole) → IsHole p h → IsSafeGhost p → ⊥
hole_unsafe p h i safe = let e = safe (asking h.ask) h.present (hold h.own) (hold h.other) i.beside i.may i.due in let f = i.gets_through in cc

-- A place has no hole where no pair is marked there, or none of its requests is one.
pub unmarked : (p : GhostProtocol) (r : Option Pair) (m : Option Fact) → facts r ≡ m → r ≡ None → HaveNoHole p m
unmarked p r m is none = subst (HaveNoHole p) (sym (ap facts none) ∙ is) tt

pub without : (p : GhostProtocol) (r : Option Pair) (q : Pair) (m : Option Fact) → facts r ≡ m → r ≡ Some q → HasNoHole p 13 (fact q) → HaveNoHole p m
without p r q m is some h = subst (HaveNoHole p) (sym (ap facts some) ∙ is) h

-- The answer by whether a hole was found.
pub told : (p : GhostProtocol) (o : Option Hole) (b : Bool) → Tells p o → is_some o ≡ not b → IsTrue b ↔ IsSafeGhost p
told p None true t e = (λ h. t, λ s. refl)
told p None false t e = absurd (cc)
told p (Some h) true t e = absurd (cc)
told p (Some h) false t e = (λ s. absurd (cc), λ s. absurd (hole_unsafe p h t s))

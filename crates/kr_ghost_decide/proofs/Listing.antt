-- A list of all marked pairs grows, place by place.
use Rattle.std.proofs.Common.{ℕ, Bool, ◌≡◌, ◌<◌, ◌+◌, ◌∙◌, List, [], ◌∷◌, ◌++◌, All, length, Option, Some, None, sym, ap, refl, subst, arith, below_more}
use Rattle.std.specs.Prelude.{Contains}
use Rattle.std.proofs.lemmas.List.Elements.{All-push, Contains-append_left, Contains-push}
use Rattle.kr_ghost.specs.Protocol.{GhostProtocol}
use Rattle.kr_ghost_decide.specs.declared.hold.Pair.{Pair}
use Rattle.kr_ghost_decide.specs.Holds.{Fact, fact, facts}
use Rattle.kr_ghost_decide.specs.Found.{IsReached, found_at}
use Rattle.kr_ghost_decide.specs.Every.{HasFact, HasFactOf, AreListed}

pub listed_none : (p : GhostProtocol) (marks : List Bool) (list : List Pair) → list ≡ [] → AreListed p marks 0 list
listed_none p marks list none = record {
  reached = subst (All (λ (q : Pair). IsReached p (fact q))) (sym none) (λ k d low. absurd (omega arith));
  listed = λ k low. absurd (omega arith);
}

kept : (list : List Pair) (q : Pair) (m : Option Fact) → HasFactOf list m → HasFactOf (list ++ q ∷ []) m
kept list q None h = tt
kept list q (Some f) h = record { pair = h.pair; there = Contains-append_left list (q ∷ []) h.pair h.there; is = h.is }

pub listed_more : (p : GhostProtocol) (marks : List Bool) (place : ℕ) (list new : List Pair) (r : Option Pair) (q : Pair) → AreListed p marks place list
    → facts r ≡ found_at marks place → r ≡ Some q → new ≡ list ++ q ∷ [] → IsReached p (fact q) → AreListed p marks (place + 1) new
listed_more p marks place list new r q are is some now reached = subst (AreListed p marks (place + 1)) (sym now) (record {
  reached = All-push (λ (x : Pair). IsReached p (fact x)) list q are.reached reached;
  listed = below_more (λ k. HasFactOf (list ++ q ∷ []) (found_at marks k)) place (λ k low. kept list q (found_at marks k) (are.listed k low))
      (subst (HasFactOf (list ++ q ∷ [])) (sym (ap facts some) ∙ is) (record { pair = q; there = Contains-push list q; is = refl }));
})

pub listed_same : (p : GhostProtocol) (marks : List Bool) (place : ℕ) (list : List Pair) (r : Option Pair) → AreListed p marks place list → facts r ≡ found_at marks place → r ≡ None → AreListed p marks (place + 1) list
listed_same p marks place list r are is none = record {
  reached = are.reached;
  listed = below_more (λ k. HasFactOf list (found_at marks k)) place are.listed (subst (HasFactOf list) (sym (ap facts none) ∙ is) tt);
}

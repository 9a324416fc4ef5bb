-- The list of what is left on ghosts grows, pair by pair.
use Rattle.std.proofs.Common.{ℕ, Bool, true, false, ◌≡◌, ◌≤◌, ◌<◌, ◌+◌, ◌⊎◌, inl, inr, List, [], ◌∷◌, ◌++◌, length, Option, Some, None, sym, ap, ◌∙◌, subst, arith, below_more}
use Rattle.std.proofs.Math.ListN.{get_or-append}
use Rattle.std.proofs.Math.Seq.{get_or-append_seam}
use Rattle.std.proofs.lemmas.List.{length-append}
use Rattle.kr_ghost.specs.Protocol.{GhostProtocol, inherits}
use Rattle.kr_ghost_decide.specs.declared.hold.Pair.{Pair}
use Rattle.kr_ghost_decide.specs.declared.heir.Heirs.{Heirs}
use Rattle.kr_ghost_decide.specs.Holds.{Fact, fact, facts}
use Rattle.kr_ghost_decide.specs.Heirs.{left_of}
use Rattle.kr_ghost_decide.specs.Found.{IsReached, IsLeft, AreLeft, AreHeirs, HasHeirs, HasLeft, found_at, heirs_at, nothing}

-- What stands at a place once h is put behind the list.
before : (list : List Heirs) (h : Heirs) (k : ℕ) → k < length list → heirs_at (list ++ (h ∷ [])) k ≡ heirs_at list k
before list h k lt = get_or-append list (h ∷ []) nothing k lt

last : (list : List Heirs) (h : Heirs) → heirs_at (list ++ (h ∷ [])) (length list) ≡ h
last list h = get_or-append_seam list h [] nothing

longer : (list : List Heirs) (h : Heirs) → length (list ++ (h ∷ [])) ≡ length list + 1
longer list h = length-append list (h ∷ [])

kept : (list : List Heirs) (h g : Heirs) → HasHeirs list g → HasHeirs (list ++ (h ∷ [])) g
kept list h g there = let w = there.within in let l = longer list h in record { place = there.place; within = omega arith; is = before list h there.place w ∙ there.is }

added : (list : List Heirs) (h : Heirs) → HasHeirs (list ++ (h ∷ [])) h
added list h = let l = longer list h in record { place = length list; within = omega arith; is = last list h }

module _ (p : GhostProtocol) (marks : List Bool) (place : ℕ) where
  all_left : (list : List Heirs) (h : Heirs) → AreLeft p list → IsLeft p h → AreLeft p (list ++ (h ∷ []))
  all_left list h are one k lt = by (below_or_last k (length list) (let l = longer list h in omega arith))
    where
      below_or_last : (c n : ℕ) → c ≤ n → (c < n) ⊎ (c ≡ n)
      below_or_last c n le = grind arith

      by : (k < length list) ⊎ (k ≡ length list) → IsLeft p (heirs_at (list ++ (h ∷ [])) k)
      by (inl b) = subst (IsLeft p) (sym (before list h k b)) (are k b)
      by (inr e) = subst (λ i. IsLeft p (heirs_at (list ++ (h ∷ [])) i)) (sym e) (subst (IsLeft p) (sym (last list h)) one)

  more_left : (list : List Heirs) (h : Heirs) (m : Option Fact) → HasLeft p list m → HasLeft p (list ++ (h ∷ [])) m
  more_left list h None l = tt
  more_left list h (Some f) l = λ g e. kept list h g (l g e)

  -- Nothing is new at this place.
  same : (list : List Heirs) → AreHeirs p marks place list → HasLeft p list (found_at marks place) → AreHeirs p marks (place + 1) list
  same list are here = record { left = are.left; all = λ e. below_more (λ k. HasLeft p list (found_at marks k)) place (are.all e) here }

  pub unmarked : (list : List Heirs) (r : Option Pair) → AreHeirs p marks place list → facts r ≡ found_at marks place → r ≡ None → AreHeirs p marks (place + 1) list
  unmarked list r are is none = same list are (subst (HasLeft p list) (sym (ap facts none) ∙ is) tt)

  pub nothing_left : (list : List Heirs) (r : Option Pair) (q : Pair) (l : Option Heirs) → AreHeirs p marks place list → facts r ≡ found_at marks place → r ≡ Some q → l ≡ left_of p (fact q) → l ≡ None → AreHeirs p marks (place + 1) list
  nothing_left list r q l are is some left none = same list are (subst (HasLeft p list) (sym (ap facts some) ∙ is) (λ h e. absurd (cc)))

  pub has_left : (list : List Heirs) (r : Option Pair) (q : Pair) (l : Option Heirs) (h : Heirs) → AreHeirs p marks place list → facts r ≡ found_at marks place → r ≡ Some q → l ≡ left_of p (fact q) → l ≡ Some h → HasHeirs list h
      → AreHeirs p marks (place + 1) list
  has_left list r q l h are is some left one there = same list are (subst (HasLeft p list) (sym (ap facts some) ∙ is) (λ g e. let same : h ≡ g = cc in subst (HasHeirs list) same there))

  pub one_more : (list new : List Heirs) (r : Option Pair) (q : Pair) (l : Option Heirs) (h : Heirs) → AreHeirs p marks place list → facts r ≡ found_at marks place → r ≡ Some q → l ≡ left_of p (fact q) → l ≡ Some h → new ≡ list ++ (h ∷ []) → IsReached p (fact q) → inherits p.purges ≡ true
      → h.own.mode ≤ p.table.count → h.other.mode ≤ p.table.count → AreHeirs p marks (place + 1) new
  one_more list new r q l h are is some left one now reached inherits own other = subst (AreHeirs p marks (place + 1)) (sym now) (record {
    left = all_left list h are.left (record { fact = fact q; reached = reached; is = sym left ∙ one; inherits = inherits; own = own; other = other });
    all = λ e.
        below_more (λ k. HasLeft p (list ++ (h ∷ [])) (found_at marks k)) place (λ k lt. more_left list h (found_at marks k) (are.all e k lt))
        (subst (HasLeft p (list ++ (h ∷ []))) (sym (ap facts some) ∙ is) (λ g e. let same : h ≡ g = cc in subst (HasHeirs (list ++ (h ∷ []))) same (added list h)));
  })

-- Where nothing is inherited, nothing is left.
pub none_left : (p : GhostProtocol) (marks : List Bool) (n : ℕ) (list : List Heirs) (b : Bool) → b ≡ inherits p.purges → b ≡ false → list ≡ [] → AreHeirs p marks n list
none_left p marks n list b is off none = record { left = λ k lt. absurd (let e = ap length none in omega arith); all = λ e. absurd (cc) }

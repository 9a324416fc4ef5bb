-- The parts in which a scan downwards reads its range.
use Rattle.std.specs.Prelude.{◌≡◌, ℕ, zero, suc, ◌+◌, ◌-◌, ◌<◌, ◌≤◌, ◌&&◌, ◌==◌, nat_le, Bool, true, false, if◌then◌else◌, List, [], ◌∷◌, ◌++◌, reverse, Option, Some, None, refl, ◌⊎◌}
use Rattle.std.proofs.Common.{ap, ap₂, sym, subst, ◌∙◌, arith, inl, inr, ⊎_elim}
use Rattle.std.proofs.lemmas.Bool.{cases_lt}
use Rattle.std.proofs.lemmas.Bool.Decides.{nat_tests}
use Rattle.std.proofs.lemmas.List.{reverse-append}
use Rattle.kr_model.specs.declared.Op.{Op}
use Rattle.kr_model.specs.declared.Op.TheVariants as op
use Rattle.kr_model.specs.declared.Name.{Name}
use Rattle.kr_model.specs.declared.Name.TheVariants.{Key, End}
use Rattle.kr_model.specs.declared.Refusal.{Refusal}
use Rattle.kr_model.specs.declared.Reply.TheVariants as reply
use Rattle.kr_model.specs.Difference.{same_pairs}
use Rattle.kr_model.specs.Locks.{Request, blockers}
use Rattle.kr_model.specs.Map.{Map, IsMap, at, get, pairs_between}
use Rattle.kr_model.specs.Run.{is_granted}
use Rattle.kr_model.specs.State.{Active, Scan, standing}
use Rattle.kr_model.specs.Step.{effect, refusal_of, scan_ended}
use Rattle.kr_model.proofs.Actives.{tied}
use Rattle.kr_theorem.proofs.gaps.Gaps.{Rising, and_one, and_two, rising}
use Rattle.kr_ghost.specs.Protocol.{GhostProtocol}
use Rattle.kr_ghost.specs.State.{GhostState, name_from, named}
use Rattle.kr_ghost.specs.Step.{Outcome, granted_or_blocked, look_requests, looked, name_read, rows_with, step, unless_refused}
use Rattle.kr_trace_follow.proofs.TaleLines.{same_number}
use Rattle.kr_ghost_follow.specs.Parts.{AreParts, IsSingle, last, more}
use Rattle.kr_ghost_follow.specs.Points.{parts, upper_end}

-- Parts --

at_above : (m : Map) (c k : ℕ) → at m c ≡ Key k → c ≤ k
at_above [] c k e = absurd (cc)
at_above (x ∷ m) c k e = by (λ is. at_above m c k is) (nat_le c x.0) refl e
  where
    by : (at m c ≡ Key k → c ≤ k) → (b : Bool) → nat_le c x.0 ≡ b → (if b then Key x.0 else at m c) ≡ Key k → c ≤ k
    by later true le is = let same : x.0 ≡ k = cc in grind (arith, nat_tests, le, same)
    by later false le is = later is

name_above : (s : GhostState) (lo k : ℕ) → name_from s lo ≡ Key k → lo ≤ k
name_above s lo k e = at_above (named s.state.map s.ghosts) lo k e

end_single : (s : GhostState) (lo hi : ℕ) (n : Name) → name_from s lo ≡ n → IsSingle s lo (upper_end n hi)
end_single s lo hi End e k is = absurd (let no : End ≡ Key k = sym e ∙ is in cc)
end_single s lo hi (Key j) e k is = let same : j ≡ k = (let both : Key j ≡ Key k = sym e ∙ is in cc) in omega (arith, same)

end_within : (s : GhostState) (lo hi : ℕ) (n : Name) → name_from s lo ≡ n → lo ≤ hi → (lo ≤ upper_end n hi) × (upper_end n hi ≤ hi)
end_within s lo hi End e le = (le, omega arith)
end_within s lo hi (Key j) e le = let above = name_above s lo j e in (omega (arith, above, le), omega arith)

-- The parts of a range.
pub parts_are : (s : GhostState) (n lo hi : ℕ) → lo ≤ hi → hi - lo ≤ n → AreParts s lo hi (parts s n lo hi)
parts_are s zero lo hi le few = last lo hi le (λ k e. let above = name_above s lo k e in omega (arith, above, few))
parts_are s (suc n) lo hi le few = by (λ low less. parts_are s n (suc end) hi low less) (end == hi) refl
  where
    end : ℕ
    end = upper_end (name_from s lo) hi

    within : (lo ≤ end) × (end ≤ hi)
    within = end_within s lo hi (name_from s lo) refl le

    single : IsSingle s lo end
    single = end_single s lo hi (name_from s lo) refl

    by : (suc end ≤ hi → hi - suc end ≤ n → AreParts s (suc end) hi (parts s n (suc end) hi)) → (b : Bool) → (end == hi) ≡ b → AreParts s lo hi (op.Scan lo end ∷ (if b then [] else parts s n (suc end) hi))
    by rest true e =
        let same = same_number end hi e in
        subst (λ z. AreParts s lo hi (op.Scan lo z ∷ [])) (sym same) (last lo hi le (subst (λ z. IsSingle s lo z) same single))
    by rest false e =
        let apart : end < hi = grind (arith, nat_tests, e, within.1) in
        more lo end hi (parts s n (suc end) hi) within.0 apart single (rest (omega (arith, apart)) (omega (arith, few, within.0, apart)))

-- Scans that cover the range from lo up to below `from`, the uppermost first.
abbrev pub Fall : GhostState → ℕ → List Op → ℕ → Type 0
Fall s from [] lo = from ≡ lo
Fall s from (op.Scan l e ∷ os) lo = (from ≡ suc e) × ((l ≤ e) × (IsSingle s l e × Fall s l os lo))
Fall s from (_ ∷ os) lo = ⊥

fall_on : (s : GhostState) (from : ℕ) (os : List Op) (mid l e : ℕ) → Fall s from os mid → mid ≡ suc e → l ≤ e → IsSingle s l e → Fall s from (os ++ op.Scan l e ∷ []) l
fall_on s from [] mid l e h is le single = (h ∙ is, (le, (single, refl)))
fall_on s from (op.Scan a b ∷ os) mid l e h is le single = (h.0, (h.1.0, (h.1.1.0, fall_on s a os mid l e h.1.1.1 is le single)))
fall_on s from (_ ∷ os) mid l e h is le single = absurd h

-- The parts of a range fall.
pub parts_fall : (s : GhostState) (lo hi : ℕ) (os : List Op) → AreParts s lo hi os → Fall s (suc hi) (reverse os) lo
parts_fall s _ _ _ (last lo hi le single) = (refl, (le, (single, refl)))
parts_fall s _ _ _ (more lo end hi rest le lt single h) =
    subst (λ z. Fall s (suc hi) z lo) (sym (reverse-append (op.Scan lo end ∷ []) rest)) (fall_on s (suc hi) (reverse rest) (suc end) lo end (parts_fall s (suc end) hi rest h) refl le single)

-- It depends on the names alone.
pub fall_same : (s new : GhostState) (from : ℕ) (os : List Op) (lo : ℕ) → ((k : ℕ) → name_from new k ≡ name_from s k) → Fall s from os lo → Fall new from os lo
fall_same s new from [] lo same h = h
fall_same s new from (op.Scan l e ∷ os) lo same h = (h.0, (h.1.0, ((λ k is. h.1.1.0 k (sym (same l) ∙ is)), fall_same s new l os lo same h.1.1.1)))
fall_same s new from (_ ∷ os) lo same h = absurd h

-- A step that reads a part --

-- A part is refused or blocked, and the state stays; or it is read whole, which gives a row at most, and the names stay.
abbrev pub IsPartRead : GhostState → Outcome → Type 0
IsPartRead s done =
    ((is_granted done.0 ≡ false) × (done.1 ≡ s))
    ⊎ ((rows : List (ℕ × ℕ)) × ((done.0 ≡ reply.Rows rows) × ((reverse rows ≡ rows) × ((k : ℕ) → name_from done.1 k ≡ name_from s k))))

one_row : (k : ℕ) (v : Option ℕ) → reverse (rows_with [] k v) ≡ rows_with [] k v
one_row k (Some v) = refl
one_row k None = refl

look_read : (p : GhostProtocol) (s : GhostState) (t : ℕ) (rs : List Request) (lo hi : ℕ) (n : Name) (us : List ℕ) → ((k : ℕ) → n ≡ Key k → hi ≤ k)
    → IsPartRead s (granted_or_blocked p s t rs (looked s.state.map (standing s.state t) (record { lo = lo; hi = hi; rows = [] }) n) s.ghosts us)
look_read p s t rs lo hi n (u ∷ us) single = inl (refl, refl)
look_read p s t rs lo hi End [] single = inr ([], (refl, (refl, λ k. refl)))
look_read p s t rs lo hi (Key k) [] single = by (nat_le k hi) refl
  where
    a : Active
    a = standing s.state t

    rows : List (ℕ × ℕ)
    rows = rows_with [] k (get s.state.map k)

    on : (at_end : Bool) → at_end ≡ true
        → IsPartRead s (granted_or_blocked p s t rs (if at_end then scan_ended s.state.map a rows else effect (reply.Going k) s.state.map (record a { scan = Some (record { lo = suc k; hi = hi; rows = rows }) })) s.ghosts [])
    on true e = inr (rows, (refl, (one_row k (get s.state.map k), λ j. refl)))
    on false e = absurd (cc)

    by : (within : Bool) → nat_le k hi ≡ within → IsPartRead s (granted_or_blocked p s t rs (if within then name_read s.state.map a hi k rows else scan_ended s.state.map a []) s.ghosts [])
    by true e = let above = single k refl in on (k == hi) (grind (arith, nat_tests, e, above))
    by false e = inr ([], (refl, (refl, λ j. refl)))

part_unless : (p : GhostProtocol) (s : GhostState) (t lo hi : ℕ) (r : Option Refusal) → IsSingle s lo hi → IsPartRead s (unless_refused p s t (op.Scan lo hi) r)
part_unless p s t lo hi (Some r) single = inl (refl, refl)
part_unless p s t lo hi None single =
    let n = name_from s lo in
    let rs = look_requests p n hi in
    look_read p s t rs lo hi n (blockers p.table s.state.locks t rs) single

pub part_read : (p : GhostProtocol) (s : GhostState) (t lo hi : ℕ) → IsSingle s lo hi → IsPartRead s (step p s t (op.Scan lo hi))
part_read p s t lo hi single = part_unless p s t lo hi (refusal_of p.table s.state t (op.Scan lo hi)) single

-- Rows --

pairs_past : (m : Map) (a lo hi : ℕ) → Rising a m → hi < a → pairs_between m lo hi ≡ []
pairs_past [] a lo hi r lt = refl
pairs_past (x ∷ m) a lo hi r lt =
    ap (λ b. if b then x ∷ pairs_between m lo hi else pairs_between m lo hi) (let no : (nat_le lo x.0 && nat_le x.0 hi) ≡ false = grind (arith, nat_tests, r.0, lt) in no)
    ∙ pairs_past m (x.0 + 1) lo hi r.1 (omega (arith, r.0, lt))

-- What lies in a range lies in a part of it, or above.
abbrev IsParted : ℕ → ℕ → ℕ → Map → Type 0
IsParted l e hi m = pairs_between m l hi ≡ pairs_between m l e ++ pairs_between m (suc e) hi

pairs_parted : (m : Map) (a l e hi : ℕ) → Rising a m → l ≤ e → e ≤ hi → IsParted l e hi m
pairs_parted [] a l e hi r low high = refl
pairs_parted (x ∷ m) a l e hi r low high = by (pairs_parted m (x.0 + 1) l e hi r.1 low high)
  where
    kept : (c : Bool) (lo up : ℕ) → (nat_le lo x.0 && nat_le x.0 up) ≡ c → pairs_between (x ∷ m) lo up ≡ (if c then x ∷ pairs_between m lo up else pairs_between m lo up)
    kept c lo up is = ap (λ b. if b then x ∷ pairs_between m lo up else pairs_between m lo up) is

    by_low : IsParted l e hi m → x.0 < l → IsParted l e hi (x ∷ m)
    by_low later lt =
        kept false l hi (grind (arith, nat_tests, lt)) ∙ later
        ∙ sym (ap₂ (λ u v. u ++ v) (kept false l e (grind (arith, nat_tests, lt))) (kept false (suc e) hi (grind (arith, nat_tests, lt, low))))

    by_past : IsParted l e hi m → hi < x.0 → IsParted l e hi (x ∷ m)
    by_past later lt =
        kept false l hi (grind (arith, nat_tests, lt)) ∙ later
        ∙ sym (ap₂ (λ u v. u ++ v) (kept false l e (grind (arith, nat_tests, lt, high))) (kept false (suc e) hi (grind (arith, nat_tests, lt))))

    by_here : IsParted l e hi m → l ≤ x.0 → x.0 ≤ e → IsParted l e hi (x ∷ m)
    by_here later over there =
        kept true l hi (grind (arith, nat_tests, over, there, high)) ∙ ap (λ z. x ∷ z) later
        ∙ sym (ap₂ (λ u v. u ++ v) (kept true l e (grind (arith, nat_tests, over, there))) (kept false (suc e) hi (grind (arith, nat_tests, there))))

    by_high : IsParted l e hi m → x.0 ≤ hi → e < x.0 → IsParted l e hi (x ∷ m)
    by_high later here above =
        let none = pairs_past m (x.0 + 1) l e r.1 (omega (arith, above)) in
        kept true l hi (grind (arith, nat_tests, low, here, above)) ∙ ap (λ z. x ∷ z) (later ∙ ap (λ z. z ++ pairs_between m (suc e) hi) none)
        ∙ sym (ap₂ (λ u v. u ++ v) (kept false l e (grind (arith, nat_tests, above)) ∙ none) (kept true (suc e) hi (grind (arith, nat_tests, above, here))))

    by : IsParted l e hi m → IsParted l e hi (x ∷ m)
    by later = ⊎_elim
        (λ below. by_low later below)
        (λ over. ⊎_elim (λ past. by_past later past) (λ here. ⊎_elim (λ above. by_high later here above) (λ there. by_here later over there) (cases_lt e x.0)) (cases_lt hi x.0))
        (cases_lt x.0 l)

pub pairs_part : (m : Map) (l e hi : ℕ) → IsMap m → l ≤ e → e ≤ hi → pairs_between m l hi ≡ pairs_between m l e ++ pairs_between m (suc e) hi
pairs_part m l e hi sorted low high = pairs_parted m 0 l e hi (rising m sorted) low high

pub pairs_none : (m : Map) (hi : ℕ) → pairs_between m (suc hi) hi ≡ []
pairs_none [] hi = refl
pairs_none (x ∷ m) hi =
    ap (λ b. if b then x ∷ pairs_between m (suc hi) hi else pairs_between m (suc hi) hi) (let no : (nat_le (suc hi) x.0 && nat_le x.0 hi) ≡ false = grind (arith, nat_tests) in no)
    ∙ pairs_none m hi

-- Pairs that are the same.
pub pairs_same : (xs ys : List (ℕ × ℕ)) → same_pairs xs ys ≡ true → xs ≡ ys
pairs_same [] [] e = refl
pairs_same [] (y ∷ ys) e = absurd (cc)
pairs_same (x ∷ xs) [] e = absurd (cc)
pairs_same (x ∷ xs) (y ∷ ys) e =
    let here = and_one ((x.0 == y.0) && (x.1 == y.1)) (same_pairs xs ys) e in
    let key = same_number x.0 y.0 (and_one (x.0 == y.0) (x.1 == y.1) here) in
    let value = same_number x.1 y.1 (and_two (x.0 == y.0) (x.1 == y.1) here) in
    ap₂ (λ (z : ℕ × ℕ) zs. z ∷ zs) (ap₂ (λ k v. let z : ℕ × ℕ = (k, v) in z) key value) (pairs_same xs ys (and_two ((x.0 == y.0) && (x.1 == y.1)) (same_pairs xs ys) e))

pub pairs_tied : (xs : List (ℕ × ℕ)) → same_pairs xs xs ≡ true
pairs_tied [] = refl
pairs_tied (x ∷ xs) = ap₂ (λ a b. (a && b) && same_pairs xs xs) (tied x.0) (tied x.1) ∙ pairs_tied xs

-- What lines say of a transaction beside what it did.
use Rattle.std.specs.Prelude.{◌≡◌, ℕ, true, List, [], ◌∷◌, ◌++◌, Option, Some, None, refl, ◌⊎◌}
use Rattle.std.proofs.Common.{sym, ◌∙◌, ap, ap₂, subst, inl, inr}
use Rattle.kr_model.specs.declared.Op.{Op}
use Rattle.kr_model.specs.declared.Op.TheVariants as op
use Rattle.kr_model.specs.declared.Reply.{Reply}
use Rattle.kr_model.specs.Map.{Map}
use Rattle.kr_model.specs.Log.{last_answered}
use Rattle.kr_model.specs.Run.{Answered}
use Rattle.kr_model.specs.Serial.{whole, AreAnswered, map_left}
use Rattle.kr_model.specs.State.{Scan}
use Rattle.kr_trace_lines.specs.declared.observed.Observed.{Observed}
use Rattle.kr_trace_lines.specs.Fits.{fits}
use Rattle.kr_trace_follow.specs.Programs.{Tale, given}
use Rattle.kr_trace_follow.specs.Given.{Given, AreAnsweredWhereGiven, map_after}

-- Operations that were given --

-- The operation is a scan.
abbrev pub IsScan : Op → Type 0
IsScan (op.Scan lo hi) = Unit {0}
IsScan _ = ⊥

-- An operation was given with an answer that fits its own.
abbrev pub IsGivenAs : Answered → Given → Type 0
IsGivenAs x y = (y.0 ≡ x.0) × (fits x.1 y.1 ≡ true)

-- The operations were given, but for some scans.
abbrev pub AreGiven : List Answered → List Given → Type 0
AreGiven [] [] = Unit {0}
AreGiven [] (y ∷ ys) = ⊥
AreGiven (x ∷ xs) [] = IsScan x.0 × AreGiven xs []
AreGiven (x ∷ xs) (y ∷ ys) = (IsGivenAs x y × AreGiven xs ys) ⊎ (IsScan x.0 × AreGiven xs (y ∷ ys))

-- One more.
pub given_more : (xs : List Answered) (ys : List Given) (x : Answered) (y : Given) → AreGiven xs ys → IsGivenAs x y → AreGiven (xs ++ x ∷ []) (ys ++ y ∷ [])
given_more [] [] x y h g = inl (g, tt)
given_more [] (z ∷ ys) x y h g = absurd h
given_more (w ∷ xs) [] x y h g = inr (h.0, given_more xs [] x y h.1 g)
given_more (w ∷ xs) (z ∷ ys) x y (inl h) g = inl (h.0, given_more xs ys x y h.1 g)
given_more (w ∷ xs) (z ∷ ys) x y (inr h) g = inr (h.0, given_more xs (z ∷ ys) x y h.1 g)

-- One more scan that wasn't.
pub no_tale_more : (xs : List Answered) (ys : List Given) (x : Answered) → AreGiven xs ys → IsScan x.0 → AreGiven (xs ++ x ∷ []) ys
no_tale_more [] [] x h g = (g, tt)
no_tale_more [] (z ∷ ys) x h g = absurd h
no_tale_more (w ∷ xs) [] x h g = (h.0, no_tale_more xs [] x h.1 g)
no_tale_more (w ∷ xs) (z ∷ ys) x (inl h) g = inl (h.0, no_tale_more xs ys x h.1 g)
no_tale_more (w ∷ xs) (z ∷ ys) x (inr h) g = inr (h.0, no_tale_more xs (z ∷ ys) x h.1 g)

-- A scan leaves the map.
pub scan_leaves : (m : Map) (o : Op) → IsScan o → (whole m o).1 ≡ m
scan_leaves m (op.Scan lo hi) h = refl
scan_leaves m _ h = absurd h

-- What was given is answered as the operations are.
pub answered_given : (m : Map) (xs : List Answered) (ys : List Given) → AreGiven xs ys → AreAnswered m xs → AreAnsweredWhereGiven m ys
answered_given m [] [] h g = tt
answered_given m [] (y ∷ ys) h g = absurd h
answered_given m ((o, a) ∷ xs) [] h g = tt
answered_given m ((o, a) ∷ xs) ((q, b) ∷ ys) (inl h) g = (
  ap (λ z. fits (whole m z).0 b) h.0.0 ∙ ap (λ z. fits z b) (sym g.0) ∙ h.0.1,
  subst (λ z. AreAnsweredWhereGiven (whole m z).1 ys) (sym h.0.0) (answered_given (whole m o).1 xs ys h.1 g.1),
)
answered_given m ((o, a) ∷ xs) ((q, b) ∷ ys) (inr h) g =
    subst (λ z. AreAnsweredWhereGiven z ((q, b) ∷ ys)) (scan_leaves m o h.0) (answered_given (whole m o).1 xs ((q, b) ∷ ys) h.1 g.1)

-- It leaves the map that they leave.
pub left_given : (m : Map) (xs : List Answered) (ys : List Given) → AreGiven xs ys → map_after m ys ≡ map_left m xs
left_given m [] [] h = refl
left_given m [] (y ∷ ys) h = absurd h
left_given m ((o, a) ∷ xs) [] h = left_given m xs [] h.1 ∙ ap (λ z. map_left z xs) (sym (scan_leaves m o h.0))
left_given m ((o, a) ∷ xs) ((q, b) ∷ ys) (inl h) = ap (λ z. map_after (whole m z).1 ys) h.0.0 ∙ left_given (whole m o).1 xs ys h.1
left_given m ((o, a) ∷ xs) ((q, b) ∷ ys) (inr h) = left_given m xs ((q, b) ∷ ys) h.1 ∙ ap (λ z. map_left z xs) (sym (scan_leaves m o h.0))

-- A tale --

-- What lines say of a scan in progress is its range, or nothing.
abbrev pub IsScanGiven : Scan → Option (ℕ × ℕ) → Type 0
IsScanGiven c given = (given ≡ None) ⊎ (given ≡ Some (c.lo, c.hi))

-- The tale of a transaction with this scan in progress, if there is one, and these operations so far, of which a scan in progress is the last.
abbrev pub IsTale : Option Scan → List Answered → Tale → Type 0
IsTale None os x = AreGiven os x.done × (x.scan ≡ None)
IsTale (Some c) os x = (front : List Answered) × ((a : Reply) × ((os ≡ front ++ (op.Scan c.lo c.hi, a) ∷ []) × (AreGiven front x.done × IsScanGiven c x.scan)))

pub tale_at : (was now : Option Scan) (os : List Answered) (x : Tale) → was ≡ now → IsTale was os x → IsTale now os x
tale_at was now os x e h = subst (λ z. IsTale z os x) e h

-- One more operation that isn't a scan in progress.
pub tale_more : (was now : Option Scan) (os : List Answered) (x : Tale) (o : Op) (a : Reply) (b : Observed) → was ≡ None → now ≡ None → fits a b ≡ true → IsTale was os x
    → IsTale now (os ++ (o, a) ∷ []) (given x (o, b))
tale_more was now os x o a b none still f h =
    let k : IsTale None os x = tale_at was None os x none h in
    tale_at None now (os ++ (o, a) ∷ []) (given x (o, b)) (sym still) (given_more os x.done (o, a) (o, b) k.0 (refl, f), refl)

pub last_one : (a : Reply) (front : List Answered) (y : Answered) → last_answered a (front ++ y ∷ []) ≡ front ++ (y.0, a) ∷ []
last_one a [] y = refl
last_one a (x ∷ []) y = refl
last_one a (x ∷ z ∷ xs) y = ap (λ l. x ∷ l) (last_one a (z ∷ xs) y)

-- A scan begins.
pub scan_begun : (was now : Option Scan) (os : List Answered) (x : Tale) (lo hi : ℕ) (a : Reply) (c : Scan) (scan : Option (ℕ × ℕ)) → was ≡ None → now ≡ Some c → c.lo ≡ lo → c.hi ≡ hi → (scan ≡ None) ⊎ (scan ≡ Some (lo, hi)) → IsTale was os x
    → IsTale now (os ++ (op.Scan lo hi, a) ∷ []) (record { done = x.done; scan = scan })
scan_begun was now os x lo hi a c scan none is l h given k =
    let t : IsTale None os x = tale_at was None os x none k in
    tale_at (Some c) now (os ++ (op.Scan lo hi, a) ∷ []) (record { done = x.done; scan = scan }) (sym is)
    (os, (a, (ap₂ (λ u v. os ++ (op.Scan u v, a) ∷ []) (sym l) (sym h), (t.0, given_as given))))
  where
    given_as : (scan ≡ None) ⊎ (scan ≡ Some (lo, hi)) → IsScanGiven c scan
    given_as (inl e) = inl e
    given_as (inr e) = inr (e ∙ ap₂ (λ u v. Some (u, v)) (sym l) (sym h))

-- It goes on.
pub scan_gone : (was now : Option Scan) (os : List Answered) (x : Tale) (b c : Scan) (scan : Option (ℕ × ℕ)) → was ≡ Some b → now ≡ Some c → c.lo ≡ b.lo → c.hi ≡ b.hi → (scan ≡ x.scan) ⊎ (scan ≡ Some (b.lo, b.hi)) → IsTale was os x
    → IsTale now os (record { done = x.done; scan = scan })
scan_gone was now os x b c scan was_is is l h given k =
    let t : IsTale (Some b) os x = tale_at was (Some b) os x was_is k in
    tale_at (Some c) now os (record { done = x.done; scan = scan }) (sym is)
    (t.0, (t.1.0, (t.1.1.0 ∙ ap₂ (λ u v. t.0 ++ (op.Scan u v, t.1.0) ∷ []) (sym l) (sym h), (t.1.1.1.0, given_as given t.1.1.1.1))))
  where
    given_as : (scan ≡ x.scan) ⊎ (scan ≡ Some (b.lo, b.hi)) → IsScanGiven b x.scan → IsScanGiven c scan
    given_as (inl e) (inl f) = inl (e ∙ f)
    given_as (inl e) (inr f) = inr (e ∙ f ∙ ap₂ (λ u v. Some (u, v)) (sym l) (sym h))
    given_as (inr e) f = inr (e ∙ ap₂ (λ u v. Some (u, v)) (sym l) (sym h))

-- It ends, and is given as an operation.
pub scan_ended : (was now : Option Scan) (os : List Answered) (x : Tale) (b : Scan) (lo hi : ℕ) (a : Reply) (o : Observed) → was ≡ Some b → now ≡ None → b.lo ≡ lo → b.hi ≡ hi → fits a o ≡ true → IsTale was os x
    → IsTale now (last_answered a os) (given x (op.Scan lo hi, o))
scan_ended was now os x b lo hi a o was_is is l h f k =
    let t : IsTale (Some b) os x = tale_at was (Some b) os x was_is k in
    let ended = ap (last_answered a) t.1.1.0 ∙ last_one a t.0 (op.Scan b.lo b.hi, t.1.0) in
    tale_at None now (last_answered a os) (given x (op.Scan lo hi, o)) (sym is)
    (subst (λ z. AreGiven z (x.done ++ (op.Scan lo hi, o) ∷ [])) (sym ended) (given_more t.0 x.done (op.Scan b.lo b.hi, a) (op.Scan lo hi, o) t.1.1.1.0 (ap₂ (λ u v. op.Scan u v) (sym l) (sym h), f)), refl)

-- It ends, and its beginning wasn't given.
pub scan_ended_no_tale : (was now : Option Scan) (os : List Answered) (x : Tale) (b : Scan) (a : Reply) → was ≡ Some b → now ≡ None → x.scan ≡ None → IsTale was os x → IsTale now (last_answered a os) x
scan_ended_no_tale was now os x b a was_is is none k =
    let t : IsTale (Some b) os x = tale_at was (Some b) os x was_is k in
    let ended = ap (last_answered a) t.1.1.0 ∙ last_one a t.0 (op.Scan b.lo b.hi, t.1.0) in
    tale_at None now (last_answered a os) x (sym is)
    (subst (λ z. AreGiven z x.done) (sym ended) (no_tale_more t.0 x.done (op.Scan b.lo b.hi, a) t.1.1.1.0 tt), none)

-- What lines say of it is its range.
pub range_given : (was : Option Scan) (os : List Answered) (x : Tale) (b : Scan) → was ≡ Some b → IsTale was os x → IsScanGiven b x.scan
range_given was os x b was_is k = (tale_at was (Some b) os x was_is k).1.1.1.1

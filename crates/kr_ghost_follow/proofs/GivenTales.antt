-- What lines say of a transaction beside what it did in a run with purges.
use Rattle.std.specs.Prelude.{◌≡◌, ℕ, true, List, [], ◌∷◌, ◌++◌, Option, Some, None, refl, ◌⊎◌}
use Rattle.std.specs.List.{flat_map}
use Rattle.std.proofs.Common.{sym, ◌∙◌, ap, subst, inl, inr}
use Rattle.kr_model.specs.declared.Op.{Op}
use Rattle.kr_model.specs.declared.Op.TheVariants as op
use Rattle.kr_model.specs.declared.Reply.{Reply}
use Rattle.kr_model.specs.Log.{last_answered}
use Rattle.kr_model.specs.Map.{Map, IsMap}
use Rattle.kr_model.specs.Run.{Answered, Program}
use Rattle.kr_model.specs.Serial.{whole, AreAnswered, AreSerial, all_operations, map_left}
use Rattle.kr_theorem.proofs.step.Replay.{IsMap-map_left}
use Rattle.kr_trace_lines.specs.declared.observed.Observed.{Observed}
use Rattle.kr_trace_lines.specs.Fits.{fits}
use Rattle.kr_trace_follow.specs.declared.scans.Progress.{Progress}
use Rattle.kr_trace_follow.specs.Given.{Given, AreAnsweredWhereGiven, AreSerialWhereGiven, map_after}
use Rattle.kr_trace_follow.specs.Programs.{Tale, given}
use Rattle.kr_trace_follow.proofs.GivenLaws.{given_append}
use Rattle.kr_trace_follow.proofs.TaleLaws.{IsScan, last_one, scan_leaves}
use Rattle.kr_trace_follow.proofs.TaleLines.{back_answered, front_answered}

-- Operations that were given --

-- Where the operations are answered as they run whole, so are those that were given, as far as they were; and both leave the same map.
abbrev pub AreGivenBy : List Answered → List Given → Type 0
AreGivenBy os ys = (m : Map) → IsMap m → AreAnswered m os → AreAnsweredWhereGiven m ys × (map_after m ys ≡ map_left m os)

pub none_given : AreGivenBy [] []
none_given m sorted answered = (tt, refl)

pub left_on : (m : Map) (xs ys : List Answered) → map_left m (xs ++ ys) ≡ map_left (map_left m xs) ys
left_on m [] ys = refl
left_on m ((o, a) ∷ xs) ys = left_on (whole m o).1 xs ys

pub after_on : (m : Map) (xs ys : List Given) → map_after m (xs ++ ys) ≡ map_after (map_after m xs) ys
after_on m [] ys = refl
after_on m ((o, a) ∷ xs) ys = after_on (whole m o).1 xs ys

-- One more.
pub one_given : (os : List Answered) (ys : List Given) (o : Op) (a : Reply) (b : Observed) → fits a b ≡ true → AreGivenBy os ys → AreGivenBy (os ++ (o, a) ∷ []) (ys ++ (o, b) ∷ [])
one_given os ys o a b f h m sorted answered =
    let k = h m sorted (front_answered m os ((o, a) ∷ []) answered) in
    let last = back_answered m os ((o, a) ∷ []) answered in (
      given_append m ys ((o, b) ∷ []) k.0 (subst (λ z. AreAnsweredWhereGiven z ((o, b) ∷ [])) (sym k.1) (ap (λ r. fits r b) (sym last.0) ∙ f, tt)),
      after_on m ys ((o, b) ∷ []) ∙ ap (λ z. (whole z o).1) k.1 ∙ sym (left_on m os ((o, a) ∷ [])),
    )

-- One more scan that wasn't.
pub scan_ungiven : (os : List Answered) (ys : List Given) (o : Op) (a : Reply) → IsScan o → AreGivenBy os ys → AreGivenBy (os ++ (o, a) ∷ []) ys
scan_ungiven os ys o a is h m sorted answered =
    let k = h m sorted (front_answered m os ((o, a) ∷ []) answered) in
    (k.0, k.1 ∙ sym (left_on m os ((o, a) ∷ []) ∙ scan_leaves (map_left m os) o is))

-- Programs --

abbrev pub AreProgramsGiven : List Program → List (List Given) → Type 0
AreProgramsGiven [] [] = Unit {0}
AreProgramsGiven (q ∷ qs) (y ∷ ys) = AreGivenBy q.operations y × AreProgramsGiven qs ys
AreProgramsGiven _ _ = ⊥

pub one_program_more : (qs : List Program) (ys : List (List Given)) (q : Program) (y : List Given) → AreProgramsGiven qs ys → AreGivenBy q.operations y → AreProgramsGiven (qs ++ q ∷ []) (ys ++ y ∷ [])
one_program_more [] [] q y h g = (g, tt)
one_program_more [] (z ∷ ys) q y h g = absurd h
one_program_more (r ∷ qs) [] q y h g = absurd h
one_program_more (r ∷ qs) (z ∷ ys) q y h g = (h.0, one_program_more qs ys q y h.1 g)

-- Where the programs are serializable in commit order, so are those that were given.
pub serial_given : (m : Map) (qs : List Program) (ys : List (List Given)) → IsMap m → AreProgramsGiven qs ys → AreSerial m qs → AreSerialWhereGiven m ys
serial_given m [] [] sorted h g = tt
serial_given m [] (y ∷ ys) sorted h g = absurd h
serial_given m (q ∷ qs) [] sorted h g = absurd h
serial_given m (q ∷ qs) (y ∷ ys) sorted h g =
    let k = h.0 m sorted (front_answered m q.operations (all_operations qs) g) in
    given_append m y (flat_map (λ p. p) ys) k.0
    (subst (λ z. AreSerialWhereGiven z ys) (sym k.1)
    (serial_given (map_left m q.operations) qs ys (IsMap-map_left m q.operations sorted) h.1 (back_answered m q.operations (all_operations qs) g)))

-- A tale --

-- What lines say of a scan in progress is its range, or nothing.
abbrev pub IsScanGiven : Progress → Option (ℕ × ℕ) → Type 0
IsScanGiven c given = (given ≡ None) ⊎ (given ≡ Some (c.lo, c.hi))

-- The tale of a transaction of which this scan in progress is noted, if one is, and these operations so far, of which a scan in progress is the last.
abbrev pub IsTale : Option Progress → List Answered → Tale → Type 0
IsTale None os x = AreGivenBy os x.done × (x.scan ≡ None)
IsTale (Some c) os x = (front : List Answered) × ((a : Reply) × ((os ≡ front ++ (op.Scan c.lo c.hi, a) ∷ []) × (AreGivenBy front x.done × IsScanGiven c x.scan)))

pub tale_at : (was now : Option Progress) (os : List Answered) (x : Tale) → was ≡ now → IsTale was os x → IsTale now os x
tale_at was now os x e h = subst (λ z. IsTale z os x) e h

-- One more operation that isn't a scan in progress.
pub tale_more : (was now : Option Progress) (os : List Answered) (x : Tale) (o : Op) (a : Reply) (b : Observed) → was ≡ None → now ≡ None → fits a b ≡ true → IsTale was os x
    → IsTale now (os ++ (o, a) ∷ []) (given x (o, b))
tale_more was now os x o a b none still f h =
    let k : IsTale None os x = tale_at was None os x none h in
    tale_at None now (os ++ (o, a) ∷ []) (given x (o, b)) (sym still) (one_given os x.done o a b f k.0, refl)

-- A scan that is done, and of which lines say nothing.
pub scan_untold : (was now : Option Progress) (os : List Answered) (x : Tale) (lo hi : ℕ) (a : Reply) → was ≡ None → now ≡ None → IsTale was os x → IsTale now (os ++ (op.Scan lo hi, a) ∷ []) x
scan_untold was now os x lo hi a none still h =
    let k : IsTale None os x = tale_at was None os x none h in
    tale_at None now (os ++ (op.Scan lo hi, a) ∷ []) x (sym still) (scan_ungiven os x.done (op.Scan lo hi) a tt k.0, k.1)

-- A scan begins.
pub scan_begun : (was now : Option Progress) (os : List Answered) (x : Tale) (a : Reply) (c : Progress) (scan : Option (ℕ × ℕ)) → was ≡ None → now ≡ Some c → IsScanGiven c scan → IsTale was os x
    → IsTale now (os ++ (op.Scan c.lo c.hi, a) ∷ []) (record { done = x.done; scan = scan })
scan_begun was now os x a c scan none is told h =
    let k : IsTale None os x = tale_at was None os x none h in
    tale_at (Some c) now (os ++ (op.Scan c.lo c.hi, a) ∷ []) (record { done = x.done; scan = scan }) (sym is) (os, (a, (refl, (k.0, told))))

-- It goes on.
pub scan_gone : (was now : Option Progress) (os : List Answered) (x : Tale) (b : Progress) (u k : ℕ) (scan : Option (ℕ × ℕ)) → was ≡ Some b → now ≡ Some (record { txn = u; lo = b.lo; hi = b.hi; read = k })
    → (scan ≡ x.scan) ⊎ (scan ≡ Some (b.lo, b.hi)) → IsTale was os x → IsTale now os (record { done = x.done; scan = scan })
scan_gone was now os x b u k scan was_is is told h =
    let t : IsTale (Some b) os x = tale_at was (Some b) os x was_is h in
    tale_at (Some (record { txn = u; lo = b.lo; hi = b.hi; read = k })) now os (record { done = x.done; scan = scan }) (sym is)
    (t.0, (t.1.0, (t.1.1.0, (t.1.1.1.0, by told t.1.1.1.1))))
  where
    by : (scan ≡ x.scan) ⊎ (scan ≡ Some (b.lo, b.hi)) → IsScanGiven b x.scan → IsScanGiven b scan
    by (inl e) (inl f) = inl (e ∙ f)
    by (inl e) (inr f) = inr (e ∙ f)
    by (inr e) f = inr e

-- It ends, and is given as an operation.
pub scan_ended : (was now : Option Progress) (os : List Answered) (x : Tale) (b : Progress) (a : Reply) (o : Observed) → was ≡ Some b → now ≡ None → fits a o ≡ true → IsTale was os x
    → IsTale now (last_answered a os) (given x (op.Scan b.lo b.hi, o))
scan_ended was now os x b a o was_is is f h =
    let t : IsTale (Some b) os x = tale_at was (Some b) os x was_is h in
    let ended = ap (last_answered a) t.1.1.0 ∙ last_one a t.0 (op.Scan b.lo b.hi, t.1.0) in
    tale_at None now (last_answered a os) (given x (op.Scan b.lo b.hi, o)) (sym is)
    (subst (λ z. AreGivenBy z (x.done ++ (op.Scan b.lo b.hi, o) ∷ [])) (sym ended) (one_given t.0 x.done (op.Scan b.lo b.hi) a o f t.1.1.1.0), refl)

-- It ends, and its beginning wasn't given.
pub scan_ended_no_tale : (was now : Option Progress) (os : List Answered) (x : Tale) (b : Progress) (a : Reply) → was ≡ Some b → now ≡ None → x.scan ≡ None → IsTale was os x → IsTale now (last_answered a os) x
scan_ended_no_tale was now os x b a was_is is none h =
    let t : IsTale (Some b) os x = tale_at was (Some b) os x was_is h in
    let ended = ap (last_answered a) t.1.1.0 ∙ last_one a t.0 (op.Scan b.lo b.hi, t.1.0) in
    tale_at None now (last_answered a os) x (sym is)
    (subst (λ z. AreGivenBy z x.done) (sym ended) (scan_ungiven t.0 x.done (op.Scan b.lo b.hi) a tt t.1.1.1.0), none)

-- What lines say of it is its range.
pub range_given : (was : Option Progress) (os : List Answered) (x : Tale) (b : Progress) → was ≡ Some b → IsTale was os x → IsScanGiven b x.scan
range_given was os x b was_is h = (tale_at was (Some b) os x was_is h).1.1.1.1

-- For whom the seats speak.
use Rattle.std.proofs.Common.{◌≡◌, ◌≢◌, ℕ, ◌<◌, ◌==◌, ◌&&◌, ◌||◌, List, [], ◌∷◌, ◌++◌, length, Option, Some, None, Bool, true, false, cond, refl, ap, sym, ◌∙◌, subst, ⊎_elim, inl, inr, length-set}
use Rattle.std.specs.Prelude.{◌⊎◌, All, slice_index_or, slice_set}
use Rattle.std.proofs.lemmas.List.Elements.{All-push}
use Rattle.std.proofs.lemmas.List.{get_or-set_same, get_or-set_other}
use Rattle.std.proofs.lemmas.Bool.{eq-eqb}
use Rattle.std.proofs.lemmas.Bool.Decides.{eqb_tells}
use Rattle.kr_records.specs.declared.notes.SeatNote.{SeatNote}
use Rattle.kr_records.specs.declared.numbers.Number.{Number}
use Rattle.kr_records.specs.Numbers.{begun_by, is_begun, number_at, AreDistinct}
use Rattle.kr_records.specs.Cores.{LastAreOwn, LastAre, AreOfSeats, AreBegunByOne, last_from, last_begun, seat_at, no_seat}
use Rattle.kr_records.proofs.Begun.{or_second, place_of_begun_by}
use Rattle.kr_records.proofs.Ends.{begun_more}
use Rattle.kr_records.proofs.Lists.{get_or-default}

-- The last number that a seat began was begun by it.
own_from : (was : Option ℕ) (k t : ℕ) (ns : List (ℕ × ℕ)) → last_from was k ns ≡ Some t → (was ≡ Some t) ⊎ (is_begun ns t k ≡ true)
own_from was k t [] is = inl is
own_from was k t (n ∷ ns) is = by (n.1 == k) refl (own_from (cond (n.1 == k) (Some n.0) was) k t ns is)
  where
    begun : (n.1 == k) ≡ true → Some n.0 ≡ Some t → is_begun (n ∷ ns) t k ≡ true
    begun own same =
        let here : n.0 ≡ t = cc (same) in
        ap (λ b. (b && (n.1 == k)) || is_begun ns t k) (eq-eqb n.0 t here) ∙ ap (λ b. b || is_begun ns t k) own

    by : (b : Bool) → (n.1 == k) ≡ b → (cond (n.1 == k) (Some n.0) was ≡ Some t) ⊎ (is_begun ns t k ≡ true) → (was ≡ Some t) ⊎ (is_begun (n ∷ ns) t k ≡ true)
    by b own (inr later) = inr (or_second ((n.0 == t) && (n.1 == k)) (is_begun ns t k) later)
    by true own (inl here) = inr (begun own (sym (ap (λ b. cond b (Some n.0) was) own) ∙ here))
    by false own (inl here) = inl (sym (ap (λ b. cond b (Some n.0) was) own) ∙ here)

pub own_of_last : (numbers : List (ℕ × ℕ)) (seats : List SeatNote) → LastAre numbers seats → LastAreOwn numbers seats
own_of_last numbers seats lasts k t is = ⊎_elim never (λ begun. begun) (own_from None k t numbers (sym (lasts k) ∙ is))
  where
    never : None ≡ Some t → is_begun numbers t k ≡ true
    never e = absurd (cc (e))

-- Something else is noted of a seat.
pub last_stay : (numbers : List (ℕ × ℕ)) (seats : List SeatNote) (seat : ℕ) (n n' : SeatNote) → LastAre numbers seats → seat < length seats → n ≡ slice_index_or seats seat n → n'.last ≡ n.last → LastAre numbers (slice_set seats seat n')
last_stay numbers seats seat n n' lasts within read same k = ⊎_elim mine others (eqb_tells seat k) ∙ lasts k
  where
    mine : ((seat == k) ≡ true) × (seat ≡ k) → (seat_at (slice_set seats seat n') k).last ≡ (seat_at seats k).last
    mine h =
        ap (λ (j : ℕ). (seat_at (slice_set seats seat n') j).last) (sym h.1) ∙ ap (λ (m : SeatNote). m.last) (get_or-set_same seats seat n' no_seat within) ∙ same
        ∙ ap (λ (m : SeatNote). m.last) (read ∙ get_or-default seats seat n no_seat within) ∙ ap (λ (j : ℕ). (seat_at seats j).last) h.1

    others : ((seat == k) ≡ false) × (seat ≢ k) → (seat_at (slice_set seats seat n') k).last ≡ (seat_at seats k).last
    others h = ap (λ (m : SeatNote). m.last) (get_or-set_other seats seat k n' no_seat (λ (there : k ≡ seat). h.1 (sym there)))

from_more : (was : Option ℕ) (k : ℕ) (ns : List (ℕ × ℕ)) (n : ℕ × ℕ) → last_from was k (ns ++ n ∷ []) ≡ cond (n.1 == k) (Some n.0) (last_from was k ns)
from_more was k [] n = refl
from_more was k (x ∷ xs) n = from_more (cond (x.1 == k) (Some x.0) was) k xs n

-- A number is begun by a seat, and noted as its last.
pub last_more : (ns : List Number) (n : Number) (seats : List SeatNote) (note : SeatNote) → LastAre (begun_by ns) seats → n.seat < length seats → note.last ≡ Some n.txn → LastAre (begun_by (ns ++ n ∷ [])) (slice_set seats n.seat note)
last_more ns n seats note lasts within last k = ⊎_elim mine others (eqb_tells n.seat k) ∙ sym (ap (last_begun k) (begun_more ns n) ∙ from_more None k (begun_by ns) (n.txn, n.seat))
  where
    mine : ((n.seat == k) ≡ true) × (n.seat ≡ k) → (seat_at (slice_set seats n.seat note) k).last ≡ cond (n.seat == k) (Some n.txn) (last_begun k (begun_by ns))
    mine h =
        ap (λ (j : ℕ). (seat_at (slice_set seats n.seat note) j).last) (sym h.1) ∙ ap (λ (m : SeatNote). m.last) (get_or-set_same seats n.seat note no_seat within) ∙ last
        ∙ sym (ap (λ b. cond b (Some n.txn) (last_begun k (begun_by ns))) h.0)

    others : ((n.seat == k) ≡ false) × (n.seat ≢ k) → (seat_at (slice_set seats n.seat note) k).last ≡ cond (n.seat == k) (Some n.txn) (last_begun k (begun_by ns))
    others h =
        ap (λ (m : SeatNote). m.last) (get_or-set_other seats n.seat k note no_seat (λ (there : k ≡ n.seat). h.1 (sym there))) ∙ lasts k
        ∙ sym (ap (λ b. cond b (Some n.txn) (last_begun k (begun_by ns))) h.0)

-- The seats that began numbers are there still where something is noted of one.
pub given_stay : (numbers : List (ℕ × ℕ)) (seats : List SeatNote) (seat : ℕ) (note : SeatNote) → AreOfSeats numbers seats → AreOfSeats numbers (slice_set seats seat note)
given_stay numbers seats seat note given = subst (λ (l : ℕ). All (λ (n : ℕ × ℕ). n.1 < l) numbers) (sym (length-set seats seat note)) given

-- One number more.
pub given_more : (ns : List Number) (n : Number) (seats : List SeatNote) (note : SeatNote) → AreOfSeats (begun_by ns) seats → n.seat < length seats → AreOfSeats (begun_by (ns ++ n ∷ [])) (slice_set seats n.seat note)
given_more ns n seats note given within =
    given_stay (begun_by (ns ++ n ∷ [])) seats n.seat note
    (subst (λ (l : List (ℕ × ℕ)). AreOfSeats l seats) (sym (begun_more ns n)) (All-push (λ (x : ℕ × ℕ). x.1 < length seats) (begun_by ns) (n.txn, n.seat) given within))

-- No number that stands at one place alone was begun by two seats.
pub by_one_seat : (ns : List Number) → AreDistinct ns → AreBegunByOne (begun_by ns)
by_one_seat ns distinct t j k mine other =
    let one = place_of_begun_by ns t j mine in
    let two = place_of_begun_by ns t k other in
    let here : one.0 ≡ two.0 = distinct one.0 two.0 one.1 two.1 (one.2 ∙ sym two.2) in
    sym one.3 ∙ ap (λ (i : ℕ). (number_at ns i).seat) here ∙ two.3

-- The counts of the seats.
use Rattle.std.proofs.Common.{◌≡◌, ◌≢◌, ℕ, suc, ◌+◌, ◌<◌, ◌≤◌, ◌==◌, List, [], ◌∷◌, ◌++◌, length, Bool, true, false, cond, ap, sym, ◌∙◌, arith, ⊎_elim}
use Rattle.std.specs.Prelude.{slice_index_or, slice_set}
use Rattle.std.proofs.lemmas.List.{get_or-set_same, get_or-set_other}
use Rattle.std.proofs.lemmas.Bool.Decides.{eqb_tells}
use Rattle.kr_records.specs.declared.name.Entry.{Entry}
use Rattle.kr_records.specs.declared.notes.SeatNote.{SeatNote}
use Rattle.kr_records.specs.Histories.{entries_of}
use Rattle.kr_records.specs.Cores.{CountsAre, seat_at, no_seat}
use Rattle.kr_records.proofs.Lists.{get_or-default}

pub count_more : (k : ℕ) (xs : List Entry) (x : Entry) (b : Bool) → (x.seat == k) ≡ b → entries_of k (xs ++ x ∷ []) ≡ entries_of k xs + cond b 1 0
count_more k [] x true is = ap (λ (c : Bool). cond c 1 0) is
count_more k [] x false is = ap (λ (c : Bool). cond c 1 0) is
count_more k (y ∷ ys) x b is = step (y.seat == k) (entries_of k ys) (entries_of k (ys ++ x ∷ [])) (cond b 1 0) (count_more k ys x b is)
  where
    step : (c : Bool) (m n k : ℕ) → n ≡ m + k → cond c (suc n) n ≡ cond c (suc m) m + k
    step true m n k e = omega arith
    step false m n k e = e

pub entries_of-within : (k : ℕ) (es : List Entry) → entries_of k es ≤ length es
entries_of-within k [] = omega arith
entries_of-within k (e ∷ es) = step (e.seat == k) (entries_of k es) (length es) (entries_of-within k es)
  where
    step : (c : Bool) (m n : ℕ) → m ≤ n → cond c (suc m) m ≤ suc n
    step true m n le = omega arith
    step false m n le = omega arith

-- One entry more, and the count of its seat.
pub counts_more : (seats : List SeatNote) (es : List Entry) (e : Entry) (seat : ℕ) (n n' : SeatNote) → CountsAre seats es → e.seat ≡ seat → seat < length seats → n ≡ slice_index_or seats seat n → n'.count ≡ n.count + 1 → CountsAre (slice_set seats seat n') (es ++ e ∷ [])
counts_more seats es e seat n n' are is within read up k = ⊎_elim mine others (eqb_tells e.seat k)
  where
    mine : ((e.seat == k) ≡ true) × (e.seat ≡ k) → (seat_at (slice_set seats seat n') k).count ≡ entries_of k (es ++ e ∷ [])
    mine t =
        let here : seat ≡ k = sym is ∙ t.1 in
        ap (λ (j : ℕ). (seat_at (slice_set seats seat n') j).count) (sym here) ∙ ap (λ (m : SeatNote). m.count) (get_or-set_same seats seat n' no_seat within) ∙ up
        ∙ ap (λ (m : SeatNote). m.count + 1) (read ∙ get_or-default seats seat n no_seat within) ∙ ap (λ (j : ℕ). (seat_at seats j).count + 1) here ∙ ap (λ (m : ℕ). m + 1) (are k) ∙ sym (count_more k es e true t.0)

    others : ((e.seat == k) ≡ false) × (e.seat ≢ k) → (seat_at (slice_set seats seat n') k).count ≡ entries_of k (es ++ e ∷ [])
    others t =
        let none = count_more k es e false t.0 in
        ap (λ (m : SeatNote). m.count) (get_or-set_other seats seat k n' no_seat (λ (same : k ≡ seat). t.1 (is ∙ sym same))) ∙ are k ∙ omega (arith, none)

-- The counts stay where something else is noted of a seat.
pub counts_stay : (seats : List SeatNote) (es : List Entry) (seat : ℕ) (n n' : SeatNote) → CountsAre seats es → seat < length seats → n ≡ slice_index_or seats seat n → n'.count ≡ n.count → CountsAre (slice_set seats seat n') es
counts_stay seats es seat n n' are within read same k = ⊎_elim mine others (eqb_tells seat k)
  where
    mine : ((seat == k) ≡ true) × (seat ≡ k) → (seat_at (slice_set seats seat n') k).count ≡ entries_of k es
    mine t =
        ap (λ (j : ℕ). (seat_at (slice_set seats seat n') j).count) (sym t.1) ∙ ap (λ (m : SeatNote). m.count) (get_or-set_same seats seat n' no_seat within) ∙ same
        ∙ ap (λ (m : SeatNote). m.count) (read ∙ get_or-default seats seat n no_seat within) ∙ ap (λ (j : ℕ). (seat_at seats j).count) t.1 ∙ are k

    others : ((seat == k) ≡ false) × (seat ≢ k) → (seat_at (slice_set seats seat n') k).count ≡ entries_of k es
    others t = ap (λ (m : SeatNote). m.count) (get_or-set_other seats seat k n' no_seat (λ (there : k ≡ seat). t.1 (sym there))) ∙ are k

-- A seat has no more entries than there are.
pub counts_within : (seats : List SeatNote) (es : List Entry) (seat : ℕ) (n : SeatNote) → CountsAre seats es → seat < length seats → n ≡ slice_index_or seats seat n → n.count ≤ length es
counts_within seats es seat n are within read =
    let zeroed : n.count ≡ (seat_at seats seat).count = ap (λ (m : SeatNote). m.count) (read ∙ get_or-default seats seat n no_seat within) in
    omega (arith, zeroed ∙ are seat, entries_of-within seat es)

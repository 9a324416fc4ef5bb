-- What a seat's calls show.
use Rattle.std.proofs.Common.{◌≡◌, ℕ, ◌+◌, ◌≤◌, List, [], ◌∷◌, ◌++◌, length, true, Some, refl, ap, sym, ◌∙◌, subst, append_assoc}
use Rattle.std.proofs.lemmas.Bool.{eq-eqb}
use mathlib.Core.List.{IsPrefix}
use Rattle.kr_model.specs.declared.Event.{Event}
use Rattle.kr_model.specs.declared.Op.{Op}
use Rattle.kr_model.specs.Protocol.{Protocol}
use Rattle.kr_model.specs.Map.{Map}
use Rattle.kr_model.specs.State.{State}
use Rattle.kr_deadlock.specs.Waits.{IsCycle}
use Rattle.kr_records.specs.declared.name.Entry.{Entry}
use Rattle.kr_records.specs.declared.faults.Receipt.{Receipt}
use Rattle.kr_records.specs.declared.faults.EngineFault.{EngineFault}
use Rattle.kr_records.specs.declared.faults.EngineFault.TheVariants.{Deadlock, RowFull, Refused, Memory, Taken, NotBegun, Open, PlaceTaken}
use Rattle.kr_records.specs.Faults.{is_refusal, is_blocked, is_of_try, is_of_wait}
use Rattle.kr_records.specs.Histories.{IsHistory, entries_of, entry, event}
use Rattle.kr_records.specs.Seats.{Held, Shows, SeesFault, ToldFault}
use Rattle.kr_records.specs.Waits.{in_the_way, blockers_now, TellsCycle}
use Rattle.kr_records.proofs.Counts.{count_more}
use Rattle.kr_records.proofs.Prefixes.{prefix_front}

pub own_more : (seat count : ℕ) (es : List Entry) (e : Entry) → e.seat ≡ seat → entries_of seat es ≡ count → entries_of seat (es ++ e ∷ []) ≡ count + 1
own_more seat count es e mine is = count_more seat es e true (eq-eqb e.seat seat mine) ∙ ap (λ (n : ℕ). n + 1) is

pub shows : (p : Protocol) (opening : Map) (s : State) (old new : Held) (o : Op) (r : Receipt) (txn : ℕ) (es es' : List Entry)
    → IsHistory p opening es' s → old.speaks ≡ Some txn → es' ≡ es ++ entry old.seat (event txn o) r.reply ∷ [] → r.event ≡ event txn o → r.place ≡ length es
    → length old.view ≤ length es → IsPrefix old.view es' → new.view ≡ es' → new ≡ record old { count = old.count + 1; last = Some r.place; view = new.view } → entries_of old.seat es ≡ old.count
    → Shows p opening old new o r
shows p opening s old new o r txn es es' run speaks more ev place le pre all others own =
    let front = prefix_front old.view es (entry old.seat (event txn o) r.reply) (subst (λ (l : List Entry). IsPrefix old.view l) more pre) le in
    record {
      state = s;
      txn = txn;
      between = front.0;
      run = subst (λ (l : List Entry). IsHistory p opening l s) (sym all) run;
      speaks = speaks;
      view = all ∙ more ∙ ap (λ (l : List Entry). l ++ entry old.seat (event txn o) r.reply ∷ []) front.1;
      event_is = ev;
      place = place ∙ ap (λ (l : List Entry). length l) front.1;
      own = ap (entries_of old.seat) (all ∙ more) ∙ own_more old.seat old.count es (entry old.seat (event txn o) r.reply) refl own ∙ sym (ap (λ (h : Held). h.count) others);
      others = others;
    }

pub blocked_refusal : (f : EngineFault) → is_blocked f ≡ true → is_refusal f ≡ true
blocked_refusal (Refused r) is = refl
blocked_refusal (Deadlock c) is = is
blocked_refusal RowFull is = is
blocked_refusal Memory is = is
blocked_refusal Taken is = is
blocked_refusal NotBegun is = is
blocked_refusal Open is = is
blocked_refusal PlaceTaken is = is

-- What an attempt tells, a call that didn't wait tells too.
pub told : (p : Protocol) (opening : Map) (old new : Held) (o : Op) (f : EngineFault) → is_of_try f ≡ true → SeesFault p opening old new o f → ToldFault p opening old new o f
told p opening old new o (Refused r) is sees = sees
told p opening old new o (Deadlock c) is sees = absurd (cc (is))
told p opening old new o RowFull is sees = ap (λ (h : Held). record h { view = new.view }) sees
told p opening old new o Memory is sees = ap (λ (h : Held). record h { view = new.view }) sees
told p opening old new o Taken is sees = ap (λ (h : Held). record h { view = new.view }) sees
told p opening old new o NotBegun is sees = ap (λ (h : Held). record h { view = new.view }) sees
told p opening old new o Open is sees = ap (λ (h : Held). record h { view = new.view }) sees
told p opening old new o PlaceTaken is sees = ap (λ (h : Held). record h { view = new.view }) sees

-- What a wait tells that wasn't noted.
pub waited : (p : Protocol) (opening : Map) (old new : Held) (o : Op) (f : EngineFault) (s : State) (waiting : List Event) (txn : ℕ) → is_of_wait f ≡ true
    → TellsCycle f (IsCycle (blockers_now (in_the_way p s) (event txn o ∷ waiting)) txn) → IsHistory p opening new.view s → IsPrefix old.view new.view → old.speaks ≡ Some txn → new ≡ record old { view = new.view }
    → ToldFault p opening old new o f
waited p opening old new o (Deadlock c) s waiting txn is tells run begins speaks others = record { state = s; txn = txn; waiting = waiting; run = run; begins = begins; speaks = speaks; is_cycle = tells; others = others }
waited p opening old new o Memory s waiting txn is tells run begins speaks others = others
waited p opening old new o (Refused r) s waiting txn is tells run begins speaks others = absurd (cc (is))
waited p opening old new o RowFull s waiting txn is tells run begins speaks others = others
waited p opening old new o Taken s waiting txn is tells run begins speaks others = others
waited p opening old new o NotBegun s waiting txn is tells run begins speaks others = others
waited p opening old new o Open s waiting txn is tells run begins speaks others = others
waited p opening old new o PlaceTaken s waiting txn is tells run begins speaks others = others

-- At a fault of a call the seat has at most seen more.
pub only_saw : (p : Protocol) (opening : Map) (old new : Held) (o : Op) (f : EngineFault) → ToldFault p opening old new o f → new ≡ record old { view = new.view }
only_saw p opening old new o (Refused r) t = t.others
only_saw p opening old new o (Deadlock c) t = t.others
only_saw p opening old new o RowFull t = t
only_saw p opening old new o Memory t = t
only_saw p opening old new o Taken t = t
only_saw p opening old new o NotBegun t = t
only_saw p opening old new o Open t = t
only_saw p opening old new o PlaceTaken t = t

-- At a blocked step the seat has at most seen more.
pub blocked_saw : (p : Protocol) (opening : Map) (old new : Held) (o : Op) (f : EngineFault) → is_of_try f ≡ true → SeesFault p opening old new o f → new ≡ record old { view = new.view }
blocked_saw p opening old new o f is sees = only_saw p opening old new o f (told p opening old new o f is sees)

-- A call that tried before, and saw more each time.
pub shows_from : (p : Protocol) (opening : Map) (old mid new : Held) (o : Op) (r : Receipt)
    → mid ≡ record old { view = mid.view } → IsPrefix old.view mid.view → Shows p opening mid new o r → Shows p opening old new o r
shows_from p opening old mid new o r same begins s =
    let seat : mid.seat ≡ old.seat = ap (λ (h : Held). h.seat) same in
    let there : mid.view ++ s.between ≡ old.view ++ (begins.0 ++ s.between) = ap (λ (l : List Entry). l ++ s.between) (sym begins.1) ∙ append_assoc old.view begins.0 s.between in
    record {
      state = s.state;
      txn = s.txn;
      between = begins.0 ++ s.between;
      run = s.run;
      speaks = sym (ap (λ (h : Held). h.speaks) same) ∙ s.speaks;
      view = s.view ∙ (λ i. there i ++ entry (seat i) (event s.txn o) r.reply ∷ []);
      event_is = s.event_is;
      place = s.place ∙ ap (λ (l : List Entry). length l) there;
      own = (λ i. entries_of (sym seat i) new.view) ∙ s.own;
      others = s.others ∙ ap (λ (h : Held). record h { count = h.count + 1; last = Some r.place; view = new.view }) same;
    }

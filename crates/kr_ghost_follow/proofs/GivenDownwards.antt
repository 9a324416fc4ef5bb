-- What was given in lines that read a range downwards.
use Rattle.std.specs.Prelude.{◌≡◌, ℕ, suc, ◌≤◌, true, false, if◌then◌else◌, List, [], ◌∷◌, ◌++◌, reverse, None, refl, unwrap_or, ◌⊎◌}
use Rattle.std.proofs.Common.{sym, ◌∙◌, ap, ap₂, subst, arith, inl, inr, append_assoc, append-nil}
use Rattle.std.proofs.lemmas.List.{reverse-append}
use Rattle.std.proofs.lemmas.Bool.{cases_eq}
use Rattle.kr_model.specs.declared.Op.{Op}
use Rattle.kr_model.specs.declared.Op.TheVariants as op
use Rattle.kr_model.specs.declared.Reply.{Reply}
use Rattle.kr_model.specs.declared.Reply.TheVariants as reply
use Rattle.kr_model.specs.Covers.{is_empty}
use Rattle.kr_model.specs.Difference.{same_pairs}
use Rattle.kr_model.specs.Locks.{Locks}
use Rattle.kr_model.specs.Log.{Log, operations_so_far, logged}
use Rattle.kr_model.specs.Map.{Map, IsMap, pairs_between}
use Rattle.kr_model.specs.Run.{Answered, is_granted}
use Rattle.kr_model.specs.Serial.{AreAnswered, map_left}
use Rattle.kr_model.specs.State.{is_rolling}
use Rattle.kr_model.proofs.Actives.{find_put_same}
use Rattle.kr_model.proofs.LogReads.{event}
use Rattle.kr_model.proofs.LogSteps.{logged_silent}
use Rattle.kr_theorem.proofs.step.Replay.{IsMap-map_left}
use Rattle.kr_ghost.specs.Protocol.{GhostProtocol}
use Rattle.kr_ghost.specs.State.{GhostState, name_from}
use Rattle.kr_ghost.specs.Step.{Outcome, step}
use Rattle.kr_trace_lines.specs.declared.observed.Observed.{Observed}
use Rattle.kr_trace_lines.specs.declared.observed.Observed.TheVariants as observed
use Rattle.kr_trace_lines.specs.Fits.{fits}
use Rattle.kr_trace_follow.specs.Given.{Given, AreAnsweredWhereGiven}
use Rattle.kr_trace_follow.specs.Programs.{Tale, Tales, given, tales_after, with_tale}
use Rattle.kr_trace_follow.specs.Scans.{noted_after, noted_of}
use Rattle.kr_trace_follow.proofs.GivenLaws.{given_append}
use Rattle.kr_trace_follow.proofs.ScanLaws.{forgot_same}
use Rattle.kr_trace_follow.proofs.TaleLines.{back_answered, front_answered}
use Rattle.kr_trace_follow.proofs.TaleRuns.{with_other, with_same}
use Rattle.kr_ghost_follow.specs.Points.{Moment, Tried, ahead_of, behind, is_read, left_after, read_down, read_on}
use Rattle.kr_ghost_follow.specs.Reached.{all_read, done_by}
use Rattle.kr_ghost_follow.proofs.DownwardLaws.{stays}
use Rattle.kr_ghost_follow.proofs.GivenLogs.{log_run}
use Rattle.kr_ghost_follow.proofs.GivenSteps.{IsGivenOf, unrolled_before, untold}
use Rattle.kr_ghost_follow.proofs.GivenTales.{AreGivenBy, IsTale, after_on, left_on, scan_untold, tale_at}
use Rattle.kr_ghost_follow.proofs.PartLaws.{Fall, IsPartRead, fall_same, pairs_none, pairs_part, pairs_same, pairs_tied, part_read}

-- Rows that were given --

same_turned : (xs ys : List (ℕ × ℕ)) → same_pairs xs ys ≡ true → same_pairs (reverse xs) (reverse ys) ≡ true
same_turned xs ys e = ap (λ z. same_pairs (reverse xs) (reverse z)) (sym (pairs_same xs ys e)) ∙ pairs_tied (reverse xs)

-- Parts that were read, the uppermost first, give these rows: turned, they are what lies from `from` to hi in the map on which they run whole, which they leave.
pub record AreRead (parts : List Answered) (from hi : ℕ) (rows : List (ℕ × ℕ)) : Type 0 where
  leaves : (m : Map) → map_left m parts ≡ m
  reads : (m : Map) → IsMap m → AreAnswered m parts → reverse rows ≡ pairs_between m from hi

none_read : (hi : ℕ) → AreRead [] (suc hi) hi []
none_read hi = record { leaves = λ m. refl; reads = λ m sorted answered. sym (pairs_none m hi) }

-- One part more.
one_read : (parts : List Answered) (from hi l e : ℕ) (above rows : List (ℕ × ℕ)) → from ≡ suc e → l ≤ e → e ≤ hi → reverse rows ≡ rows → AreRead parts from hi above
    → AreRead (parts ++ (op.Scan l e, reply.Rows rows) ∷ []) l hi (above ++ rows)
one_read parts from hi l e above rows at low high one h = record {
  leaves = λ m. left_on m parts ((op.Scan l e, reply.Rows rows) ∷ []) ∙ h.leaves m;
  reads = λ m sorted answered.
      let front = h.reads m sorted (front_answered m parts ((op.Scan l e, reply.Rows rows) ∷ []) answered) in
      let back = back_answered m parts ((op.Scan l e, reply.Rows rows) ∷ []) answered in
      let here : rows ≡ pairs_between m l e = rows_are (pairs_between (map_left m parts) l e) back.0 ∙ ap (λ z. pairs_between z l e) (h.leaves m) in
      reverse-append above rows ∙ ap₂ (λ u v. u ++ v) (one ∙ here) (front ∙ ap (λ z. pairs_between m z hi) at) ∙ sym (pairs_part m l e hi sorted low high);
}
  where
    rows_are : (ys : List (ℕ × ℕ)) → reply.Rows rows ≡ reply.Rows ys → rows ≡ ys
    rows_are ys e = cc

-- The whole range, once all its parts are read, is given as one operation.
whole_given : (first parts : List Answered) (done : List Given) (lo hi : ℕ) (rows told : List (ℕ × ℕ)) → AreGivenBy first done → AreRead parts lo hi rows → same_pairs rows told ≡ true
    → AreGivenBy (first ++ parts) (done ++ (op.Scan lo hi, observed.Rows (reverse told)) ∷ [])
whole_given first parts done lo hi rows told h r same m sorted answered =
    let k = h m sorted (front_answered m first parts answered) in
    let left : Map = map_left m first in
    let turned = r.reads left (IsMap-map_left m first sorted) (back_answered m first parts answered) in
    let here : same_pairs (pairs_between left lo hi) (reverse told) ≡ true = ap (λ z. same_pairs z (reverse told)) (sym turned) ∙ same_turned rows told same in
    let one : Given = (op.Scan lo hi, observed.Rows (reverse told)) in (
      given_append m done (one ∷ []) k.0 (subst (λ z. AreAnsweredWhereGiven z (one ∷ [])) (sym k.1) (here, tt)),
      after_on m done (one ∷ []) ∙ k.1 ∙ sym (left_on m first parts ∙ r.leaves left),
    )

-- Reading --

-- Parts of a line of t have been read down to `from`: the tales are those from before the line; and the scan isn't the first that the line reads unless no scan of t is in progress.
pub record IsReading (lg : Log) (m : Moment) (w : Tales) (t from hi : ℕ) (rows : List (ℕ × ℕ)) : Type 0 where
  known : IsGivenOf m.state.state m.scans lg w
  first : List Answered
  parts : List Answered
  ops : operations_so_far lg t ≡ first ++ parts
  told : is_rolling m.state.state t ≡ false → noted_of m.scans t ≡ None → AreGivenBy first (w.of t).done
  read : AreRead parts from hi rows
  quiet : (from ≡ suc hi) ⊎ (noted_of m.scans t ≡ None)

pub reading_begins : (lg : Log) (m : Moment) (w : Tales) (t hi : ℕ) → IsGivenOf m.state.state m.scans lg w → IsReading lg m w t (suc hi) hi []
reading_begins lg m w t hi k = record {
  known = k;
  first = operations_so_far lg t;
  parts = [];
  ops = sym (append-nil (operations_so_far lg t));
  told = λ r none. (tale_at (noted_of m.scans t) None (operations_so_far lg t) (w.of t) none (k.tales t r)).0;
  read = none_read hi;
  quiet = inl refl;
}

-- All parts are read, and the rows are those that were given.
all_given : (lg : Log) (m : Moment) (w : Tales) (t lo hi : ℕ) (rows told : List (ℕ × ℕ)) → lo ≤ hi → IsReading lg m w t lo hi rows → same_pairs rows told ≡ true
    → IsGivenOf m.state.state m.scans lg (tales_after w t (op.Scan lo hi) (observed.Rows (reverse told)))
all_given lg m w t lo hi rows told le h same = record {
  noted = h.known.noted;
  tales = λ u r. by u r (cases_eq u t);
  committed = h.known.committed;
}
  where
    x : Tale
    x = given (w.of t) (op.Scan lo hi, observed.Rows (reverse told))

    ends : (lo ≡ suc hi) ⊎ (noted_of m.scans t ≡ None) → noted_of m.scans t ≡ None
    ends (inl e) = absurd (omega (arith, e, le))
    ends (inr e) = e

    none : noted_of m.scans t ≡ None
    none = ends h.quiet

    by : (u : ℕ) → is_rolling m.state.state u ≡ false → (u ≡ t) ⊎ (u ≡ t → ⊥) → IsTale (noted_of m.scans u) (operations_so_far lg u) (with_tale w.of t x u)
    by u r (inl d) =
        let still : is_rolling m.state.state t ≡ false = ap (is_rolling m.state.state) (sym d) ∙ r in
        subst (λ z. IsTale (noted_of m.scans z) (operations_so_far lg z) (with_tale w.of t x z)) (sym d)
        (subst (λ z. IsTale (noted_of m.scans t) (operations_so_far lg t) z) (sym (with_same w.of t x))
        (subst (λ z. IsTale z (operations_so_far lg t) x) (sym none)
        (subst (λ z. IsTale None z x) (sym h.ops) (whole_given h.first h.parts (w.of t).done lo hi rows told (h.told still none) h.read same, refl))))
    by u r (inr d) = subst (λ z. IsTale (noted_of m.scans u) (operations_so_far lg u) z) (sym (with_other w.of t u x d)) (h.known.tales u r)

-- A part is read.
part_more : (p : GhostProtocol) (lg : Log) (m : Moment) (w : Tales) (t from hi l e : ℕ) (above rows : List (ℕ × ℕ)) (new : GhostState) → ◌≡◌ {A = Outcome} (reply.Rows rows, new) (step p m.state t (op.Scan l e))
    → from ≡ suc e → l ≤ e → e ≤ hi → reverse rows ≡ rows → IsReading lg m w t from hi above
    → IsReading (logged lg (event t (op.Scan l e), reply.Rows rows)) (record { state = new; scans = noted_after m.scans t (op.Scan l e) (reply.Rows rows) }) w t l hi (above ++ rows)
part_more p lg m w t from hi l e above rows new is at low high one h = record {
  known = untold p m.state m.scans lg w t (op.Scan l e) (reply.Rows rows) new is h.known refl
      (scan_untold (noted_of m.scans t) (noted_of (noted_after m.scans t (op.Scan l e) (reply.Rows rows)) t) (operations_so_far lg t) (w.of t) l e (reply.Rows rows) before.1 (forgot_same m.scans t));
  first = h.first;
  parts = h.parts ++ (op.Scan l e, reply.Rows rows) ∷ [];
  ops = ap (λ z. unwrap_or z []) (find_put_same lg.unfinished t (operations_so_far lg t ++ (op.Scan l e, reply.Rows rows) ∷ []))
      ∙ ap (λ z. z ++ (op.Scan l e, reply.Rows rows) ∷ []) h.ops ∙ append_assoc h.first h.parts ((op.Scan l e, reply.Rows rows) ∷ []);
  told = λ r none. h.told before.0 before.1;
  read = one_read h.parts from hi l e above rows at low high one h.read;
  quiet = inr (forgot_same m.scans t);
}
  where
    before : (is_rolling m.state.state t ≡ false) × (noted_of m.scans t ≡ None)
    before = unrolled_before p m.state m.scans lg w t l e rows new is h.known

-- Lines that read downwards --

-- The answer of the scan upwards.
abbrev pub turned : Observed → Observed
turned (observed.Rows rows) = observed.Rows (reverse rows)
turned a = a

module _ (p : GhostProtocol) (queue : Locks) (w : Tales) (t lo hi : ℕ) (le : lo ≤ hi) (b : Observed) where
  abbrev pub v : Tales
  v = tales_after w t (op.Scan lo hi) (turned b)

  -- The last step is the one that was given, and where somebody waits ahead of it the line says nothing.
  abbrev pub Ends : Tried → Type 0
  Ends z = (z.ahead ≡ [] → fits z.reply b ≡ true) × (is_empty z.ahead ≡ false → v ≡ w)

  abbrev pub Result : Log → Tried → List Op → Type 0
  Result lg y os =
      let z = read_down p queue t os y in
      let m = y.left in
      let left = z.left in
      Ends z → IsGivenOf left.state.state left.scans (log_run p m.state lg (all_read p queue t os y)) v

  -- A step that isn't granted says nothing.
  silent_told : (a : Reply) → is_granted a ≡ false → fits a b ≡ true → v ≡ w
  silent_told a g f = by a b g f
    where
      by : (a : Reply) (c : Observed) → is_granted a ≡ false → fits a c ≡ true → tales_after w t (op.Scan lo hi) (turned c) ≡ w
      by (reply.Blocked us) (observed.Blocked named) g f = refl
      by (reply.Blocked us) _ g f = absurd (cc)
      by (reply.Refused r) _ g f = absurd (cc)
      by _ c g f = absurd (cc)

  rows_told : (rows : List (ℕ × ℕ)) → fits (reply.Rows rows) b ≡ true → (told : List (ℕ × ℕ)) × ((b ≡ observed.Rows told) × (same_pairs rows told ≡ true))
  rows_told rows f = by b f
    where
      by : (c : Observed) → fits (reply.Rows rows) c ≡ true → (told : List (ℕ × ℕ)) × ((c ≡ observed.Rows told) × (same_pairs rows told ≡ true))
      by (observed.Rows told) f = (told, (refl, f))
      by _ f = absurd (cc)

  -- No part is left.
  fell_through : (m : Moment) (lg : Log) (rows : List (ℕ × ℕ)) (o : Op) → IsReading lg m w t lo hi rows → Result lg (record { op = o; ahead = []; reply = reply.Rows rows; left = m }) []
  fell_through m lg rows o h ends =
      let told = rows_told rows (ends.0 refl) in
      subst (λ z. IsGivenOf m.state.state m.scans lg (tales_after w t (op.Scan lo hi) (turned z))) (sym told.1.0) (all_given lg m w t lo hi rows told.0 le h told.1.1)

  -- A part isn't read: nothing behind it is.
  stopped : (os : List Op) (y : Tried) (lg : Log) (m : Moment) → is_read y.ahead y.reply ≡ false → y.left ≡ m → IsGivenOf m.state.state m.scans lg w → (Ends y → v ≡ w) → Result lg y os
  stopped os y lg m isnt at k same ends =
      let last : read_down p queue t os y ≡ y = stays p queue t os y isnt in
      subst (λ (z : Tried). IsGivenOf z.left.state.state z.left.scans (log_run p y.left.state lg (all_read p queue t os y)) v) (sym last)
      (subst (λ z. IsGivenOf y.left.state.state y.left.scans (log_run p y.left.state lg z) v) (sym (none_done os isnt))
      (subst (λ (z : Moment). IsGivenOf z.state.state z.scans lg v) (sym at) (subst (λ z. IsGivenOf m.state.state m.scans lg z) (sym (same (subst Ends last ends))) k)))
    where
      none_done : (os : List Op) → is_read y.ahead y.reply ≡ false → all_read p queue t os y ≡ []
      none_done [] isnt = refl
      none_done (o ∷ os) isnt = ap (λ c. if c then (let next = read_on p queue t y.left y.reply o in done_by t o next.ahead ++ all_read p queue t os next) else []) isnt

  -- The next part, with what comes of it.
  abbrev next_at : Moment → List (ℕ × ℕ) → Op → List ℕ → Tried
  next_at m rows o us = record { op = o; ahead = us; reply = behind (reply.Rows rows) (step p m.state t o).0; left = left_after p t m o us }

  abbrev NextResult : Log → Moment → List (ℕ × ℕ) → Op → List ℕ → List Op → Type 0
  NextResult lg m rows o us os =
      let next = next_at m rows o us in
      let z = read_down p queue t os next in
      let left = z.left in
      Ends z → IsGivenOf left.state.state left.scans (log_run p m.state lg (done_by t o us ++ all_read p queue t os next)) v

  not_rows : (rows : List (ℕ × ℕ)) (a : Reply) → is_granted a ≡ false → behind (reply.Rows rows) a ≡ a
  not_rows rows (reply.Blocked us) g = refl
  not_rows rows (reply.Refused r) g = refl
  not_rows rows _ g = absurd (cc)

  unread_by : (a : Reply) → is_granted a ≡ false → is_read [] a ≡ false
  unread_by (reply.Blocked us) g = refl
  unread_by (reply.Refused r) g = refl
  unread_by _ g = absurd (cc)

  waits_unread : (u : ℕ) (us : List ℕ) (a : Reply) → is_read (u ∷ us) a ≡ false
  waits_unread u us (reply.Rows rows) = refl
  waits_unread u us _ = refl

  same_moment : (m : Moment) (o : Op) (done : Outcome) → is_granted done.0 ≡ false → done.1 ≡ m.state → ◌≡◌ {A = Moment} (record { state = done.1; scans = noted_after m.scans t o done.0 }) m
  same_moment m o done g at = by done.0 g
    where
      by : (a : Reply) → is_granted a ≡ false → ◌≡◌ {A = Moment} (record { state = done.1; scans = noted_after m.scans t o a }) m
      by (reply.Blocked us) g = ap (λ z. let it : Moment = record { state = z; scans = m.scans } in it) at
      by (reply.Refused r) g = ap (λ z. let it : Moment = record { state = z; scans = m.scans } in it) at
      by _ g = absurd (cc)

  -- Somebody waits ahead of the next part.
  next_waits : (os : List Op) (m : Moment) (lg : Log) (rows : List (ℕ × ℕ)) (o : Op) (u : ℕ) (us : List ℕ) → IsGivenOf m.state.state m.scans lg w → NextResult lg m rows o (u ∷ us) os
  next_waits os m lg rows o u us k =
      let y : Tried = next_at m rows o (u ∷ us) in
      stopped os y lg m (waits_unread u us y.reply) refl k (λ ends. ends.1 refl)

  -- It is refused or blocked.
  next_stops : (os : List Op) (m : Moment) (lg : Log) (rows : List (ℕ × ℕ)) (o : Op) → is_granted (step p m.state t o).0 ≡ false → (step p m.state t o).1 ≡ m.state → IsGivenOf m.state.state m.scans lg w → NextResult lg m rows o [] os
  next_stops os m lg rows o g at k =
      let done : Outcome = step p m.state t o in
      let y : Tried = next_at m rows o [] in
      let same = same_moment m o done g at in
      let reply_is : y.reply ≡ done.0 = not_rows rows done.0 g in
      let logs : logged lg (event t o, done.0) ≡ lg = logged_silent lg (event t o) done.0 g in
      λ ends. stopped os y (logged lg (event t o, done.0)) m (ap (λ z. is_read [] z) reply_is ∙ unread_by done.0 g) same (subst (λ z. IsGivenOf m.state.state m.scans z w) (sym logs) k)
      (λ e. silent_told done.0 g (ap (λ z. fits z b) (sym reply_is) ∙ e.0 refl)) ends

  -- Parts from here on.
  abbrev pub Falls : List Op → Type 0
  Falls os = (from : ℕ) (m : Moment) (lg : Log) (rows : List (ℕ × ℕ)) (o : Op) → Fall m.state from os lo → from ≤ suc hi → IsReading lg m w t from hi rows
      → Result lg (record { op = o; ahead = []; reply = reply.Rows rows; left = m }) os

  -- It is read.
  next_reads : (os : List Op) → Falls os → (from : ℕ) (m : Moment) (lg : Log) (rows : List (ℕ × ℕ)) (l e : ℕ) → Fall m.state from (op.Scan l e ∷ os) lo → from ≤ suc hi → IsReading lg m w t from hi rows
      → (rs : List (ℕ × ℕ)) → (step p m.state t (op.Scan l e)).0 ≡ reply.Rows rs → reverse rs ≡ rs → ((k : ℕ) → name_from (step p m.state t (op.Scan l e)).1 k ≡ name_from m.state k) → NextResult lg m rows (op.Scan l e) [] os
  next_reads os on from m lg rows l e falls within h rs is one names =
      let new : GhostState = (step p m.state t (op.Scan l e)).1 in
      let below : e ≤ hi = omega (arith, within, falls.0) in
      let n : Moment = record { state = new; scans = noted_after m.scans t (op.Scan l e) (reply.Rows rs) } in
      let more = part_more p lg m w t from hi l e rows rs new (ap (λ z. let it : Outcome = (z, new) in it) (sym is)) falls.0 falls.1.0 below one h in
      let rest = on l n (logged lg (event t (op.Scan l e), reply.Rows rs)) (rows ++ rs) (op.Scan l e) (fall_same m.state new l os lo names falls.1.1.1) (omega (arith, falls.1.0, below)) more in
      subst (λ (a : Reply). (let next : Tried = record { op = op.Scan l e; ahead = []; reply = behind (reply.Rows rows) a; left = record { state = new; scans = noted_after m.scans t (op.Scan l e) a } } in
      let z : Tried = read_down p queue t os next in Ends z → IsGivenOf z.left.state.state z.left.scans (log_run p new (logged lg (event t (op.Scan l e), a)) (all_read p queue t os next)) v)) (sym is) rest

  next_given : (os : List Op) → Falls os → (from : ℕ) (m : Moment) (lg : Log) (rows : List (ℕ × ℕ)) (l e : ℕ) → Fall m.state from (op.Scan l e ∷ os) lo → from ≤ suc hi → IsReading lg m w t from hi rows
      → (us : List ℕ) → NextResult lg m rows (op.Scan l e) us os
  next_given os on from m lg rows l e falls within h (u ∷ us) = next_waits os m lg rows (op.Scan l e) u us h.known
  next_given os on from m lg rows l e falls within h [] = by (part_read p m.state t l e falls.1.1.0)
    where
      by : IsPartRead m.state (step p m.state t (op.Scan l e)) → NextResult lg m rows (op.Scan l e) [] os
      by (inl g) = next_stops os m lg rows (op.Scan l e) g.0 g.1 h.known
      by (inr g) = next_reads os on from m lg rows l e falls within h g.0 g.1.0 g.1.1.0 g.1.1.1

  -- All parts.
  pub fell : (os : List Op) → Falls os
  fell [] from m lg rows o falls within h = fell_through m lg rows o (subst (λ z. IsReading lg m w t z hi rows) falls h)
  fell (op.Scan l e ∷ os) from m lg rows o falls within h =
      next_given os (λ f n g r q fs wi rd. fell os f n g r q fs wi rd) from m lg rows l e falls within h (ahead_of p queue t m.state (op.Scan l e))
  fell (_ ∷ os) from m lg rows o falls within h = absurd falls

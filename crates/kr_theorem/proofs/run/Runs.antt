-- Every run is serializable in commit order, and the map that the committed transactions leave is the index with the unfinished rolled back.
use Rattle.std.specs.Prelude.{◌≡◌, ℕ, ◌≤◌, ◌+◌, suc, Bool, true, false, not, ◌&&◌, nat_lt, if◌then◌else◌, List, [], ◌∷◌, ◌++◌, Option, Some, None, refl, is_some}
use Rattle.std.proofs.lemmas.Bool.Decides.{nat_tests}
use Rattle.std.proofs.Common.{sym, ◌∙◌, ap, subst, arith, inl, append_assoc, append-nil}
use Rattle.kr_model.specs.declared.Op.{Op}
use Rattle.kr_model.specs.declared.Op.TheVariants as op
use Rattle.kr_model.specs.declared.Event.{Event}
use Rattle.kr_model.specs.declared.Reply.TheVariants as reply
use Rattle.kr_model.specs.declared.Refusal.{Refusal}
use Rattle.kr_model.specs.declared.Refusal.TheVariants as refusal
use Rattle.kr_model.specs.Protocol.{Protocol, IsLawful}
use Rattle.kr_model.specs.declared.KeyUse.TheVariants.{Free as KeyFree}
use Rattle.kr_model.specs.declared.GapUse.TheVariants.{Free as GapFree}
use Rattle.kr_model.specs.Safe.{IsSafe, start as beside, free as nothing}
use Rattle.kr_theorem.proofs.safe.Shape.{in_count}
use Rattle.kr_model.specs.Map.{Map, IsMap}
use Rattle.kr_model.specs.State.{State, Scan, start, has_ended, is_scanning, is_rolling, has_nothing_left, standing}
use Rattle.kr_model.specs.Step.{step, performed, unless_refused, refusal_of, is_full, goes_on, takes_back, is_go, is_bad_range, is_update, is_back, attempted_scan}
use Rattle.kr_model.specs.Run.{Entry, run}
use Rattle.kr_model.specs.Serial.{IsSerialRun}
use Rattle.kr_theorem.proofs.step.Parts.{Progress, blank, blank_untouched}
use Rattle.kr_theorem.proofs.step.Scans.{LooksFrom}
use Rattle.kr_theorem.proofs.run.Reading.{ReadsAs, reads_answer, reads_begins, reads_goes_on, reads_ends}
use Rattle.kr_theorem.proofs.run.Actives.{true_not_false}
use Rattle.kr_theorem.proofs.run.Programs.{StandsScan}
use Rattle.kr_theorem.proofs.run.Known.{Known, KnownAfter, stays}
use Rattle.kr_theorem.proofs.run.Ends.{commits, aborts, backs}
use Rattle.kr_theorem.proofs.run.Attempts.{fetches, inserts, deletes, updates}
use Rattle.kr_theorem.proofs.run.Looks.{looks}
use Rattle.kr_model.specs.Covers.{IsCovered}
use Rattle.kr_theorem.specs.Passes.{RunsOfAreSerial}
use Rattle.kr_theorem.proofs.safe.Absent.{none_on_absent}
use Rattle.kr_theorem.proofs.safe.AllCases.{covered_is_safe}
use Rattle.kr_theorem.proofs.run.Outcome.{serial}

-- No refusal --

-- Each test of a refusal is false where none applies.
first_if : (b : Bool) (r : Refusal) (x : Option Refusal) → (if b then Some r else x) ≡ None → (b ≡ false) × (x ≡ None)
first_if true r x h = absurd (cc)
first_if false r x h = (refl, h)

abbrev after_update : State → ℕ → Op → Option Refusal
after_update s t o = if has_nothing_left s t && is_back o then Some refusal.NothingLeft else None

abbrev after_range : Protocol → State → ℕ → Op → Option Refusal
after_range p s t o = if is_update o && not p.updates then Some refusal.NoUpdate else after_update s t o

abbrev after_scan : Protocol → State → ℕ → Op → Option Refusal
after_scan p s t o = if is_bad_range o then Some refusal.BadRange else after_range p s t o

abbrev after_busy : Protocol → State → ℕ → Op → Option Refusal
after_busy p s t o = if not (is_scanning s t) && is_go o then Some refusal.NoScan else after_scan p s t o

abbrev after_rolling : Protocol → State → ℕ → Op → Option Refusal
after_rolling p s t o = if is_scanning s t && not (goes_on o) then Some refusal.Busy else after_busy p s t o

abbrev after_full : Protocol → State → ℕ → Op → Option Refusal
after_full p s t o = if is_rolling s t && not (takes_back o) then Some refusal.RollingBack else after_rolling p s t o

abbrev after_ended : Protocol → State → ℕ → Op → Option Refusal
after_ended p s t o = if is_full s t then Some refusal.Full else after_full p s t o

-- What holds of an operation by itself that isn't refused: its range isn't upside down, and an update is offered.
record IsFit (p : Protocol) (o : Op) : Type 0 where
  range : is_bad_range o ≡ false
  update : (is_update o && not p.updates) ≡ false

allowed : (p : Protocol) (s : State) (t : ℕ) (o : Op) → refusal_of p s t o ≡ None
    → (has_ended s t ≡ false) × ((is_rolling s t && not (takes_back o)) ≡ false) × ((is_scanning s t && not (goes_on o)) ≡ false) × IsFit p o
allowed p s t o h =
    let a = first_if (has_ended s t) refusal.Ended (after_ended p s t o) h in
    let b = first_if (is_full s t) refusal.Full (after_full p s t o) a.1 in
    let c = first_if (is_rolling s t && not (takes_back o)) refusal.RollingBack (after_rolling p s t o) b.1 in
    let d = first_if (is_scanning s t && not (goes_on o)) refusal.Busy (after_busy p s t o) c.1 in
    let e = first_if (not (is_scanning s t) && is_go o) refusal.NoScan (after_scan p s t o) d.1 in
    let f = first_if (is_bad_range o) refusal.BadRange (after_range p s t o) e.1 in
    let u = first_if (is_update o && not p.updates) refusal.NoUpdate (after_update s t o) f.1 in
    (a.0, c.0, d.0, record { range = f.0; update = u.0 })

offered : (b : Bool) → not b ≡ false → b ≡ true
offered true h = refl
offered false h = absurd (cc)

and_true : (b : Bool) → (b && true) ≡ false → b ≡ false
and_true true h = absurd (cc)
and_true false h = refl

-- No scan is in progress in the part if none is in the state.
no_scan_either : (q : Option Progress) (c : Option Scan) → StandsScan q c → is_some c ≡ false → (q ≡ None) × (c ≡ None)
no_scan_either None None z h = (refl, refl)
no_scan_either (Some g) (Some c) z h = absurd (cc)
no_scan_either None (Some c) z h = absurd z
no_scan_either (Some g) None z h = absurd z

in_range : (lo hi : ℕ) → nat_lt hi lo ≡ false → lo ≤ hi
in_range lo hi h = grind (arith, nat_tests)

-- Each step --

module _ (p : Protocol) (laws : IsLawful p) (safe : IsSafe p) (opening : Map) (h : List Entry) (s : State) (g : Known p opening h s) (t : ℕ) (live_t : has_ended s t ≡ false) (unrolled : (g.part t).rolling ≡ false) where
  module _ (quiet : (g.part t).scan ≡ None) (idle_now : (standing s t).scan ≡ None) where
    -- A scan begins.
    scans : (lo hi : ℕ) → lo ≤ hi → KnownAfter p opening h t (op.Scan lo hi) (performed p s t (op.Scan lo hi))
    scans lo hi le =
        let c : Scan = record { lo = lo; hi = hi; rows = [] } in
        let none : ReadsAs t h (g.part t).program None = subst (λ z. ReadsAs t h (g.part t).program z) quiet (g.reads t live_t unrolled) in
        looks p laws safe opening h s g t live_t unrolled (op.Scan lo hi) c lo (subst (λ z. LooksFrom z lo hi lo []) (sym quiet) (refl, le, refl))
        (λ rows. reads_answer t h (op.Scan lo hi) (reply.Rows rows) (g.part t).program refl (λ f. refl) none)
        (λ k last pairs. reads_begins t h lo hi k last pairs (g.part t).program none)
        refl

    -- An operation of a transaction without a scan in progress.
    unscanned : (o : Op) → IsFit p o → not (goes_on o) ≡ true → KnownAfter p opening h t o (performed p s t o)
    unscanned (op.Fetch k) r n = fetches p laws safe opening h s g t live_t unrolled quiet idle_now k
    unscanned (op.Insert k v) r n = inserts p laws safe opening h s g t live_t unrolled quiet idle_now k v
    unscanned (op.Delete k) r n = deletes p laws safe opening h s g t live_t unrolled quiet idle_now k
    unscanned (op.Update k v) r n = updates p laws safe opening h s g t live_t unrolled quiet idle_now (offered p.updates r.update) k v
    unscanned (op.Scan lo hi) r n = scans lo hi (in_range lo hi r.range)
    unscanned op.Commit r n = commits p laws safe opening h s g t live_t unrolled quiet
    unscanned op.Go r n = absurd (cc)
    unscanned op.Abort r n = absurd (cc)
    unscanned op.Back r n = absurd (cc)

  -- A scan goes on.
  go_on : (q : Option Progress) (c : Option Scan) → (g.part t).scan ≡ q → StandsScan q c → KnownAfter p opening h t op.Go (attempted_scan p s t c)
  go_on q None e z = stays p opening h s t op.Go (reply.Refused refusal.NoScan) g refl refl
  go_on None (Some c) e z = absurd z
  go_on (Some r) (Some c) e z =
      let reads : ReadsAs t h (g.part t).program (Some r) = subst (λ z. ReadsAs t h (g.part t).program z) e (g.reads t live_t unrolled) in
      let after : r.last + 1 ≡ suc r.last = omega arith in
      looks p laws safe opening h s g t live_t unrolled op.Go c (suc r.last) (subst (λ z. LooksFrom z c.lo c.hi (suc r.last) c.rows) (sym e) (z.0, z.1, after, z.2))
      (λ rows. reads_ends t h r c.lo c.hi rows (g.part t).program z.0 z.1 reads)
      (λ k last pairs. reads_goes_on t h r c.lo c.hi k last pairs (g.part t).program z.0 z.1 reads)
      (z.3 s.map)

  -- Only to go on and to undo changes are allowed in the midst of a scan.
  other_ops : (o : Op) → not (goes_on o) ≡ true → (is_scanning s t && not (goes_on o)) ≡ false → IsFit p o → KnownAfter p opening h t o (performed p s t o)
  other_ops o n busy r =
      let st = g.stands t live_t in
      let none = no_scan_either (g.part t).scan (standing s t).scan st.scan (and_true (is_scanning s t) (ap (λ b. is_scanning s t && b) (sym n) ∙ busy)) in
      unscanned none.0 none.1 o r n

  -- An operation of a transaction that doesn't roll back, but for those that undo changes.
  works : (o : Op) → not (takes_back o) ≡ true → (is_scanning s t && not (goes_on o)) ≡ false → IsFit p o → KnownAfter p opening h t o (performed p s t o)
  works (op.Fetch k) n b r = other_ops (op.Fetch k) refl b r
  works (op.Insert k v) n b r = other_ops (op.Insert k v) refl b r
  works (op.Delete k) n b r = other_ops (op.Delete k) refl b r
  works (op.Update k v) n b r = other_ops (op.Update k v) refl b r
  works (op.Scan lo hi) n b r = other_ops (op.Scan lo hi) refl b r
  works op.Commit n b r = other_ops op.Commit refl b r
  works op.Go n b r = let st = g.stands t live_t in go_on (g.part t).scan (standing s t).scan refl st.scan
  works op.Abort n b r = absurd (cc)
  works op.Back n b r = absurd (cc)

module _ (p : Protocol) (laws : IsLawful p) (safe : IsSafe p) (opening : Map) (h : List Entry) (s : State) (g : Known p opening h s) (t : ℕ) (live_t : has_ended s t ≡ false) where
  -- Only to undo changes is allowed once one was undone.
  forward : (o : Op) → not (takes_back o) ≡ true → (is_rolling s t && not (takes_back o)) ≡ false → (is_scanning s t && not (goes_on o)) ≡ false → IsFit p o → KnownAfter p opening h t o (performed p s t o)
  forward o n rolls b r =
      let st = g.stands t live_t in
      works p laws safe opening h s g t live_t (sym st.rolling ∙ and_true (is_rolling s t) (ap (λ b. is_rolling s t && b) (sym n) ∙ rolls)) o n b r

  -- An operation of a transaction that hasn't ended.
  live_step : (o : Op) → (is_rolling s t && not (takes_back o)) ≡ false → (is_scanning s t && not (goes_on o)) ≡ false → IsFit p o → KnownAfter p opening h t o (performed p s t o)
  live_step op.Abort rolls b r = aborts p laws safe opening h s g t live_t
  live_step op.Back rolls b r = backs p laws safe opening h s g t live_t (standing s t).changes refl
  live_step (op.Fetch k) rolls b r = forward (op.Fetch k) refl rolls b r
  live_step (op.Insert k v) rolls b r = forward (op.Insert k v) refl rolls b r
  live_step (op.Delete k) rolls b r = forward (op.Delete k) refl rolls b r
  live_step (op.Update k v) rolls b r = forward (op.Update k v) refl rolls b r
  live_step (op.Scan lo hi) rolls b r = forward (op.Scan lo hi) refl rolls b r
  live_step op.Commit rolls b r = forward op.Commit refl rolls b r
  live_step op.Go rolls b r = forward op.Go refl rolls b r

-- Each step, refused or not.
known_step : (p : Protocol) → IsLawful p → IsSafe p → (opening : Map) (h : List Entry) (s : State) → Known p opening h s → (t : ℕ) (o : Op) (x : Option Refusal) → refusal_of p s t o ≡ x → KnownAfter p opening h t o (unless_refused p s t o x)
known_step p laws safe opening h s g t o (Some r) e = stays p opening h s t o (reply.Refused r) g refl refl
known_step p laws safe opening h s g t o None e = let a = allowed p s t o e in live_step p laws safe opening h s g t a.0 o a.1 a.2 a.3

-- Each run --

-- By induction on the events.
pub known_run : (p : Protocol) → IsLawful p → IsSafe p → (opening : Map) (es : List Event) (h : List Entry) (s : State) → Known p opening h s → Known p opening (h ++ (let r = run p s es in r.history)) (let r = run p s es in r.state)
known_run p laws safe opening [] h s g = subst (λ l. Known p opening l s) (sym (append-nil h)) g
known_run p laws safe opening (e ∷ es) h s g =
    let o = step p s e.txn e.op in
    subst (λ l. Known p opening l (run p (step p s e.txn e.op).1 es).state) (append_assoc h ((e, o.0) ∷ []) (run p o.1 es).history)
    (known_run p laws safe opening es (h ++ (e, o.0) ∷ []) o.1 (known_step p laws safe opening h s g e.txn e.op (refusal_of p s e.txn e.op) refl))

none_found : ◌≡◌ {A = Option ℕ} None (Some 0) → ⊥
none_found e = cc

-- At the start nothing has been done.
pub opens : (p : Protocol) → IsLawful p → (opening : Map) → IsMap opening → Known p opening [] (start opening)
opens p laws opening sorted = record {
  part = λ u. blank;
  done = [];
  answered = tt;
  hold = λ t n. nothing;
  inv = record {
    is_map = sorted;
    is_committed_map = sorted;
    guarded = record {
      range = λ t n. in_count KeyFree GapFree;
      cover = λ t k touch. absurd (blank_untouched k touch);
      change = λ t k b. absurd b;
      apart = λ t u k c ne touch b reach. b;
    };
    owned = record {
      counted = λ t. refl;
      present = λ t k b there. absurd b;
      alone = λ t u k ne touch b. b;
    };
    undoable = record { levels = λ t. tt; outside = λ t u y ne moved h. h };
    replay = λ t live d rd agree. (tt, (λ k b. absurd b), (λ k out. refl));
    scan = λ t. tt;
    committed = record { before = λ t k b. absurd b; now = λ k out. refl };
  };
  sim = record {
    locks = record { rise = refl; within = λ t n. omega arith; no_none = λ k e. none_found e };
    paired = record { mode = λ t n. refl; alone = λ t n. inl beside; beside = λ t u n live ne. inl beside };
    placed = record {
      there = λ t n live e. inl (record { key = refl; gap = refl });
      gone = λ t n live e. absurd (true_not_false (sym e));
      mine = λ t u k ne live h. absurd h;
      guard = λ t k live e. absurd (true_not_false (sym e));
      absent = λ t k live none e. none_on_absent p laws;
      put = λ t k h. absurd h;
    };
  };
  reads = λ t live unrolled f. refl;
  stands = λ t live. record { scan = tt; changes = refl; rolling = refl };
  over = λ t ended. refl;
  fixed = tt;
  order = refl;
  sorted = refl;
  live = λ t a i. absurd i;
}

-- Under a lawful and safe protocol every run is serializable in commit order, and the index with the unfinished rolled back, in any order, is the map left.
pub safe_runs_are_serial : (p : Protocol) → IsLawful p → IsSafe p → (opening : Map) (events : List Event) → IsMap opening → IsSerialRun opening (run p (start opening) events)
safe_runs_are_serial p laws safe opening events sorted =
    let r = run p (start opening) events in
    serial p opening r.history r.state (known_run p laws safe opening events [] (start opening) (opens p laws opening sorted))

-- A lawful protocol of which all cases hold is safe, so every run under it is, too.
pub runs_are_serial : (p : Protocol) → IsLawful p → IsCovered p → (opening : Map) (events : List Event) → IsMap opening → IsSerialRun opening (run p (start opening) events)
runs_are_serial p laws cov = safe_runs_are_serial p laws (covered_is_safe p laws cov)

-- So is every run of some of the operations.
pub runs_of_are_serial : (IsSuch : Op → Type 0) (p : Protocol) → IsLawful p → IsCovered p → RunsOfAreSerial IsSuch p
runs_of_are_serial IsSuch p laws cov opening events sorted are = runs_are_serial p laws cov opening events sorted

-- Every step and every purge keeps what is known of the run, so every run is serializable in commit order.
use Rattle.std.specs.Prelude.{◌≡◌, ℕ, ◌≤◌, Bool, true, false, not, ◌&&◌, nat_lt, if◌then◌else◌, List, [], ◌∷◌, ◌++◌, Option, Some, None, refl, is_some}
use Rattle.std.proofs.Common.{sym, ◌∙◌, subst, arith, append_assoc, append-nil}
use Rattle.std.proofs.lemmas.Bool.Decides.{nat_tests}
use Rattle.kr_model.specs.declared.Op.{Op}
use Rattle.kr_model.specs.declared.Op.TheVariants as op
use Rattle.kr_model.specs.declared.Reply.TheVariants as reply
use Rattle.kr_model.specs.declared.Refusal.{Refusal}
use Rattle.kr_model.specs.declared.Refusal.TheVariants as refusal
use Rattle.kr_model.specs.Protocol.{Protocol}
use Rattle.kr_model.specs.Map.{Map, IsMap}
use Rattle.kr_model.specs.State.{State, Scan, has_ended, is_scanning, is_rolling, has_nothing_left, standing}
use Rattle.kr_model.specs.Step.{refusal_of, is_full, goes_on, takes_back, is_go, is_bad_range, is_update, is_back}
use Rattle.kr_model.specs.Run.{Entry}
use Rattle.kr_theorem.proofs.run.Reading.{ReadsAs, reads_answer, reads_begins, reads_goes_on, reads_ends}
use Rattle.kr_theorem.proofs.step.Parts.{Progress, blank, blank_untouched}
use Rattle.kr_theorem.proofs.step.Scans.{LooksFrom}
use Rattle.kr_ghost.specs.Protocol.{GhostProtocol, IsLawfulGhost}
use Rattle.kr_ghost.specs.State.{GhostState, opened}
use Rattle.kr_ghost.specs.Step.{step, performed, unless_refused, attempted_scan, purged}
use Rattle.kr_ghost.specs.Safe.{free, start, IsSafeGhost}
use Rattle.kr_ghost.specs.declared.moves.Move.{Move}
use Rattle.kr_ghost.specs.declared.moves.Move.TheVariants.{Attempt, Purge}
use Rattle.kr_ghost.specs.Run.{run, GhostRunsAreSerial}
use Rattle.kr_ghost.proofs.Serving.{not_false}
use Rattle.kr_ghost.proofs.Holding.{none_left}
use Rattle.kr_ghost.proofs.Sim.{status}
use Rattle.kr_ghost.proofs.Told as told
use Rattle.kr_ghost.proofs.Known.{Known, KnownAfter, stays}
use Rattle.kr_ghost.proofs.Turn.{Turn}
use Rattle.kr_ghost.proofs.Attempts.{fetches, inserts, deletes, updates}
use Rattle.kr_ghost.proofs.Looks.{looks}
use Rattle.kr_ghost.proofs.Ends.{commits, aborts, backs}
use Rattle.kr_ghost.proofs.Purging.{purges}

-- No refusal --

-- Each test of a refusal is false where none applies.
first_if : (b : Bool) (r : Refusal) (x : Option Refusal) → (if b then Some r else x) ≡ None → (b ≡ false) × (x ≡ None)
first_if true r x h = absurd (cc)
first_if false r x h = (refl, h)

abbrev after_range : Protocol → State → ℕ → Op → Option Refusal
after_range p s t o = if is_update o && not p.updates then Some refusal.NoUpdate else if has_nothing_left s t && is_back o then Some refusal.NothingLeft else None

abbrev after_busy : Protocol → State → ℕ → Op → Option Refusal
after_busy p s t o = if not (is_scanning s t) && is_go o then Some refusal.NoScan else if is_bad_range o then Some refusal.BadRange else after_range p s t o

abbrev after_full : Protocol → State → ℕ → Op → Option Refusal
after_full p s t o = if is_rolling s t && not (takes_back o) then Some refusal.RollingBack else if is_scanning s t && not (goes_on o) then Some refusal.Busy else after_busy p s t o

-- What holds where nothing is refused.
record IsAllowed (p : Protocol) (s : State) (t : ℕ) (o : Op) : Type 0 where
  live : has_ended s t ≡ false
  forward : (is_rolling s t && not (takes_back o)) ≡ false
  idle : (is_scanning s t && not (goes_on o)) ≡ false
  range : is_bad_range o ≡ false
  update : (is_update o && not p.updates) ≡ false

allowed : (p : Protocol) (s : State) (t : ℕ) (o : Op) → refusal_of p s t o ≡ None → IsAllowed p s t o
allowed p s t o h =
    let a = first_if (has_ended s t) refusal.Ended (if is_full s t then Some refusal.Full else after_full p s t o) h in
    let b = first_if (is_full s t) refusal.Full (after_full p s t o) a.1 in
    let c = first_if (is_rolling s t && not (takes_back o)) refusal.RollingBack (if is_scanning s t && not (goes_on o) then Some refusal.Busy else after_busy p s t o) b.1 in
    let d = first_if (is_scanning s t && not (goes_on o)) refusal.Busy (after_busy p s t o) c.1 in
    let e = first_if (not (is_scanning s t) && is_go o) refusal.NoScan (if is_bad_range o then Some refusal.BadRange else after_range p s t o) d.1 in
    let f = first_if (is_bad_range o) refusal.BadRange (after_range p s t o) e.1 in
    let u = first_if (is_update o && not p.updates) refusal.NoUpdate (if has_nothing_left s t && is_back o then Some refusal.NothingLeft else None) f.1 in
    record { live = a.0; forward = c.0; idle = d.0; range = f.0; update = u.0 }

and_true : (b c : Bool) → c ≡ true → (b && c) ≡ false → b ≡ false
and_true true c e h = sym e ∙ h
and_true false c e h = refl

-- No scan is in progress in the part if none is in the state.
no_scan_either : (q : Option Progress) (c : Option Scan) → told.StandsScan q c → is_some c ≡ false → (q ≡ None) × (c ≡ None)
no_scan_either None None z h = (refl, refl)
no_scan_either (Some g) (Some c) z h = absurd (cc)
no_scan_either None (Some c) z h = absurd z
no_scan_either (Some g) None z h = absurd z

in_range : (lo hi : ℕ) → nat_lt hi lo ≡ false → lo ≤ hi
in_range lo hi h = grind (arith, nat_tests)

-- Each step --

module _ (p : GhostProtocol) (laws : IsLawfulGhost p) (safe : IsSafeGhost p) (opening : Map) (h : List Entry) (s : GhostState) (g : Known p opening h s) (t : ℕ)
    (live : has_ended s.state t ≡ false) where
  module _ (unrolled : (g.part t).rolling ≡ false) where
    reads_now : ReadsAs t h (g.part t).program (g.part t).scan
    reads_now = let w = g.told in w.reads t live unrolled

    -- A scan begins.
    scans : (g.part t).scan ≡ None → (lo hi : ℕ) → lo ≤ hi → KnownAfter p opening h t (op.Scan lo hi) (performed p s t (op.Scan lo hi))
    scans quiet lo hi le =
        let c : Scan = record { lo = lo; hi = hi; rows = [] } in
        let none : ReadsAs t h (g.part t).program None = subst (λ z. ReadsAs t h (g.part t).program z) quiet reads_now in
        looks p laws safe opening h s g t live unrolled (op.Scan lo hi) c lo (subst (λ z. LooksFrom z lo hi lo []) (sym quiet) (refl, le, refl))
        (λ rows. reads_answer t h (op.Scan lo hi) (reply.Rows rows) (g.part t).program refl (λ f. refl) none)
        (λ k last pairs. reads_begins t h lo hi k last pairs (g.part t).program none)

    -- No scan is in progress.
    turn : (g.part t).scan ≡ None → (standing s.state t).scan ≡ None → Turn p opening h s g t
    turn quiet idle = record { laws = laws; safe = safe; live = live; unrolled = unrolled; quiet = quiet; idle = idle }

    -- An operation of a transaction without a scan in progress.
    unscanned : (g.part t).scan ≡ None → (standing s.state t).scan ≡ None → (o : Op) → not (goes_on o) ≡ true → is_bad_range o ≡ false
        → (is_update o && not p.table.updates) ≡ false → KnownAfter p opening h t o (performed p s t o)
    unscanned quiet idle (op.Fetch k) n r u = fetches p opening h s g t (turn quiet idle) k
    unscanned quiet idle (op.Insert k v) n r u = inserts p opening h s g t (turn quiet idle) k v
    unscanned quiet idle (op.Delete k) n r u = deletes p opening h s g t (turn quiet idle) k
    unscanned quiet idle (op.Update k v) n r u = updates p opening h s g t (turn quiet idle) (not_false p.table.updates u) k v
    unscanned quiet idle (op.Scan lo hi) n r u = scans quiet lo hi (in_range lo hi r)
    unscanned quiet idle op.Commit n r u = commits p opening h s g t live unrolled quiet
    unscanned quiet idle op.Go n r u = absurd (cc)
    unscanned quiet idle op.Abort n r u = absurd (cc)
    unscanned quiet idle op.Back n r u = absurd (cc)

    -- A scan goes on.
    go_on : (q : Option Progress) (c : Option Scan) → (g.part t).scan ≡ q → told.StandsScan q c → KnownAfter p opening h t op.Go (attempted_scan p s t c)
    go_on None None e z = stays p opening h s g t op.Go (reply.Refused refusal.NoScan) refl refl
    go_on (Some r) None e z = absurd z
    go_on None (Some c) e z = absurd z
    go_on (Some r) (Some c) e z =
        let reads : ReadsAs t h (g.part t).program (Some r) = subst (λ z. ReadsAs t h (g.part t).program z) e reads_now in
        looks p laws safe opening h s g t live unrolled op.Go c r.low (subst (λ z. LooksFrom z r.low c.hi c.lo c.rows) (sym e) (refl, z.1, sym z.0, z.2))
        (λ rows. reads_ends t h r r.low c.hi rows (g.part t).program refl z.1 reads)
        (λ k last pairs. reads_goes_on t h r r.low c.hi k last pairs (g.part t).program refl z.1 reads)

  -- Only to go on and to undo changes are allowed in the midst of a scan, and only the latter once a change was undone.
  forward : (o : Op) → not (takes_back o) ≡ true → not (goes_on o) ≡ true → IsAllowed p.table s.state t o → KnownAfter p opening h t o (performed p s t o)
  forward o n m a =
      let w = g.told in
      let st = w.stands t live in
      let none = no_scan_either (g.part t).scan (standing s.state t).scan st.scan (and_true (is_scanning s.state t) (not (goes_on o)) m a.idle) in
      unscanned (sym st.rolling ∙ and_true (is_rolling s.state t) (not (takes_back o)) n a.forward) none.0 none.1 o m a.range a.update

  -- An operation that isn't refused.
  live_step : (o : Op) → IsAllowed p.table s.state t o → KnownAfter p opening h t o (performed p s t o)
  live_step op.Abort a = aborts p opening h s g t live
  live_step op.Back a = backs p opening h s g t live (standing s.state t).changes refl
  live_step op.Go a =
      let w = g.told in
      let st = w.stands t live in
      go_on (sym st.rolling ∙ and_true (is_rolling s.state t) true refl a.forward) (g.part t).scan (standing s.state t).scan refl st.scan
  live_step (op.Fetch k) a = forward (op.Fetch k) refl refl a
  live_step (op.Insert k v) a = forward (op.Insert k v) refl refl a
  live_step (op.Delete k) a = forward (op.Delete k) refl refl a
  live_step (op.Update k v) a = forward (op.Update k v) refl refl a
  live_step (op.Scan lo hi) a = forward (op.Scan lo hi) refl refl a
  live_step op.Commit a = forward op.Commit refl refl a

module _ (p : GhostProtocol) (laws : IsLawfulGhost p) (safe : IsSafeGhost p) (opening : Map) where
  -- Each step, refused or not.
  known_step : (h : List Entry) (s : GhostState) → Known p opening h s → (t : ℕ) (o : Op) (x : Option Refusal) → refusal_of p.table s.state t o ≡ x
      → KnownAfter p opening h t o (unless_refused p s t o x)
  known_step h s g t o (Some r) e = stays p opening h s g t o (reply.Refused r) refl refl
  known_step h s g t o None e = let a = allowed p.table s.state t o e in live_step p laws safe opening h s g t a.live o a

  -- By induction on the moves.
  known_run : (moves : List Move) (h : List Entry) (s : GhostState) → Known p opening h s → Known p opening (h ++ (let r = run p s moves in r.history)) (let r = run p s moves in r.last)
  known_run [] h s g = subst (λ l. Known p opening l s) (sym (append-nil h)) g
  known_run (Attempt e ∷ moves) h s g =
      let o = step p s e.txn e.op in
      subst (λ l. Known p opening l (run p (step p s e.txn e.op).1 moves).last) (append_assoc h ((e, o.0) ∷ []) (run p o.1 moves).history)
      (known_run moves (h ++ (e, o.0) ∷ []) o.1 (known_step h s g e.txn e.op (refusal_of p.table s.state e.txn e.op) refl))
  known_run (Purge k ∷ moves) h s g = known_run moves h (purged p s k) (purges p laws safe opening h s g k)

  none_found : ◌≡◌ {A = Option ℕ} None (Some 0) → ⊥
  none_found e = cc

  -- At the start nothing has been done.
  opens : IsMap opening → Known p opening [] (opened opening)
  opens sorted = record {
    part = λ u. blank;
    done = [];
    answered = tt;
    hold = λ t n. free;
    inv = record {
      is_map = sorted;
      is_committed_map = sorted;
      guarded = record {
        named = λ t k c. absurd c;
        cover = λ t k touch. absurd (blank_untouched k touch);
        change = λ t k c. absurd c;
        alone = λ t u k ne touch c. c;
      };
      rolled = λ t k rolls touch. absurd (blank_untouched k touch);
      replay = λ t live d rd agree. (tt, (λ k b. absurd b), (λ k out. refl));
      scan = λ t. tt;
      committed = record { before = λ t k b. absurd b; now = λ k out. refl };
    };
    sim = record {
      mode = λ t n. refl;
      rolls = λ t n. refl;
      none = λ t k none. refl;
      fits = λ t n. none_left n;
      alone = λ t n. start (status opening n);
      beside = λ t u n ne. start (status opening n);
    };
    locks = record { rise = refl; within = λ t n. omega arith; no_none = λ k e. none_found e };
    told = record {
      reads = λ t live unrolled f. refl;
      stands = λ t live. record { scan = tt; changes = refl; rolling = refl };
      over = λ t ended. refl;
      fixed = tt;
      order = refl;
      sorted = refl;
      live = λ t a i. absurd i;
    };
  }

-- Under a lawful and safe protocol every run is serializable in commit order, and the index with the unfinished rolled back, in any order, is the map left.
pub safe_runs_are_serial : (p : GhostProtocol) → IsLawfulGhost p → IsSafeGhost p → GhostRunsAreSerial p
safe_runs_are_serial p laws safe opening moves sorted =
    let r = run p (opened opening) moves in
    let g = known_run p laws safe opening moves [] (opened opening) (opens p laws safe opening sorted) in
    let i = g.inv in
    told.serial r.history r.last.state g.part g.done g.told opening i.is_map i.is_committed_map i.committed g.answered

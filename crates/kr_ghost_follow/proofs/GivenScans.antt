-- What lines say of a transaction, and the scans that are noted, after a step.
use Rattle.std.specs.Prelude.{◌≡◌, ℕ, Bool, true, false, nat_lt, List, [], ◌∷◌, ◌++◌, Option, Some, None, refl, ◌⊎◌}
use Rattle.std.proofs.Common.{sym, ◌∙◌, ap, ap₂, subst, inl, inr}
use Rattle.kr_model.specs.declared.Op.{Op}
use Rattle.kr_model.specs.declared.Op.TheVariants as op
use Rattle.kr_model.specs.declared.Reply.{Reply}
use Rattle.kr_model.specs.declared.Reply.TheVariants as reply
use Rattle.kr_model.specs.Log.{with_step}
use Rattle.kr_model.specs.Run.{Answered, is_granted}
use Rattle.kr_model.specs.State.{Scan, standing}
use Rattle.kr_model.specs.Step.{goes_on}
use Rattle.kr_model.proofs.Actives.{tied}
use Rattle.kr_ghost.specs.Protocol.{GhostProtocol}
use Rattle.kr_ghost.specs.State.{GhostState}
use Rattle.kr_ghost.specs.Step.{Outcome, step}
use Rattle.kr_trace_lines.specs.declared.observed.Observed.{Observed}
use Rattle.kr_trace_lines.specs.declared.observed.Observed.TheVariants as observed
use Rattle.kr_trace_lines.specs.Fits.{fits}
use Rattle.kr_trace_follow.specs.declared.scans.Progress.{Progress}
use Rattle.kr_trace_follow.specs.Programs.{Tale, given, scan_given, tale_after}
use Rattle.kr_trace_follow.specs.Scans.{forgotten, noted_after, noted_at, noted_of, range_noted}
use Rattle.kr_trace_follow.specs.Steps.{is_going}
use Rattle.kr_trace_follow.proofs.ScanLaws.{forgot_same, last_same}
use Rattle.kr_trace_follow.proofs.StepReplies.{IsScanReply, is_plain, plain_granted}
use Rattle.kr_trace_follow.proofs.TaleSteps.{go_done, going_given, scan_done}
use Rattle.kr_ghost_follow.proofs.GivenTales.{IsScanGiven, IsTale, range_given, scan_begun, scan_ended, scan_ended_no_tale, scan_gone, tale_more}
use Rattle.kr_ghost_follow.proofs.StepLeaves.{IsOfScan, Leaves, LeavesBy, abort_plain, back_plain, go_replies, goes, rests, step_leaves}

-- Scans that are noted --

-- The scan in progress of a transaction is noted with a range upwards, and where there is none nothing is.
abbrev pub IsNoted : Option Scan → Option Progress → Type 0
IsNoted None None = Unit {0}
IsNoted (Some c) (Some x) = nat_lt x.hi x.lo ≡ false
IsNoted _ _ = ⊥

pub both_noted : (a b : Option Scan) (x y : Option Progress) → a ≡ b → x ≡ y → IsNoted b y → IsNoted a x
both_noted a b x y e f h = subst (λ z. IsNoted z x) (sym e) (subst (λ z. IsNoted b z) (sym f) h)

pub some_noted : (c : Scan) (was : Option Scan) (x : Option Progress) → was ≡ Some c → IsNoted was x → (b : Progress) × ((x ≡ Some b) × (nat_lt b.hi b.lo ≡ false))
some_noted c was (Some b) e h = (b, (refl, subst (λ z. IsNoted z (Some b)) e h))
some_noted c was None e h = absurd (subst (λ z. IsNoted z None) e h)

pub none_noted : (was : Option Scan) (x : Option Progress) → was ≡ None → IsNoted was x → x ≡ None
none_noted was None e h = refl
none_noted was (Some b) e h = absurd (subst (λ z. IsNoted z (Some b)) e h)

pub now_scan : (xs : List Progress) (t lo hi k : ℕ) → noted_of (noted_at xs t (Some (lo, hi)) k) t ≡ Some (record { txn = t; lo = lo; hi = hi; read = k })
now_scan xs t lo hi k = last_same (forgotten xs t) (record { txn = t; lo = lo; hi = hi; read = k }) t (tied t) (forgot_same xs t)

pub now_gone : (xs : List Progress) (t k : ℕ) (c : Progress) → noted_of xs t ≡ Some c → noted_of (noted_after xs t op.Go (reply.Going k)) t ≡ Some (record { txn = t; lo = c.lo; hi = c.hi; read = k })
now_gone xs t k c is = ap (λ z. noted_of (noted_at xs t (range_noted z) k) t) is ∙ now_scan xs t c.lo c.hi k

goes_noted : (xs : List Progress) (t k : ℕ) (o : Op) (was now : Option Scan) → IsNoted was (noted_of xs t) → IsOfScan was o → (c : Scan) × (now ≡ Some c) → IsNoted now (noted_of (noted_after xs t o (reply.Going k)) t)
goes_noted xs t k (op.Scan lo hi) was now are scans left = both_noted now (Some left.0) _ (Some (record { txn = t; lo = lo; hi = hi; read = k })) left.1 (now_scan xs t lo hi k) scans
goes_noted xs t k op.Go was now are scans left =
    let b = some_noted scans.0 was (noted_of xs t) scans.1 are in
    let c : Progress = b.0 in
    both_noted now (Some left.0) _ (Some (record { txn = t; lo = c.lo; hi = c.hi; read = k })) left.1 (now_gone xs t k c b.1.0) b.1.1
goes_noted xs t k (op.Fetch _) was now are scans left = absurd scans
goes_noted xs t k (op.Insert _ _) was now are scans left = absurd scans
goes_noted xs t k (op.Delete _) was now are scans left = absurd scans
goes_noted xs t k (op.Update _ _) was now are scans left = absurd scans
goes_noted xs t k op.Commit was now are scans left = absurd scans
goes_noted xs t k op.Abort was now are scans left = absurd scans
goes_noted xs t k op.Back was now are scans left = absurd scans

none_left : (xs : List Progress) (t : ℕ) (now : Option Scan) → now ≡ None → IsNoted now (noted_of (forgotten xs t) t)
none_left xs t now e = both_noted now None (noted_of (forgotten xs t) t) None e (forgot_same xs t) tt

pub own_noted : (s : GhostState) (xs : List Progress) (t : ℕ) (o : Op) (a : Reply) (new : GhostState) → IsNoted (standing s.state t).scan (noted_of xs t) → Leaves s t o a new
    → IsNoted (standing new.state t).scan (noted_of (noted_after xs t o a) t)
own_noted s xs t o (reply.Going k) new are left = goes_noted xs t k o (standing s.state t).scan (standing new.state t).scan are left.0 left.1
own_noted s xs t o (reply.Blocked us) new are left = subst (λ (z : GhostState). IsNoted (standing z.state t).scan (noted_of xs t)) (sym left) are
own_noted s xs t o (reply.Refused r) new are left = subst (λ (z : GhostState). IsNoted (standing z.state t).scan (noted_of xs t)) (sym left) are
own_noted s xs t o (reply.Found v) new are left = none_left xs t (standing new.state t).scan left
own_noted s xs t o reply.None new are left = none_left xs t (standing new.state t).scan left
own_noted s xs t o (reply.Rows rows) new are left = none_left xs t (standing new.state t).scan left
own_noted s xs t o reply.Done new are left = none_left xs t (standing new.state t).scan left
own_noted s xs t o reply.Duplicate new are left = none_left xs t (standing new.state t).scan left
own_noted s xs t o (reply.Deleted v) new are left = none_left xs t (standing new.state t).scan left
own_noted s xs t o reply.Absent new are left = none_left xs t (standing new.state t).scan left
own_noted s xs t o (reply.Updated v) new are left = none_left xs t (standing new.state t).scan left
own_noted s xs t o reply.Committed new are left = none_left xs t (standing new.state t).scan left
own_noted s xs t o reply.Aborted new are left = none_left xs t (standing new.state t).scan left
own_noted s xs t o (reply.Undone n) new are left = none_left xs t (standing new.state t).scan left

pub silent_noted : (xs : List Progress) (t : ℕ) (o : Op) (a : Reply) → is_granted a ≡ false → noted_after xs t o a ≡ xs
silent_noted xs t o (reply.Blocked us) g = refl
silent_noted xs t o (reply.Refused r) g = refl
silent_noted xs t o _ g = absurd (cc)

still_none : (xs : List Progress) (t : ℕ) (o : Op) (a : Reply) → is_plain a ≡ true → is_going a ≡ false → noted_of (noted_after xs t o a) t ≡ None
still_none xs t o (reply.Going k) plain stops = absurd (cc)
still_none xs t o (reply.Blocked us) plain stops = absurd (cc)
still_none xs t o (reply.Refused r) plain stops = absurd (cc)
still_none xs t o _ plain stops = forgot_same xs t

-- What lines say --

-- The step is what the line says, or goes on with the scan that the line says.
abbrev pub IsSaid : Op → Op → Option Progress → Type 0
IsSaid said o was = (said ≡ o) ⊎ ((o ≡ op.Go) × ((c : Progress) × ((was ≡ Some c) × (said ≡ op.Scan c.lo c.hi))))

pub said_same : (said o : Op) (was : Option Progress) → (o ≡ op.Go → ⊥) → IsSaid said o was → said ≡ o
said_same said o was goes (inl e) = e
said_same said o was goes (inr h) = absurd (goes h.0)

not_going : (s : GhostState) (t : ℕ) (o : Op) (a : Reply) (new : GhostState) → Leaves s t o a new → (IsOfScan (standing s.state t).scan o → ⊥) → is_going a ≡ false
not_going s t o (reply.Going k) new left isnt = absurd (isnt left.0)
not_going s t o _ new left isnt = refl

module _ (p : GhostProtocol) (s : GhostState) (xs : List Progress) (t : ℕ) (said : Op) (os : List Answered) (x : Tale) (b : Observed) (are : IsNoted (standing s.state t).scan (noted_of xs t)) where
  left_by : (o : Op) (a : Reply) (new : GhostState) → ◌≡◌ {A = Outcome} (a, new) (step p s t o) → Leaves s t o a new
  left_by o a new is = subst (λ (d : Outcome). LeavesBy s t o d) (sym is) (step_leaves p s t o)

  none_before : (o : Op) (a : Reply) (new : GhostState) → ◌≡◌ {A = Outcome} (a, new) (step p s t o) → is_plain a ≡ true → goes_on o ≡ false → noted_of xs t ≡ None
  none_before o a new is g e =
      none_noted (standing s.state t).scan (noted_of xs t) (rests p s t o (ap is_granted (sym (ap (λ (d : Outcome). d.0) is)) ∙ plain_granted a g) e) are

  -- One that is no scan.
  other_tale : (o : Op) (a : Reply) (new : GhostState) → ◌≡◌ {A = Outcome} (a, new) (step p s t o) → (IsOfScan (standing s.state t).scan o → ⊥) → goes_on o ≡ false → (o ≡ op.Go → ⊥)
      → tale_after x o b ≡ given x (o, b) → is_plain a ≡ true → IsSaid said o (noted_of xs t) → fits a b ≡ true → IsTale (noted_of xs t) os x
      → IsTale (noted_of (noted_after xs t o a) t) (os ++ (o, a) ∷ []) (tale_after x said b)
  other_tale o a new is isnt e go tells g say f k =
      subst (λ z. IsTale (noted_of (noted_after xs t o a) t) (os ++ (o, a) ∷ []) z) (sym (ap (λ z. tale_after x z b) (said_same said o (noted_of xs t) go say) ∙ tells))
      (tale_more (noted_of xs t) (noted_of (noted_after xs t o a) t) os x o a b (none_before o a new is g e)
      (still_none xs t o a g (not_going s t o a new (left_by o a new is) isnt)) f k)

  begun_tale : (lo hi j k : ℕ) → noted_of xs t ≡ None → said ≡ op.Scan lo hi → b ≡ observed.Going j → IsTale (noted_of xs t) os x
      → IsTale (noted_of (noted_after xs t (op.Scan lo hi) (reply.Going k)) t) (os ++ (op.Scan lo hi, reply.Going k) ∷ []) (tale_after x said b)
  begun_tale lo hi j k none say told h =
      subst (λ z. IsTale (noted_of (noted_after xs t (op.Scan lo hi) (reply.Going k)) t) (os ++ (op.Scan lo hi, reply.Going k) ∷ []) z) (sym (ap₂ (λ u v. tale_after x u v) say told))
      (scan_begun (noted_of xs t) (noted_of (noted_after xs t (op.Scan lo hi) (reply.Going k)) t) os x (reply.Going k) (record { txn = t; lo = lo; hi = hi; read = k }) (Some (lo, hi)) none (now_scan xs t lo hi k) (inr refl) h)

  -- A scan that begins.
  scan_tale : (lo hi : ℕ) (a : Reply) (new : GhostState) (going : Bool) → is_going a ≡ going → ◌≡◌ {A = Outcome} (a, new) (step p s t (op.Scan lo hi)) → is_plain a ≡ true
      → IsSaid said (op.Scan lo hi) (noted_of xs t) → fits a b ≡ true → IsTale (noted_of xs t) os x → IsTale (noted_of (noted_after xs t (op.Scan lo hi) a) t) (os ++ (op.Scan lo hi, a) ∷ []) (tale_after x said b)
  scan_tale lo hi (reply.Going k) new true e is g say f h =
      let told = going_given k b f in
      begun_tale lo hi told.0 k (none_before (op.Scan lo hi) (reply.Going k) new is refl refl) (said_same said (op.Scan lo hi) (noted_of xs t) (λ d. cc) say) told.1 h
  scan_tale lo hi _ new true e is g say f h = absurd (cc)
  scan_tale lo hi a new false e is g say f h =
      subst (λ z. IsTale (noted_of (noted_after xs t (op.Scan lo hi) a) t) (os ++ (op.Scan lo hi, a) ∷ []) z)
      (sym (ap (λ z. tale_after x z b) (said_same said (op.Scan lo hi) (noted_of xs t) (λ d. cc) say) ∙ scan_done x lo hi a b e f))
      (tale_more (noted_of xs t) (noted_of (noted_after xs t (op.Scan lo hi) a) t) os x (op.Scan lo hi) a b (none_before (op.Scan lo hi) a new is g refl) (still_none xs t (op.Scan lo hi) a g e) f h)

  -- A scan that goes on.
  gone_tale : (j k : ℕ) (c : Progress) → noted_of xs t ≡ Some c → IsSaid said op.Go (noted_of xs t) → b ≡ observed.Going j → IsTale (noted_of xs t) os x
      → IsTale (noted_of (noted_after xs t op.Go (reply.Going k)) t) os (tale_after x said b)
  gone_tale j k c was (inl say) told h =
      subst (λ z. IsTale (noted_of (noted_after xs t op.Go (reply.Going k)) t) os z) (sym (ap₂ (λ u v. tale_after x u v) say told))
      (scan_gone (noted_of xs t) (noted_of (noted_after xs t op.Go (reply.Going k)) t) os x c t k x.scan was (now_gone xs t k c was) (inl refl) h)
  gone_tale j k c was (inr say) told h =
      let d : Progress = say.1.0 in
      subst (λ z. IsTale (noted_of (noted_after xs t op.Go (reply.Going k)) t) os z) (sym (ap₂ (λ u v. tale_after x u v) say.1.1.1 told))
      (scan_gone (noted_of xs t) (noted_of (noted_after xs t op.Go (reply.Going k)) t) os x d t k (Some (d.lo, d.hi)) say.1.1.0 (now_gone xs t k d say.1.1.0) (inr refl) h)

  -- A scan that ends.
  ended_tale : (rows : List (ℕ × ℕ)) (c : Progress) → noted_of xs t ≡ Some c → IsSaid said op.Go (noted_of xs t) → fits (reply.Rows rows) b ≡ true → IsTale (noted_of xs t) os x
      → IsTale (noted_of (noted_after xs t op.Go (reply.Rows rows)) t) (with_step os op.Go (reply.Rows rows)) (tale_after x said b)
  ended_tale rows c was (inl say) f h =
      subst (λ z. IsTale now (with_step os op.Go (reply.Rows rows)) z) (sym (ap (λ z. tale_after x z b) say ∙ go_done x (reply.Rows rows) b refl f))
      (by (range_given (noted_of xs t) os x c was h))
    where
      now : Option Progress
      now = noted_of (noted_after xs t op.Go (reply.Rows rows)) t

      by : IsScanGiven c x.scan → IsTale now (with_step os op.Go (reply.Rows rows)) (scan_given x x.scan b)
      by (inl none) =
          subst (λ z. IsTale now (with_step os op.Go (reply.Rows rows)) (scan_given x z b)) (sym none)
          (scan_ended_no_tale (noted_of xs t) now os x c (reply.Rows rows) was (forgot_same xs t) none h)
      by (inr is) =
          subst (λ z. IsTale now (with_step os op.Go (reply.Rows rows)) (scan_given x z b)) (sym is)
          (scan_ended (noted_of xs t) now os x c (reply.Rows rows) b was (forgot_same xs t) f h)
  ended_tale rows c was (inr say) f h =
      let d : Progress = say.1.0 in
      subst (λ z. IsTale (noted_of (noted_after xs t op.Go (reply.Rows rows)) t) (with_step os op.Go (reply.Rows rows)) z) (sym (ap (λ z. tale_after x z b) say.1.1.1 ∙ scan_done x d.lo d.hi (reply.Rows rows) b refl f))
      (scan_ended (noted_of xs t) (noted_of (noted_after xs t op.Go (reply.Rows rows)) t) os x d (reply.Rows rows) b say.1.1.0 (forgot_same xs t) f h)

  noted_before : (a : Reply) (new : GhostState) → ◌≡◌ {A = Outcome} (a, new) (step p s t op.Go) → is_plain a ≡ true → (c : Progress) × (noted_of xs t ≡ Some c)
  noted_before a new is g =
      let was = goes p s t (ap is_granted (sym (ap (λ (d : Outcome). d.0) is)) ∙ plain_granted a g) in
      let c = some_noted was.0 (standing s.state t).scan (noted_of xs t) was.1 are in
      (c.0, c.1.0)

  go_tale : (a : Reply) (new : GhostState) → ◌≡◌ {A = Outcome} (a, new) (step p s t op.Go) → IsScanReply a → is_plain a ≡ true → IsSaid said op.Go (noted_of xs t) → fits a b ≡ true → IsTale (noted_of xs t) os x
      → IsTale (noted_of (noted_after xs t op.Go a) t) (with_step os op.Go a) (tale_after x said b)
  go_tale (reply.Going k) new is r g say f h =
      let told = going_given k b f in
      let c = noted_before (reply.Going k) new is refl in
      gone_tale told.0 k c.0 c.1 say told.1 h
  go_tale (reply.Rows rows) new is r g say f h = let c = noted_before (reply.Rows rows) new is refl in ended_tale rows c.0 c.1 say f h
  go_tale (reply.Blocked us) new is r g say f h = absurd (cc)
  go_tale (reply.Refused e) new is r g say f h = absurd (cc)
  go_tale _ new is r g say f h = absurd r

  -- A step with a plain reply.
  pub plain_tale : (o : Op) (a : Reply) (new : GhostState) → ◌≡◌ {A = Outcome} (a, new) (step p s t o) → is_plain a ≡ true → IsSaid said o (noted_of xs t) → fits a b ≡ true → IsTale (noted_of xs t) os x
      → IsTale (noted_of (noted_after xs t o a) t) (with_step os o a) (tale_after x said b)
  plain_tale (op.Fetch k) a new is g say f h = other_tale (op.Fetch k) a new is (λ r. r) refl (λ d. cc) refl g say f h
  plain_tale (op.Insert k v) a new is g say f h = other_tale (op.Insert k v) a new is (λ r. r) refl (λ d. cc) refl g say f h
  plain_tale (op.Delete k) a new is g say f h = other_tale (op.Delete k) a new is (λ r. r) refl (λ d. cc) refl g say f h
  plain_tale (op.Update k v) a new is g say f h = other_tale (op.Update k v) a new is (λ r. r) refl (λ d. cc) refl g say f h
  plain_tale op.Commit a new is g say f h = other_tale op.Commit a new is (λ r. r) refl (λ d. cc) refl g say f h
  plain_tale (op.Scan lo hi) a new is g say f h = scan_tale lo hi a new (is_going a) refl is g say f h
  plain_tale op.Go a new is g say f h = go_tale a new is (subst IsScanReply (sym (ap (λ (d : Outcome). d.0) is)) (go_replies p s t)) g say f h
  plain_tale op.Abort a new is g say f h = absurd (let never : is_plain a ≡ false = ap (λ (d : Outcome). is_plain d.0) is ∙ abort_plain p s t in cc)
  plain_tale op.Back a new is g say f h = absurd (let never : is_plain a ≡ false = ap (λ (d : Outcome). is_plain d.0) is ∙ back_plain p s t in cc)

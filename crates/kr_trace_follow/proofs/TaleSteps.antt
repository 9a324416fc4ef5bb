-- What a step of t does to what lines say of it.
use Rattle.std.specs.Prelude.{◌≡◌, ℕ, Bool, true, false, List, [], ◌∷◌, ◌++◌, Option, Some, None, unwrap_or, refl, ◌⊎◌}
use Rattle.std.proofs.Common.{sym, ◌∙◌, ap, ap₂, subst, inl, inr}
use Rattle.kr_model.specs.declared.Op.{Op}
use Rattle.kr_model.specs.declared.Op.TheVariants as op
use Rattle.kr_model.specs.declared.Reply.{Reply}
use Rattle.kr_model.specs.declared.Reply.TheVariants as reply
use Rattle.kr_model.specs.Protocol.{Protocol}
use Rattle.kr_model.specs.Log.{with_step}
use Rattle.kr_model.specs.Run.{Answered, is_granted}
use Rattle.kr_model.specs.State.{Scan, State, standing}
use Rattle.kr_model.specs.Step.{Outcome, step, refusal_of, goes_on}
use Rattle.kr_trace_lines.specs.declared.observed.Observed.{Observed}
use Rattle.kr_trace_lines.specs.declared.observed.Observed.TheVariants as observed
use Rattle.kr_trace_lines.specs.Fits.{fits}
use Rattle.kr_trace_follow.specs.Programs.{Tale, given, scan_given, tale_after}
use Rattle.kr_trace_follow.specs.Steps.{is_going}
use Rattle.kr_trace_follow.proofs.ScanSteps.{HasRange, GoesOn, Leaves, step_leaves}
use Rattle.kr_trace_follow.proofs.TaleLaws.{IsTale, IsScanGiven, tale_at, tale_more, scan_begun, scan_gone, scan_ended as ended_given, scan_ended_no_tale, range_given}
use Rattle.kr_trace_follow.proofs.StepReplies.{rests, goes, is_plain, plain_granted, abort_plain, back_plain, IsScanReply, go_replies}

-- Where no scan is in progress after a step --

none_after : (s : State) (t : ℕ) (o : Op) (a : Reply) (new : State) → ((c : Scan) → HasRange (standing s t).scan o c → ⊥) → is_plain a ≡ true → Leaves s t o a new → (standing new t).scan ≡ None
none_after s t o (reply.Going k) new ranges g left = absurd (ranges left.scan left.range)
none_after s t o (reply.Blocked us) new ranges g left = absurd (cc)
none_after s t o (reply.Refused r) new ranges g left = absurd (cc)
none_after s t o reply.Committed new ranges g left = left
none_after s t o reply.Aborted new ranges g left = left
none_after s t o (reply.Undone n) new ranges g left = left
none_after s t o (reply.Found v) new ranges g left = left
none_after s t o reply.None new ranges g left = left
none_after s t o (reply.Rows rows) new ranges g left = left
none_after s t o reply.Done new ranges g left = left
none_after s t o reply.Duplicate new ranges g left = left
none_after s t o (reply.Deleted v) new ranges g left = left
none_after s t o reply.Absent new ranges g left = left
none_after s t o (reply.Updated v) new ranges g left = left

ended_after : (s : State) (t : ℕ) (o : Op) (a : Reply) (new : State) → is_going a ≡ false → is_plain a ≡ true → Leaves s t o a new → (standing new t).scan ≡ None
ended_after s t o (reply.Going k) new stops g left = absurd (cc)
ended_after s t o (reply.Blocked us) new stops g left = absurd (cc)
ended_after s t o (reply.Refused r) new stops g left = absurd (cc)
ended_after s t o reply.Committed new stops g left = left
ended_after s t o reply.Aborted new stops g left = left
ended_after s t o (reply.Undone n) new stops g left = left
ended_after s t o (reply.Found v) new stops g left = left
ended_after s t o reply.None new stops g left = left
ended_after s t o (reply.Rows rows) new stops g left = left
ended_after s t o reply.Done new stops g left = left
ended_after s t o reply.Duplicate new stops g left = left
ended_after s t o (reply.Deleted v) new stops g left = left
ended_after s t o reply.Absent new stops g left = left
ended_after s t o (reply.Updated v) new stops g left = left

-- What lines say --

-- The step is what the line says, or goes on with the scan that the line says.
abbrev pub IsSaid : Op → Op → Option Scan → Type 0
IsSaid said o was = (said ≡ o) ⊎ ((o ≡ op.Go) × ((c : Scan) × ((was ≡ Some c) × (said ≡ op.Scan c.lo c.hi))))

said_same : (said o : Op) (was : Option Scan) → (o ≡ op.Go → ⊥) → IsSaid said o was → said ≡ o
said_same said o was goes (inl e) = e
said_same said o was goes (inr h) = absurd (goes h.0)

pub going_given : (k : ℕ) (b : Observed) → fits (reply.Going k) b ≡ true → (j : ℕ) × (b ≡ observed.Going j)
going_given k (observed.Going j) f = (j, refl)
going_given k _ f = absurd (cc)

pub scan_done : (x : Tale) (lo hi : ℕ) (a : Reply) (b : Observed) → is_going a ≡ false → fits a b ≡ true → tale_after x (op.Scan lo hi) b ≡ given x (op.Scan lo hi, b)
scan_done x lo hi (reply.Going j) (observed.Going k) g f = absurd (cc)
scan_done x lo hi _ (observed.Going k) g f = absurd (cc)
scan_done x lo hi a _ g f = refl

pub go_done : (x : Tale) (a : Reply) (b : Observed) → is_going a ≡ false → fits a b ≡ true → tale_after x op.Go b ≡ scan_given x x.scan b
go_done x (reply.Going j) (observed.Going k) g f = absurd (cc)
go_done x _ (observed.Going k) g f = absurd (cc)
go_done x a _ g f = refl

some_scan : (was : Option Scan) (b c : Scan) → was ≡ Some b → was ≡ Some c → b ≡ c
some_scan was b c e f = ap (λ o. unwrap_or o b) (sym e ∙ f)

-- The step of t with its reply, and what was observed of it.
module _ (p : Protocol) (s : State) (t : ℕ) (said : Op) (os : List Answered) (x : Tale) (b : Observed) where
  -- One that is no scan.
  other_tale : (o : Op) (a : Reply) (new : State) → ◌≡◌ {A = Outcome} (a, new) (step p s t o) → ((c : Scan) → HasRange (standing s t).scan o c → ⊥) → goes_on o ≡ false → (o ≡ op.Go → ⊥)
      → tale_after x o b ≡ given x (o, b) → is_plain a ≡ true → IsSaid said o (standing s t).scan → fits a b ≡ true → IsTale (standing s t).scan os x
      → IsTale (standing new t).scan (os ++ (o, a) ∷ []) (tale_after x said b)
  other_tale o a new is ranges e go tells g say f k =
      let left : Leaves s t o a new = subst (λ (d : Outcome). Leaves s t o d.0 d.1) (sym is) (step_leaves p s t o) in
      let was = rests p s t o (ap is_granted (sym (ap (λ (d : Outcome). d.0) is)) ∙ plain_granted a g) e in
      subst (λ z. IsTale (standing new t).scan (os ++ (o, a) ∷ []) z) (sym (ap (λ z. tale_after x z b) (said_same said o (standing s t).scan go say) ∙ tells))
      (tale_more (standing s t).scan (standing new t).scan os x o a b was (none_after s t o a new ranges g left) f k)

  begun_tale : (lo hi j k : ℕ) (new : State) → (standing s t).scan ≡ None → said ≡ op.Scan lo hi → b ≡ observed.Going j → GoesOn (standing s t).scan (op.Scan lo hi) k (standing new t).scan
      → IsTale (standing s t).scan os x → IsTale (standing new t).scan (os ++ (op.Scan lo hi, reply.Going k) ∷ []) (tale_after x said b)
  begun_tale lo hi j k new was say given_is g h =
      subst (λ z. IsTale (standing new t).scan (os ++ (op.Scan lo hi, reply.Going k) ∷ []) z) (sym (ap₂ (λ u v. tale_after x u v) say given_is))
      (scan_begun (standing s t).scan (standing new t).scan os x lo hi (reply.Going k) g.scan (Some (lo, hi)) was g.is g.range.0 g.range.1 (inr refl) h)

  -- A scan that begins.
  scan_tale : (lo hi : ℕ) (a : Reply) (new : State) (going : Bool) → is_going a ≡ going → ◌≡◌ {A = Outcome} (a, new) (step p s t (op.Scan lo hi)) → is_plain a ≡ true
      → IsSaid said (op.Scan lo hi) (standing s t).scan → fits a b ≡ true → IsTale (standing s t).scan os x → IsTale (standing new t).scan (os ++ (op.Scan lo hi, a) ∷ []) (tale_after x said b)
  scan_tale lo hi (reply.Going k) new true e is g say f h =
      let left : Leaves s t (op.Scan lo hi) (reply.Going k) new = subst (λ (d : Outcome). Leaves s t (op.Scan lo hi) d.0 d.1) (sym is) (step_leaves p s t (op.Scan lo hi)) in
      let was = rests p s t (op.Scan lo hi) (ap is_granted (sym (ap (λ (d : Outcome). d.0) is))) refl in
      let given_is = going_given k b f in
      begun_tale lo hi given_is.0 k new was (said_same said (op.Scan lo hi) (standing s t).scan (λ d. cc) say) given_is.1 left h
  scan_tale lo hi _ new true e is g say f h = absurd (cc)
  scan_tale lo hi a new false e is g say f h =
      let left : Leaves s t (op.Scan lo hi) a new = subst (λ (d : Outcome). Leaves s t (op.Scan lo hi) d.0 d.1) (sym is) (step_leaves p s t (op.Scan lo hi)) in
      let was = rests p s t (op.Scan lo hi) (ap is_granted (sym (ap (λ (d : Outcome). d.0) is)) ∙ plain_granted a g) refl in
      subst (λ z. IsTale (standing new t).scan (os ++ (op.Scan lo hi, a) ∷ []) z)
      (sym (ap (λ z. tale_after x z b) (said_same said (op.Scan lo hi) (standing s t).scan (λ d. cc) say) ∙ scan_done x lo hi a b e f))
      (tale_more (standing s t).scan (standing new t).scan os x (op.Scan lo hi) a b was (ended_after s t (op.Scan lo hi) a new e g left) f h)

  -- A scan that goes on.
  gone_tale : (j k : ℕ) (new : State) → IsSaid said op.Go (standing s t).scan → b ≡ observed.Going j → GoesOn (standing s t).scan op.Go k (standing new t).scan
      → IsTale (standing s t).scan os x → IsTale (standing new t).scan os (tale_after x said b)
  gone_tale j k new (inl say) given_is g h =
      let r = g.range in
      subst (λ z. IsTale (standing new t).scan os z) (sym (ap₂ (λ u v. tale_after x u v) say given_is))
      (scan_gone (standing s t).scan (standing new t).scan os x r.0 g.scan x.scan r.1.0 g.is r.1.1.0 r.1.1.1 (inl refl) h)
  gone_tale j k new (inr say) given_is g h =
      let r = g.range in
      let same : r.0 ≡ say.1.0 = some_scan (standing s t).scan r.0 say.1.0 r.1.0 say.1.1.0 in
      subst (λ z. IsTale (standing new t).scan os z) (sym (ap₂ (λ u v. tale_after x u v) (say.1.1.1 ∙ sym (ap (λ (c : Scan). op.Scan c.lo c.hi) same)) given_is))
      (scan_gone (standing s t).scan (standing new t).scan os x r.0 g.scan (Some (r.0.lo, r.0.hi)) r.1.0 g.is r.1.1.0 r.1.1.1 (inr refl) h)

  -- A scan that ends.
  ended_tale : (rows : List (ℕ × ℕ)) (new : State) (c : Scan) → (standing s t).scan ≡ Some c → (standing new t).scan ≡ None → IsSaid said op.Go (standing s t).scan → fits (reply.Rows rows) b ≡ true
      → IsTale (standing s t).scan os x → IsTale (standing new t).scan (with_step os op.Go (reply.Rows rows)) (tale_after x said b)
  ended_tale rows new c was now (inl say) f h =
      subst (λ z. IsTale (standing new t).scan (with_step os op.Go (reply.Rows rows)) z) (sym (ap (λ z. tale_after x z b) say ∙ go_done x (reply.Rows rows) b refl f))
      (by (range_given (standing s t).scan os x c was h))
    where
      by : IsScanGiven c x.scan → IsTale (standing new t).scan (with_step os op.Go (reply.Rows rows)) (scan_given x x.scan b)
      by (inl none) =
          subst (λ z. IsTale (standing new t).scan (with_step os op.Go (reply.Rows rows)) (scan_given x z b)) (sym none)
          (scan_ended_no_tale (standing s t).scan (standing new t).scan os x c (reply.Rows rows) was now none h)
      by (inr is) =
          subst (λ z. IsTale (standing new t).scan (with_step os op.Go (reply.Rows rows)) (scan_given x z b)) (sym is)
          (ended_given (standing s t).scan (standing new t).scan os x c c.lo c.hi (reply.Rows rows) b was now refl refl f h)
  ended_tale rows new c was now (inr say) f h =
      let d = say.1.0 in
      subst (λ z. IsTale (standing new t).scan (with_step os op.Go (reply.Rows rows)) z) (sym (ap (λ z. tale_after x z b) say.1.1.1 ∙ scan_done x d.lo d.hi (reply.Rows rows) b refl f))
      (ended_given (standing s t).scan (standing new t).scan os x d d.lo d.hi (reply.Rows rows) b say.1.1.0 now refl refl f h)

  go_tale : (a : Reply) (new : State) → ◌≡◌ {A = Outcome} (a, new) (step p s t op.Go) → IsScanReply a → is_plain a ≡ true
      → IsSaid said op.Go (standing s t).scan → fits a b ≡ true → IsTale (standing s t).scan os x → IsTale (standing new t).scan (with_step os op.Go a) (tale_after x said b)
  go_tale (reply.Going k) new is r g say f h =
      let left : Leaves s t op.Go (reply.Going k) new = subst (λ (d : Outcome). Leaves s t op.Go d.0 d.1) (sym is) (step_leaves p s t op.Go) in
      let given_is = going_given k b f in
      gone_tale given_is.0 k new say given_is.1 left h
  go_tale (reply.Rows rows) new is r g say f h =
      let left : Leaves s t op.Go (reply.Rows rows) new = subst (λ (d : Outcome). Leaves s t op.Go d.0 d.1) (sym is) (step_leaves p s t op.Go) in
      let was = goes p s t (ap is_granted (sym (ap (λ (d : Outcome). d.0) is))) in
      ended_tale rows new was.0 was.1 left say f h
  go_tale (reply.Blocked us) new is r g say f h = absurd (cc)
  go_tale (reply.Refused e) new is r g say f h = absurd (cc)
  go_tale _ new is r g say f h = absurd r

  -- A step with a plain reply.
  pub plain_tale : (o : Op) (a : Reply) (new : State) → ◌≡◌ {A = Outcome} (a, new) (step p s t o) → is_plain a ≡ true
      → IsSaid said o (standing s t).scan → fits a b ≡ true → IsTale (standing s t).scan os x → IsTale (standing new t).scan (with_step os o a) (tale_after x said b)
  plain_tale (op.Fetch k) a new is g say f h = other_tale (op.Fetch k) a new is (λ c r. r) refl (λ d. cc) refl g say f h
  plain_tale (op.Insert k v) a new is g say f h = other_tale (op.Insert k v) a new is (λ c r. r) refl (λ d. cc) refl g say f h
  plain_tale (op.Delete k) a new is g say f h = other_tale (op.Delete k) a new is (λ c r. r) refl (λ d. cc) refl g say f h
  plain_tale (op.Update k v) a new is g say f h = other_tale (op.Update k v) a new is (λ c r. r) refl (λ d. cc) refl g say f h
  plain_tale op.Commit a new is g say f h = other_tale op.Commit a new is (λ c r. r) refl (λ d. cc) refl g say f h
  plain_tale (op.Scan lo hi) a new is g say f h = scan_tale lo hi a new (is_going a) refl is g say f h
  plain_tale op.Go a new is g say f h =
      go_tale a new is (subst IsScanReply (sym (ap (λ (d : Outcome). d.0) is)) (go_replies p s t (refusal_of p s t op.Go))) g say f h
  plain_tale op.Abort a new is g say f h = absurd (let never : is_plain a ≡ false = ap (λ (d : Outcome). is_plain d.0) is ∙ abort_plain p s t in cc)
  plain_tale op.Back a new is g say f h = absurd (let never : is_plain a ≡ false = ap (λ (d : Outcome). is_plain d.0) is ∙ back_plain p s t in cc)

-- A scan that goes on and of which lines say nothing.
pub passed_tale : (p : Protocol) (s : State) (t : ℕ) (o : Op) (k : ℕ) (new : State) (os : List Answered) (x : Tale) → ◌≡◌ {A = Outcome} (reply.Going k, new) (step p s t o) → GoesOn (standing s t).scan o k (standing new t).scan
    → IsTale (standing s t).scan os x → IsTale (standing new t).scan (with_step os o (reply.Going k)) x
passed_tale p s t (op.Scan lo hi) k new os x is g h =
    let was = rests p s t (op.Scan lo hi) (ap is_granted (sym (ap (λ (d : Outcome). d.0) is))) refl in
    scan_begun (standing s t).scan (standing new t).scan os x lo hi (reply.Going k) g.scan x.scan was g.is g.range.0 g.range.1 (inl (tale_at (standing s t).scan None os x was h).1) h
passed_tale p s t op.Go k new os x is g h =
    let r = g.range in
    scan_gone (standing s t).scan (standing new t).scan os x r.0 g.scan x.scan r.1.0 g.is r.1.1.0 r.1.1.1 (inl refl) h
passed_tale p s t _ k new os x is g h = absurd g.range

-- After it the scan that the line says is in progress.
pub said_on : (said o : Op) (k : ℕ) (was now : Option Scan) → IsSaid said o was → GoesOn was o k now → IsSaid said op.Go now
said_on said (op.Scan lo hi) k was now say g =
    inr (refl, (g.scan, (g.is, said_same said (op.Scan lo hi) was (λ d. cc) say ∙ ap₂ (λ u v. op.Scan u v) (sym g.range.0) (sym g.range.1))))
said_on said op.Go k was now (inl say) g = inl say
said_on said op.Go k was now (inr say) g =
    let r = g.range in
    let same : say.1.0 ≡ r.0 = some_scan was say.1.0 r.0 say.1.1.0 r.1.0 in
    inr (refl, (g.scan, (g.is, say.1.1.1 ∙ ap (λ (c : Scan). op.Scan c.lo c.hi) same ∙ ap₂ (λ u v. op.Scan u v) (sym r.1.1.0) (sym r.1.1.1))))
said_on said _ k was now say g = absurd g.range

-- Two requests of one attempt: on a key and on the next name.
use Rattle.std.proofs.Common.{ℕ, ◌++◌, ◌≤◌, ◌≡◌, ◌≢◌, ◌⊎◌, inl, refl, sym, ◌∙◌, Bool, false, subst}
use Rattle.std.specs.Prelude.{Some}
use Rattle.kr_model.specs.declared.Name.{Name}
use Rattle.kr_model.specs.declared.Row.{Row}
use Rattle.kr_model.specs.declared.Side.{Side}
use Rattle.kr_model.specs.declared.Side.TheVariants.{Current, Next}
use Rattle.kr_model.specs.Protocol.{Protocol, IsLawful}
use Rattle.kr_model.specs.Map.{Map}
use Rattle.kr_model.specs.Locks.{Locks, own, kept}
use Rattle.kr_model.proofs.Guarantees.{Conflicts}
use Rattle.kr_model.proofs.Requests.{request_at}
use Rattle.kr_theorem.proofs.step.Parts.{Parts}
use Rattle.kr_theorem.proofs.step.Covers.{Modes, Granted}
use Rattle.kr_theorem.proofs.step.Guarded.{Taken}
use Rattle.kr_theorem.proofs.step.Invariant.{Invariant}
use Rattle.kr_model.specs.declared.LockState.{LockState}
use Rattle.kr_model.specs.Safe.{free, start, given, asked, after, MayAsk, MayBeside, Beside, IsSafe}
use Rattle.kr_theorem.proofs.safe.Shape.{shape}
use Rattle.kr_theorem.proofs.safe.Holding.{Holds, modes, with_hold, with_same, with_other, by_hold, Paired, IsVoid, alone_live, move_at, taken_at}
use Rattle.kr_theorem.proofs.safe.Kept.{kept_append, here, elsewhere}
use Rattle.kr_theorem.proofs.safe.Sim.{rolls, Sim}

-- Two requests --

taken_both : (p : Protocol) (a b c : Modes) (t : ℕ) → Taken p a b t → Taken p b c t → Taken p a c t
taken_both p a b c t x y = record {
  range = y.range;
  others = λ u ne n. y.others u ne n ∙ x.others u ne n;
  keeps = λ n d s. y.keeps n d (x.keeps n d s);
}

granted_as : (p : Protocol) (own' own'' : Modes) (t : ℕ) (r : Row) (s : Side) (n : Name) (on : ℕ) → ((u : ℕ) → own'' u n ≡ own' u n) → Granted p own' t r s n on → Granted p own'' t r s n on
granted_as p own' own'' t r s n on same g u ne conflict =
    g u ne (subst (λ h. Conflicts p h (own' t n) (p.ask r s on)) (same u) (subst (λ o. Conflicts p (own'' u n) o (p.ask r s on)) (same t) conflict))

module _ (p : Protocol) (laws : IsLawful p) (rolling : ℕ → Bool) (l : Locks) (hold : Holds) (k : Paired p rolling l hold) (range : (u : ℕ) (n : Name) → own l u n ≤ p.count) (t : ℕ) (live : rolling t ≡ false)
    (r : Row) (y x : Name) (apart : x ≡ y → ⊥) where
  abbrev pub first : LockState
  first = after p r Current (hold t y) (hold t x)

  abbrev pub second : LockState
  second = after p r Next (hold t x) free

  abbrev pub one_hold : Holds
  one_hold = with_hold hold t y first

  abbrev pub two_holds : Holds
  two_holds = with_hold one_hold t x second

  abbrev pub one_lock : Locks
  one_lock = kept p l t (request_at (Some y) (asked p r Current (hold t y) (hold t x)))

  abbrev pub two_locks : Locks
  two_locks = kept p l t (request_at (Some y) (asked p r Current (hold t y) (hold t x)) ++ request_at (Some x) (asked p r Next (hold t x) free))

  pub still : one_hold t x ≡ hold t x
  still = with_other hold t y first t x (λ e. apart e.1)

  pub two_first : two_holds t y ≡ first
  two_first = with_other one_hold t x second t y (λ e. apart (sym e.1)) ∙ with_same hold t y first

  pub two_second : two_holds t x ≡ second
  two_second = with_same one_hold t x second

  pub two_others : (u : ℕ) (n : Name) → u ≢ t → two_holds u n ≡ hold u n
  two_others u n ne = with_other one_hold t x second u n (λ e. ne e.0) ∙ with_other hold t y first u n (λ e. ne e.0)

  -- A property of both new lock states of t and of all its others is one of every lock state of t.
  pub by_two : (P : Name → LockState → Type 0) → P y first → P x second → ((n : Name) → (n ≡ y → ⊥) → (n ≡ x → ⊥) → P n (hold t n)) → (n : Name) → P n (two_holds t n)
  by_two P a b others n =
      (by_hold (λ u w h. u ≡ t → P w h) one_hold t x second (λ e. b)
      (λ u w d e. subst (λ v. P w (one_hold v w)) (sym e) ((by_hold (λ v z h. v ≡ t → (z ≡ x → ⊥) → P z h) hold t y first (λ f g. a)
      (λ v z c f g. subst (λ q. P z (hold q z)) (sym f) (others z (λ h. c (f, h)) g)) t w) refl (λ h. d (e, h)))) t n) refl

  pub two_taken : Taken shape (modes hold) (modes two_holds) t
  two_taken = taken_both shape (modes hold) (modes one_hold) (modes two_holds) t (taken_at p hold t r Current y (hold t x))
      (subst (λ h. Taken shape (modes one_hold) (modes (with_hold one_hold t x (after p r Next h free))) t) still (taken_at p one_hold t r Next x free))

  module _ (reached : Beside p (hold t x) free) (may_first : MayAsk p r Current (hold t y) (hold t x)) (may_second : MayAsk p r Next (hold t x) free)
      (clear : (u : ℕ) → u ≢ t → MayBeside p r Current (hold u y) ⊎ IsVoid (rolling u) (hold u y)) (any : (u : ℕ) → MayBeside p r Next (hold u x))
      (granted_first : Granted p (own l) t r Current y (given r Current (hold t y) (hold t x))) (granted_second : Granted p (own l) t r Next x (given r Next (hold t x) free))
      (in_first : given r Current (hold t y) (hold t x) ≤ p.count) (in_second : given r Next (hold t x) free ≤ p.count) where
    one_paired : Paired p rolling one_lock one_hold
    one_paired = move_at p laws rolling l hold k t live r Current y (hold t x) reached may_first clear granted_first (range t y) in_first one_lock
        (here p l t y (asked p r Current (hold t y) (hold t x))) (λ u n d. elsewhere p l t y (asked p r Current (hold t y) (hold t x)) u n d)

    same_x : (u : ℕ) → own one_lock u x ≡ own l u x
    same_x u = elsewhere p l t y (asked p r Current (hold t y) (hold t x)) u x (λ e. apart e.1)

    pub two_paired : Paired p rolling two_locks two_holds
    two_paired = subst (λ (h : Locks). Paired p rolling h two_holds) (sym (kept_append p l t (request_at (Some y) (asked p r Current (hold t y) (hold t x))) (request_at (Some x) (asked p r Next (hold t x) free))))
        (subst (λ (h : LockState). Paired p rolling (kept p one_lock t (request_at (Some x) (asked p r Next h free))) (with_hold one_hold t x (after p r Next h free))) still
        (move_at p laws rolling one_lock one_hold one_paired t live r Next x free start
        (subst (λ h. MayAsk p r Next h free) (sym still) may_second)
        (λ u ne. inl (subst (λ h. MayBeside p r Next h) (sym (with_other hold t y first u x (λ e. ne e.0))) (any u)))
        (subst (λ h. Granted p (own one_lock) t r Next x (given r Next h free)) (sym still) (granted_as p (own l) (own one_lock) t r Next x (given r Next (hold t x) free) same_x granted_second))
        (subst (λ o. o ≤ p.count) (sym (same_x t)) (range t x))
        (subst (λ h. given r Next h free ≤ p.count) (sym still) in_second)
        (kept p one_lock t (request_at (Some x) (asked p r Next (one_hold t x) free)))
        (here p one_lock t x (asked p r Next (one_hold t x) free)) (λ u n d. elsewhere p one_lock t x (asked p r Next (one_hold t x) free) u n d)))

-- The transaction that requests --

module _ (p : Protocol) (laws : IsLawful p) (safe : IsSafe p) (m : Map) (l : Locks) (part : Parts) (hold : Holds) (c : Map) (i : Invariant shape m (modes hold) part c) (sim : Sim p m l part hold) (t : ℕ) (live : (part t).rolling ≡ false) (k : ℕ) where
  pub range : (u : ℕ) (n : Name) → own l u n ≤ p.count
  range u n = let z = sim.locks in z.within u n

  pub in_mode : (n : Name) → (hold t n).mode ≤ p.count
  in_mode n = let z = sim.paired in subst (λ o. o ≤ p.count) (sym (z.mode t n)) (range t n)

  pub reached : (n : Name) → Beside p (hold t n) free
  reached n = alone_live p (rolls part) l hold sim.paired t n live

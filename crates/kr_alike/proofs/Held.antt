-- What each two transactions hold on each name under two tables is in a closed set: kept where a request is granted under both, and where a transaction ends.
use Rattle.std.proofs.Common.{ℕ, suc, ◌≡◌, ◌⊎◌, inl, inr, refl, sym, ap, ◌∙◌, subst, arith}
use Rattle.std.specs.Prelude.{not, cond, Option, Some, None, unwrap_or}
use Rattle.std.specs.FinMap.{find}
use Rattle.kr_model.specs.declared.Name.{Name}
use Rattle.kr_model.specs.declared.Row.{Row}
use Rattle.kr_model.specs.declared.Side.{Side}
use Rattle.kr_model.specs.declared.Span.{Span}
use Rattle.kr_model.specs.Protocol.{Protocol}
use Rattle.kr_model.specs.Covers.{mode_after}
use Rattle.kr_model.specs.Locks.{Locks, holder_cmp, own, kept, release, AreWithin}
use Rattle.kr_model.proofs.Actives.{tied}
use Rattle.kr_model.proofs.LockLaws.{name_or_not, own-release_other, find-release}
use Rattle.kr_model.proofs.Requests.{request_at}
use Rattle.kr_theorem.proofs.safe.Kept.{here, elsewhere}
use Rattle.kr_alike.specs.declared.modes.Modes.{Modes}
use Rattle.kr_alike.specs.Closed.{none, IsClosedFor}

pub same_or_not : (t u : ℕ) → (t ≡ u) ⊎ (t ≡ u → ⊥)
same_or_not t u = grind arith

-- What each transaction holds on each name.
abbrev pub Holds : Type 0
Holds = ℕ → Name → Modes

-- What it holds of these locks, those under the first table and those under the second.
abbrev pub modes : Locks → Locks → Holds
modes l k t n = record { first = own l t n; second = own k t n }

pub same_modes : (a b c d : ℕ) → a ≡ c → b ≡ d → ◌≡◌ {A = Modes} (record { first = a; second = b }) (record { first = c; second = d })
same_modes a b c d e f = ap (λ x. let m : Modes = record { first = x; second = b } in m) e ∙ ap (λ x. let m : Modes = record { first = c; second = x } in m) f

-- What each two hold on each name is in the set.
abbrev pub AreIn : (Modes → Modes → Type 0) → Holds → Type 0
AreIn R h = (t u : ℕ) (n : Name) → (u ≡ t → ⊥) → R (h t n) (h u n)

module _ (p q : Protocol) (May : Row → Side → ℕ → ℕ → ℕ → Type 0) (R : Modes → Modes → Type 0) (closed : IsClosedFor p q May R) where
  -- Where t has w on the name n, and all else is as it was.
  moved : (old new : Holds) (t : ℕ) (n : Name) (w : Modes) → AreIn R old → new t n ≡ w → ((u : ℕ) (x : Name) → ((u ≡ t) × (x ≡ n) → ⊥) → new u x ≡ old u x) → ((u : ℕ) → (u ≡ t → ⊥) → R w (old u n)) → AreIn R new
  moved old new t n w are at off beside v u x ne = by (same_or_not v t) (same_or_not u t) (name_or_not x n)
    where
      others : ((v ≡ t) × (x ≡ n) → ⊥) → ((u ≡ t) × (x ≡ n) → ⊥) → R (new v x) (new u x)
      others d e = subst (λ a. R a (new u x)) (sym (off v x d)) (subst (λ a. R (old v x) a) (sym (off u x e)) (are v u x ne))

      it : (z : ℕ) → (z ≡ t → ⊥) → x ≡ n → R w (new z x)
      it z d f = subst (λ a. R w a) (sym (off z x (λ b. d b.0))) (subst (λ y. R w (old z y)) (sym f) (beside z d))

      there : (z : ℕ) → z ≡ t → x ≡ n → w ≡ new z x
      there z e f = sym at ∙ ap (λ y. new t y) (sym f) ∙ ap (λ y. new y x) (sym e)

      by : (v ≡ t) ⊎ (v ≡ t → ⊥) → (u ≡ t) ⊎ (u ≡ t → ⊥) → (x ≡ n) ⊎ (x ≡ n → ⊥) → R (new v x) (new u x)
      by (inl e) (inl f) g = absurd (ne (f ∙ sym e))
      by (inl e) (inr d) (inl f) = subst (λ a. R a (new u x)) (there v e f) (it u d f)
      by (inr d) (inl e) (inl f) = subst (λ a. R (new v x) a) (there u e f) (closed.turn w (new v x) (it v d f))
      by (inr c) (inr d) g = others (λ b. c b.0) (λ b. d b.0)
      by v-is u-is (inr d) = others (λ b. d b.1) (λ b. d b.1)

  module _ (l k : Locks) (are : AreIn R (modes l k)) where
    apart : (t : ℕ) → suc t ≡ t → ⊥
    apart t e = omega arith

    -- One alone.
    pub alone : (t : ℕ) (n : Name) → R (modes l k t n) none
    alone t n = closed.turn none (modes l k t n) (closed.leave (modes l k (suc t) n) (modes l k t n) (closed.turn (modes l k t n) (modes l k (suc t) n) (are t (suc t) n (apart t))))

    -- Modes of the tables.
    pub within_first : AreWithin p.count l
    within_first t n = let w = closed.within (modes l k t n) none (alone t n) in w.0

    pub within_second : AreWithin q.count k
    within_second t n = let w = closed.within (modes l k t n) none (alone t n) in w.1

    -- A request is granted on a name.
    pub kept_at : (t : ℕ) (n : Option Name) (a b : Option (ℕ × Span)) → ((x : Name) (u : ℕ) → n ≡ Some x → (u ≡ t → ⊥) → R (record { first = mode_after p (own l t x) a; second = mode_after q (own k t x) b }) (modes l k u x))
        → AreIn R (modes (kept p l t (request_at n a)) (kept q k t (request_at n b)))
    kept_at t None a b beside = are
    kept_at t (Some n) a b beside =
        moved (modes l k) (modes (kept p l t (request_at (Some n) a)) (kept q k t (request_at (Some n) b))) t n (record { first = mode_after p (own l t n) a; second = mode_after q (own k t n) b }) are
        (same_modes _ _ _ _ (here p l t n a) (here q k t n b)) (λ u x d. same_modes _ _ _ _ (elsewhere p l t n a u x d) (elsewhere q k t n b u x d)) (λ u d. beside n u refl d)

    -- A transaction ends.
    released : (h : Locks) (t : ℕ) (n : Name) → own (release h t) t n ≡ 0
    released h t n = ap (λ o. unwrap_or o 0) (find-release h t (n, t) ∙ ap (λ b. cond (not b) (find holder_cmp (n, t) h) None) (tied t))

    gone : (t : ℕ) (n : Name) → modes (release l t) (release k t) t n ≡ none
    gone t n = same_modes _ _ _ _ (released l t n) (released k t n)

    left : (t u : ℕ) (n : Name) → (u ≡ t → ⊥) → modes (release l t) (release k t) u n ≡ modes l k u n
    left t u n d = same_modes _ _ _ _ (own-release_other l t u n d) (own-release_other k t u n d)

    beside_none : (t : ℕ) (n : Name) → R none (modes l k t n)
    beside_none t n = closed.turn (modes l k t n) none (alone t n)

    pub ended : (t : ℕ) → AreIn R (modes (release l t) (release k t))
    ended t v u n ne = by (same_or_not v t) (same_or_not u t)
      where
        new : Holds
        new = modes (release l t) (release k t)

        by : (v ≡ t) ⊎ (v ≡ t → ⊥) → (u ≡ t) ⊎ (u ≡ t → ⊥) → R (modes (release l t) (release k t) v n) (modes (release l t) (release k t) u n)
        by (inl e) (inl f) = absurd (ne (f ∙ sym e))
        by (inl e) (inr d) = subst (λ z. R (modes (release l t) (release k t) z n) (modes (release l t) (release k t) u n)) (sym e)
            (subst (λ a. R a (modes (release l t) (release k t) u n)) (sym (gone t n)) (subst (λ a. R none a) (sym (left t u n d)) (beside_none u n)))
        by (inr d) (inl e) = subst (λ z. R (modes (release l t) (release k t) v n) (modes (release l t) (release k t) z n)) (sym e)
            (subst (λ a. R (modes (release l t) (release k t) v n) a) (sym (gone t n)) (subst (λ a. R a none) (sym (left t v n d)) (alone v n)))
        by (inr c) (inr d) = subst (λ a. R a (modes (release l t) (release k t) u n)) (sym (left t v n c)) (subst (λ a. R (modes l k v n) a) (sym (left t u n d)) (are v u n ne))

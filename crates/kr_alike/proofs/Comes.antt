-- The requests of each attempt may come, in each state of a run under a safe table.
use Rattle.std.proofs.Common.{ℕ, suc, ◌≡◌, inl, inr, ⊎_elim, refl, sym, ◌∙◌, Bool, true, false, subst, true≢false, List, Option, Some, None, arith}
use Rattle.std.specs.Prelude.{is_some, nat_le, if◌then◌else◌}
use Rattle.std.proofs.lemmas.Bool.{cases_Bool}
use Rattle.kr_model.specs.declared.Name.{Name}
use Rattle.kr_model.specs.declared.Name.TheVariants.{Key, End}
use Rattle.kr_model.specs.declared.Row.{Row}
use Rattle.kr_model.specs.declared.Row.TheVariants as row
use Rattle.kr_model.specs.declared.Side.{Side}
use Rattle.kr_model.specs.declared.Side.TheVariants.{Current, Next}
use Rattle.kr_model.specs.declared.Step.{Step}
use Rattle.kr_model.specs.declared.Step.TheVariants as attempt
use Rattle.kr_model.specs.declared.Cover.TheVariants.{DeletedGap}
use Rattle.kr_model.specs.declared.LockState.{LockState}
use Rattle.kr_model.specs.Protocol.{Protocol, IsLawful}
use Rattle.kr_model.specs.Covers.{conflicts_with}
use Rattle.kr_model.specs.Map.{Map, get, at, after}
use Rattle.kr_model.specs.Locks.{own}
use Rattle.kr_model.specs.Plan.{Access, access, access_of}
use Rattle.kr_model.specs.State.{State, standing}
use Rattle.kr_model.specs.Run.{Entry}
use Rattle.kr_model.specs.Safe.{free, start, keeps_out, Beside, MayAsk, IsSafe}
use Rattle.kr_model.proofs.Guarantees.{Serves, conflicts_next}
use Rattle.kr_theorem.proofs.gaps.Gaps.{has}
use Rattle.kr_theorem.proofs.gaps.Maps.{has-get}
use Rattle.kr_theorem.proofs.gaps.Undo.{ChangedIn, changed_or_not}
use Rattle.kr_theorem.proofs.step.Covers.{change_cover}
use Rattle.kr_theorem.proofs.step.Invariant.{gone_moved}
use Rattle.kr_theorem.proofs.safe.Shape.{code, shape}
use Rattle.kr_theorem.proofs.safe.KeptOut.{kept_out}
use Rattle.kr_theorem.proofs.safe.Holding.{modes, idle_out, alone_live}
use Rattle.kr_theorem.proofs.safe.Placed.{Stands, at_stands, stands_kept}
use Rattle.kr_theorem.proofs.safe.Sim.{rolls}
use Rattle.kr_theorem.proofs.run.Known.{Known}
use Rattle.kr_alike.specs.Closed.{is_blocked}
use Rattle.kr_alike.proofs.Answers.{MayCome as Come}
use Rattle.kr_alike.proofs.Steps.{IsAttempt, IsForward, Comes}
use Rattle.kr_alike.specs.Coming.{MayComeBeside, MayCome}
use Rattle.kr_alike.proofs.Absent.{Left, changes_are}

module _ (p : Protocol) (laws : IsLawful p) (safe : IsSafe p) (opening : Map) (h : List Entry) (s : State) (g : Known p opening h s) (left : Left p s) (t : ℕ) (forward : IsForward s t) where
  live : (g.part t).rolling ≡ false
  live = let st = g.stands t forward.live in sym st.rolling ∙ forward.unrolled

  mode_of : (u : ℕ) (n : Name) → (g.hold u n).mode ≡ own s.locks u n
  mode_of u n = let sim = g.sim in let pr = sim.paired in pr.mode u n

  alone : (n : Name) → Beside p (g.hold t n) free
  alone n = let sim = g.sim in alone_live p (rolls g.part) s.locks g.hold sim.paired t n live

  -- On a name of the map t hasn't deleted the key.
  kept : (n : Name) → Stands s.map n → (g.hold t n).deleted ≡ false
  kept n stands = let sim = g.sim in stands_kept p s.map g.part g.hold sim.placed t n live stands

  at_kept : (c : ℕ) → (g.hold t (at s.map c)).deleted ≡ false
  at_kept c = let i = g.inv in kept (at s.map c) (at_stands s.map c i.is_map)

  -- A request on the name n, with the lock state x on the next name.
  comes_by : (r : Row) (side : Side) (n : Name) (x : LockState) (m y : ℕ) → Beside p x free → x.mode ≡ m → MayAsk p r side (g.hold t n) x → MayComeBeside p r side y → MayCome p r side (own s.locks t n) m y
  comes_by r side n x m y reached is may beside = record { own = g.hold t n; next = x; own_reached = alone n; next_reached = reached; own_mode = mode_of t n; next_mode = is; asks = may; beside = beside }

  some_is : (a b : Name) → Some a ≡ Some b → a ≡ b
  some_is a b e = cc

  none_is : (b : Name) → ◌≡◌ {A = Option Name} None (Some b) → ⊥
  none_is b e = cc

  module _ (u : ℕ) (ne : u ≡ t → ⊥) where
    abbrev IsCome : Access → Type 0
    IsCome a = Come p (MayCome p) s.locks t a u

    on_current : (r : Row) (n : Name) → MayCome p r Current (own s.locks t n) 0 (own s.locks u n) → IsCome (access r (Some n) None)
    on_current r n may = record { next = λ x e. absurd (none_is x e); current = inl (λ x e. subst (λ z. MayCome p r Current (own s.locks t z) 0 (own s.locks u z)) (some_is n x e) may) }

    on_next : (r : Row) (n : Name) → MayCome p r Next (own s.locks t n) 0 (own s.locks u n) → IsCome (access r None (Some n))
    on_next r n may = record { next = λ x e. subst (λ z. MayCome p r Next (own s.locks t z) 0 (own s.locks u z)) (some_is n x e) may; current = inl (λ x e. absurd (none_is x e)) }

    -- A key that is present is read, and one that is absent is looked for.
    hit : (k : ℕ) → has s.map k ≡ true → IsCome (access row.FetchHit (Some (Key k)) None)
    hit k is = on_current row.FetchHit (Key k) (comes_by row.FetchHit Current (Key k) free 0 (own s.locks u (Key k)) start refl (kept (Key k) is) tt)

    miss : (c : ℕ) → IsCome (access row.FetchMiss None (Some (at s.map c)))
    miss c = let n = at s.map c in on_next row.FetchMiss n (comes_by row.FetchMiss Next n free 0 (own s.locks u n) start refl (at_kept c) tt)

    -- Who has deleted a key, and not undone that, blocks an insert of it on the next name.
    guards : (k : ℕ) → has s.map k ≡ false → ChangedIn (standing s u).changes k → let x = at s.map k in is_blocked p row.Insert Next (own s.locks t x) 0 (own s.locks u x) ≡ true
    guards k none changed =
        let x = at s.map k in
        let i = g.inv in
        let gd = i.guarded in
        let sim = g.sim in
        let pr = sim.paired in
        let a = g.hold t x in
        let b = g.hold u x in
        let moved = gone_moved shape s.map (modes g.hold) g.part i.owned u k (subst (λ l. ChangedIn l k) (changes_are p opening h s g u) changed) none in
        let serves : Serves shape DeletedGap (code b.key b.gap) = subst (λ c. Serves shape (change_cover c) (modes g.hold u x)) none (gd.change u k moved) in
        let out : keeps_out b row.Insert Next ≡ true = kept_out row.Insert Next 0 0 b.key b.gap tt (conflicts_next shape DeletedGap (code b.key b.gap) row.Insert serves (inr (inr (inr (inl refl)))) 0 (omega arith)) in
        let blocked : conflicts_with p b.mode a.mode (p.ask row.Insert Next a.mode) ≡ true = ⊎_elim
        (λ c. safe row.Insert Next a b free c start (at_kept k) out)
        (λ void. absurd (true≢false (sym out ∙ idle_out b row.Insert Next void.1)))
        (pr.beside t u x live ne) in
        subst (λ y. conflicts_with p y (own s.locks t x) (p.ask row.Insert Next (own s.locks t x)) ≡ true) (mode_of u x)
        (subst (λ o. conflicts_with p b.mode o (p.ask row.Insert Next o) ≡ true) (mode_of t x) blocked)

    inserts : (k : ℕ) → has s.map k ≡ false → IsCome (access row.Insert (Some (Key k)) (Some (at s.map k)))
    inserts k none = record {
      next = λ z e. subst (λ v. MayCome p row.Insert Next (own s.locks t v) 0 (own s.locks u v)) (some_is x z e) (comes_by row.Insert Next x free 0 (own s.locks u x) start refl (at_kept k) tt);
      current = ⊎_elim
          (λ changed. inr (x, refl, guards k none changed))
          (λ not. inl (λ z e. subst (λ v. MayCome p row.Insert Current (own s.locks t v) (own s.locks t x) (own s.locks u v)) (some_is (Key k) z e)
          (comes_by row.Insert Current (Key k) (g.hold t x) (own s.locks t x) (own s.locks u (Key k)) (alone x) (mode_of t x) may (left.absent u k none not))))
          (changed_or_not (standing s u).changes k);
    }
      where
        x : Name
        x = at s.map k

        may : MayAsk p row.Insert Current (g.hold t (Key k)) (g.hold t (at s.map k))
        may =
            let sim = g.sim in
            let w = sim.placed in (
              at_kept k,
              ⊎_elim
                  (λ e. inr (e, w.guard t k live e))
                  (λ e. inl (e, ⊎_elim (λ z. z) (λ z. absurd (true≢false (sym z ∙ none))) (w.there t (Key k) live e), w.absent t k live none e))
                  (cases_Bool (g.hold t (Key k)).deleted),
            )

    deletes : (k : ℕ) → has s.map k ≡ true → IsCome (access row.Delete (Some (Key k)) (Some (after s.map k)))
    deletes k is =
        let x = at s.map (suc k) in
        record {
          next = λ z e. subst (λ v. MayCome p row.Delete Next (own s.locks t v) 0 (own s.locks u v)) (some_is x z e) (comes_by row.Delete Next x free 0 (own s.locks u x) start refl (at_kept (suc k)) tt);
          current = inl (λ z e. subst (λ v. MayCome p row.Delete Current (own s.locks t v) (own s.locks t x) (own s.locks u v)) (some_is (Key k) z e)
              (comes_by row.Delete Current (Key k) (g.hold t x) (own s.locks t x) (own s.locks u (Key k)) (alone x) (mode_of t x) (kept (Key k) is, at_kept (suc k)) tt));
        }

    updates : (k : ℕ) → has s.map k ≡ true → p.updates ≡ true → IsCome (access row.Update (Some (Key k)) None)
    updates k is up = on_current row.Update (Key k) (comes_by row.Update Current (Key k) free 0 (own s.locks u (Key k)) start refl (kept (Key k) is, up) tt)

    stops : (n : Name) → Stands s.map n → IsCome (access row.ScanStop None (Some n))
    stops n stands = on_next row.ScanStop n (comes_by row.ScanStop Next n free 0 (own s.locks u n) start refl (kept n stands) tt)

    reads : (k : ℕ) → Stands s.map (Key k) → IsCome (access row.ScanKey (Some (Key k)) None)
    reads k stands = on_current row.ScanKey (Key k) (comes_by row.ScanKey Current (Key k) free 0 (own s.locks u (Key k)) start refl (kept (Key k) stands) tt)

    looks : (n : Name) (hi : ℕ) → Stands s.map n → IsCome (access_of s.map (attempt.Look n hi))
    looks End hi stands = stops End stands
    looks (Key k) hi stands = by (nat_le k hi)
      where
        by : (b : Bool) → IsCome (if b then access row.ScanKey (Some (Key k)) None else access row.ScanStop None (Some (Key k)))
        by true = reads k stands
        by false = stops (Key k) stands

    -- By whether the key is present.
    by_key : (k : ℕ) (a b : Access) → (has s.map k ≡ true → IsCome a) → (has s.map k ≡ false → IsCome b) → IsCome (if is_some (get s.map k) then a else b)
    by_key k a b there none = by (is_some (get s.map k)) (has-get s.map k)
      where
        by : (c : Bool) → has s.map k ≡ c → IsCome (if c then a else b)
        by true e = there e
        by false e = none e

    pub attempts : (a : Step) → IsAttempt p s.map a → IsCome (access_of s.map a)
    attempts (attempt.Fetch k) is = by_key k _ _ (hit k) (λ e. miss k)
    attempts (attempt.Insert k) is = by_key k _ _ (hit k) (inserts k)
    attempts (attempt.Delete k) is = by_key k _ _ (deletes k) (λ e. miss k)
    attempts (attempt.Update k) is = by_key k _ _ (λ e. updates k e is) (λ e. miss k)
    attempts (attempt.Look n hi) is = looks n hi (let i = g.inv in subst (λ z. Stands s.map z) (sym is.1) (at_stands s.map is.0 i.is_map))

pub comes : (p : Protocol) → IsLawful p → IsSafe p → (opening : Map) (h : List Entry) (s : State) → Known p opening h s → Left p s → (t : ℕ) → Comes p (MayCome p) s t
comes p laws safe opening h s g left t forward a is u ne = attempts p laws safe opening h s g left t forward u ne a is

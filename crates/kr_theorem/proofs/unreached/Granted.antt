-- A granted attempt of the twin: nobody else holds a lock where it has requested one, and what holds of each state that is reached holds of the state after it.
use Rattle.std.proofs.Common.{ℕ, ◌≡◌, ◌≢◌, ◌<◌, ◌≤◌, ◌⊎◌, ⊎_elim, refl, sym, ◌∙◌, subst, arith, false, List, [], Some}
use Rattle.std.proofs.lemmas.Bool.{cases_eq}
use Rattle.kr_model.specs.declared.Name.{Name}
use Rattle.kr_model.specs.declared.Name.TheVariants.{Key}
use Rattle.kr_model.specs.declared.Row.{Row}
use Rattle.kr_model.specs.declared.Side.{Side}
use Rattle.kr_model.specs.declared.Span.{Span}
use Rattle.kr_model.specs.Map.{IsMap}
use Rattle.kr_model.specs.Locks.{Request, own, kept, blockers}
use Rattle.kr_model.specs.State.{State}
use Rattle.kr_model.specs.Step.{Effect, after_effect}
use Rattle.kr_model.proofs.Guarantees.{In, Conflicts}
use Rattle.kr_model.proofs.Requests.{request_at}
use Rattle.kr_theorem.proofs.gaps.Undo.{InsertedIn}
use Rattle.kr_theorem.proofs.run.Grants.{granted_at}
use Rattle.kr_theorem.proofs.safe.Placed.{Stands}
use Rattle.kr_theorem.specs.Unreached.{I, X, only_beside_weak}
use Rattle.kr_theorem.proofs.unreached.Unsafe.{twin, twin_after, twin_lawful}
use Rattle.kr_theorem.proofs.unreached.Modes.{after_within, after_some, after_I, after_above, conflict}
use Rattle.kr_theorem.proofs.unreached.Kept.{AreAsked, kept_holds, kept_other}
use Rattle.kr_theorem.proofs.unreached.Reached.{Reached, put_inserted}

-- A mode is none, or some.
none_or_some : (m : ℕ) → (m ≡ 0) ⊎ (0 < m)
none_or_some m = grind arith

module _ (s : State) (was : Reached s) (t : ℕ) (rs : List Request) (asked : AreAsked s.map rs) (free : blockers twin s.locks t rs ≡ []) where
  -- What each transaction holds after the attempt.
  abbrev pub held : ℕ → Name → ℕ
  held u n = own (kept twin s.locks t rs) u n

  -- Nobody else holds a lock where this one requests one.
  alone_at : (n : Name) (q : ℕ) (span : Span) → In (n, q, span) rs → (u : ℕ) → u ≢ t → own s.locks u n ≡ 0
  alone_at n q span i u other =
      let a = asked n q span i in
      let o = own s.locks t n in
      ⊎_elim (λ e. e)
      (λ some. absurd (let_in n q span a.row a.side a.asks i u other (conflict (twin_after o q) (own s.locks u n) (after_some o q a.some) (after_within o q (was.within t n) a.within) some (was.within u n))))
      (none_or_some (own s.locks u n))
    where
      in_range : (u : ℕ) (n : Name) → own s.locks u n ≤ twin.count
      in_range u n = let le = was.within u n in omega (arith, le)

      let_in : (n : Name) (q : ℕ) (span : Span) (r : Row) (side : Side) → twin.ask r side 0 ≡ Some (q, span) → In (n, q, span) rs → (u : ℕ) → u ≢ t → only_beside_weak (twin_after (own s.locks t n) q) (own s.locks u n) ≡ false → ⊥
      let_in n q span r side e i u other =
          subst (λ a. Conflicts twin (own s.locks u n) (own s.locks t n) a → ⊥) e
          (granted_at twin twin_lawful s.locks t rs free in_range r side n 0 (omega arith) (λ x j. subst (λ a. In x (request_at (Some n) a) → In x rs) (sym e) (λ k. ⊎_elim (λ same. subst (λ z. In z rs) same i) (λ none. absurd none) k) j) u other)

  -- Another holds what it held.
  others : (u : ℕ) (n : Name) → u ≢ t → held u n ≡ own s.locks u n
  others u n other = kept_other s.locks t u n rs other

  -- What is held is I, K or X still.
  held_within : (u : ℕ) (n : Name) → held u n ≤ X
  held_within u n = ⊎_elim
      (λ e. subst (λ v. held v n ≤ X) (sym e) (kept_holds (λ o. o ≤ X) s.locks t n rs (λ q span i o le. after_within o q le (asked n q span i).within) (was.within t n)))
      (λ other. subst (λ m. m ≤ X) (sym (others u n other)) (was.within u n))
      (cases_eq u t)

  -- Where this one holds a lock, nobody else does.
  mine_alone : (u : ℕ) (n : Name) → u ≢ t → 0 < held t n → own s.locks u n ≡ 0
  mine_alone u n other = kept_holds (λ o. 0 < o → own s.locks u n ≡ 0) s.locks t n rs (λ q span i o h some. alone_at n q span i u other) (λ some. was.alone t u n other some)

  -- And no two transactions have locks on one name.
  pub held_alone : (v u : ℕ) (n : Name) → u ≢ v → 0 < held v n → held u n ≡ 0
  held_alone v u n apart some = ⊎_elim
      (λ e. let other : u ≢ t = λ same. apart (same ∙ sym e) in
      others u n other ∙ mine_alone u n other (subst (λ w. 0 < held w n) e some))
      (λ of_other. let old : 0 < own s.locks v n = subst (λ m. 0 < m) (others v n of_other) some in
      ⊎_elim
      (λ e. ⊎_elim (λ none. subst (λ w. held w n ≡ 0) (sym e) none) (λ here. absurd (let none = mine_alone v n of_other here in omega (arith, none, old))) (none_or_some (held t n)))
      (λ other. others u n other ∙ was.alone v u n apart old)
      (cases_eq u t))
      (cases_eq v t)

  -- I is held on names that were there before the attempt.
  held_present : (u : ℕ) (n : Name) → held u n ≡ I → Stands s.map n
  held_present u n = ⊎_elim
      (λ e. subst (λ v. held v n ≡ I → Stands s.map n) (sym e)
      (kept_holds (λ o. o ≡ I → Stands s.map n) s.locks t n rs (λ q span i o h is. let a = asked n q span i in a.stands (after_I o q a.some is)) (was.present t n)))
      (λ other is. was.present u n (sym (others u n other) ∙ is))
      (cases_eq u t)

  -- K and X stay above I.
  pub held_above : (n : Name) → I < own s.locks t n → I < held t n
  held_above n = kept_holds (λ o. I < o) s.locks t n rs (λ q span i o h. after_above o q (asked n q span i).some h)

  -- So the state after the attempt is as all that are reached: where who has inserted a key in it holds K or X there, and names on which I is held don't go.
  pub after_granted : (e : Effect) → IsMap e.map → ((k : ℕ) → InsertedIn e.standing.changes k → I < held t (Key k)) → ((u : ℕ) (n : Name) → held u n ≡ I → Stands s.map n → Stands e.map n)
      → Reached (let o = after_effect twin s t rs e in o.1)
  after_granted e sorted its stays = record {
    is_map = sorted;
    within = held_within;
    alone = held_alone;
    inserted = put_inserted s (let o = after_effect twin s t rs e in o.1) t e.standing was refl others its;
    present = λ u n is. stays u n is (held_present u n is);
  }

-- Lock states that fit a state of a run, and a granted request of a row that moves no key.
use Rattle.std.proofs.Common.{ℕ, ◌≤◌, ◌≡◌, ◌≢◌, ◌⊎◌, inl, inr, ⊎_elim, refl, sym, ap, ◌∙◌, Bool, true, false, subst, true≢false}
use Rattle.std.specs.Prelude.{◌==◌, if◌then◌else◌, Option, Some, None}
use Rattle.kr_model.specs.declared.Name.{Name}
use Rattle.kr_model.specs.declared.Name.TheVariants.{Key, End}
use Rattle.kr_model.specs.declared.Row.{Row}
use Rattle.kr_model.specs.declared.Row.TheVariants.{FetchHit, FetchMiss, ScanKey, ScanStop, Insert, Delete, Update}
use Rattle.kr_model.specs.declared.Side.{Side}
use Rattle.kr_model.specs.declared.Side.TheVariants.{Current, Next}
use Rattle.kr_model.specs.declared.Span.{Span}
use Rattle.kr_model.specs.declared.Span.TheVariants.{Instant, Commit}
use Rattle.kr_model.specs.declared.Cover.{Cover}
use Rattle.kr_model.specs.Protocol.{Protocol, IsLawful}
use Rattle.kr_model.specs.Covers.{mode_after}
use Rattle.kr_model.specs.Map.{Map, IsMap, at}
use Rattle.kr_model.specs.Locks.{Locks, own, kept}
use Rattle.kr_model.proofs.Guarantees.{Serves}
use Rattle.kr_model.proofs.Requests.{request_at, AreLocks, asks_one, kept_locks}
use Rattle.kr_theorem.proofs.gaps.Gaps.{has, at-unique, reach-refl, at-stable}
use Rattle.kr_theorem.proofs.gaps.Undo.{InsertedIn}
use Rattle.kr_theorem.proofs.step.Parts.{Part, Parts, Moved, with_part, by_part}
use Rattle.kr_theorem.proofs.step.Covers.{Granted, change_cover}
use Rattle.kr_theorem.proofs.step.Guarded.{Taken}
use Rattle.kr_theorem.proofs.step.Invariant.{Invariant}
use Rattle.kr_model.specs.declared.KeyUse.{KeyUse}
use Rattle.kr_model.specs.declared.KeyUse.TheVariants.{Inserted as KeyInserted}
use Rattle.kr_model.specs.declared.GapUse.{GapUse}
use Rattle.kr_model.specs.declared.GapUse.TheVariants.{Free as GapFree, Read as GapRead, Deleted as GapDeleted}
use Rattle.kr_model.specs.declared.LockState.{LockState}
use Rattle.kr_model.specs.Safe.{and_gap, free, start, IsIdle, by_key, keeps_out, given, asked, key_after, gap_after, deleted_after, after, MayBeOnAbsent, MayAsk, MayBeside, IsSafe}
use Rattle.kr_theorem.proofs.safe.Shape.{code, shape, more, blocks_all}
use Rattle.kr_theorem.proofs.safe.KeptOut.{MayKeepOut, inserted_keeps_out}
use Rattle.kr_theorem.proofs.safe.Stays.{stays}
use Rattle.kr_theorem.proofs.safe.Gains.{gains, ask_within}
use Rattle.kr_theorem.proofs.safe.Holding.{Holds, modes, with_hold, with_same, with_other, by_hold, Paired, granted_out, granted_shape, move_at, taken_at, same_rolls}
use Rattle.kr_theorem.proofs.safe.Placed.{Stands, IsClear, Placed, placed_stepped}
use Rattle.kr_theorem.proofs.safe.Kept.{here, elsewhere}

-- A gap with a deleted key stays protected as such.
gap_deleted : (r : Row) (s : Side) (h : GapUse) → gap_after r s GapDeleted h ≡ GapDeleted
gap_deleted FetchHit Current h = refl
gap_deleted FetchHit Next h = refl
gap_deleted FetchMiss Current h = refl
gap_deleted FetchMiss Next h = refl
gap_deleted ScanKey Current h = refl
gap_deleted ScanKey Next h = refl
gap_deleted ScanStop Current h = refl
gap_deleted ScanStop Next h = refl
gap_deleted Insert Current h = refl
gap_deleted Insert Next h = refl
gap_deleted Delete Current h = refl
gap_deleted Delete Next h = refl
gap_deleted Update Current h = refl
gap_deleted Update Next h = refl

pub gap_stays : (r : Row) (s : Side) (g h : GapUse) → g ≡ GapDeleted → gap_after r s g h ≡ GapDeleted
gap_stays r s g h e = ap (λ z. gap_after r s z h) e ∙ gap_deleted r s h

-- So does the part of it that an insert splits off.
pub gap_split : (g h : GapUse) → h ≡ GapDeleted → and_gap g h ≡ GapDeleted
gap_split g h e = ap (λ z. and_gap g z) e ∙ by g
  where
    by : (g : GapUse) → and_gap g GapDeleted ≡ GapDeleted
    by GapFree = refl
    by GapRead = refl
    by GapDeleted = refl

-- A key that is protected as inserted stays so.
inserted_still : (r : Row) (s : Side) → key_after r s KeyInserted ≡ KeyInserted
inserted_still FetchHit Current = refl
inserted_still FetchHit Next = refl
inserted_still FetchMiss s = refl
inserted_still ScanKey Current = refl
inserted_still ScanKey Next = refl
inserted_still ScanStop s = refl
inserted_still Insert Current = refl
inserted_still Insert Next = refl
inserted_still Delete s = refl
inserted_still Update Current = refl
inserted_still Update Next = refl

pub inserted_stays : (r : Row) (s : Side) (k : KeyUse) → k ≡ KeyInserted → key_after r s k ≡ KeyInserted
inserted_stays r s k e = ap (λ z. key_after r s z) e ∙ inserted_still r s

-- Who rolls back.
abbrev pub rolls : Parts → ℕ → Bool
rolls part u = (part u).rolling

-- The locks are locks of the protocol, and the lock states fit them and the map.
pub record Sim (p : Protocol) (m : Map) (l : Locks) (part : Parts) (hold : Holds) : Type 0 where
  pub locks : AreLocks p l
  pub paired : Paired p (rolls part) l hold
  pub placed : Placed p m part hold

-- A part that rolls back as before.
pub rolls_same : (part : Parts) (t : ℕ) (q : Part) → q.rolling ≡ (part t).rolling → (u : ℕ) → rolls (with_part part t q) u ≡ rolls part u
rolls_same part t q same = by_part (λ u x. x.rolling ≡ (part u).rolling) part t q same (λ u ne. refl)

-- What the fixed protocol's mode serves after a request, the mode of the new lock state serves.
pub after_serves : (a : Option (ℕ × Span)) (o b : ℕ) → ask_within a b ≡ true → blocks_all o b ≡ true → (c : Cover) → Serves shape c (mode_after shape o a) → Serves shape c b
after_serves None o b w all c s = more o b all c s
after_serves (Some (q, Instant)) o b w all c s = more o b all c s
after_serves (Some (q, Commit)) o b w all c s = by (q == 0) s
  where
    by : (z : Bool) → Serves shape c (if z then o else q) → Serves shape c b
    by true s = more o b all c s
    by false s = more q b w c s

-- On a present key that a transaction has moved, its lock has to keep out whomever that of an inserted key must.
pub moved_out : (m : Map) (hold : Holds) (part : Parts) (c : Map) → Invariant shape m (modes hold) part c → (v k : ℕ) → Moved (part v) k → has m k ≡ true
    → (r : Row) (s : Side) → by_key KeyInserted r s ≡ true → keeps_out (hold v (Key k)) r s ≡ true
moved_out m hold part c i v k moved there r s listed =
    let g = i.guarded in
    inserted_keeps_out r s (hold v (Key k)).key (hold v (Key k)).gap listed
    (subst (λ z. Serves shape (change_cover true) (modes hold v z)) (at-unique m k k i.is_map (reach-refl m k) there)
    (subst (λ b. Serves shape (change_cover b) (modes hold v (at m k))) there (g.change v k moved)))

-- A map with the same keys.
pub sim_keys : (p : Protocol) (m n : Map) (l : Locks) (part : Parts) (hold : Holds) → IsMap m → IsMap n → ((y : ℕ) → has n y ≡ has m y) → Sim p m l part hold → Sim p n l part hold
sim_keys p m n l part hold hm hn same s =
    let w = s.placed in
    record {
      locks = s.locks;
      paired = s.paired;
      placed = record {
        there = λ t x live e. ⊎_elim (λ i. inl i) (λ z. inr (still x z)) (w.there t x live e);
        gone = λ t x live e. let d = w.gone t x live e in (d.0, d.1, same d.0 ∙ d.2, d.3);
        mine = w.mine;
        guard = λ t k live e. ap (λ z. (hold t z).gap) (at-stable m n k hm hn (λ y reach. same y)) ∙ w.guard t k live e;
        absent = λ t k live none e. w.absent t k live (sym (same k) ∙ none) e;
        put = w.put;
      };
    }
  where
    still : (x : Name) → Stands m x → Stands n x
    still End z = tt
    still (Key k) z = same k ∙ z

module _ (p : Protocol) (laws : IsLawful p) (safe : IsSafe p) (m : Map) (l : Locks) (part : Parts) (hold : Holds) (c : Map) (i : Invariant shape m (modes hold) part c) (sim : Sim p m l part hold) (t : ℕ) (live : (part t).rolling ≡ false)
    (r : Row) (s : Side) (name : Name) (may : MayAsk p r s (hold t name) free) (in_given : given r s (hold t name) free ≤ p.count)
    (granted : Granted p (own l) t r s name (given r s (hold t name) free)) where
  range : (u : ℕ) (x : Name) → own l u x ≤ p.count
  range u x = let k = sim.locks in k.within u x

  abbrev pub row_holds : Holds
  row_holds = with_hold hold t name (after p r s (hold t name) free)

  abbrev pub row_locks : Locks
  row_locks = kept p l t (request_at (Some name) (asked p r s (hold t name) free))

  pub row_granted : MayKeepOut r s → (on : ℕ) → Granted shape (modes hold) t r s name on
  row_granted keep on = granted_shape p laws (rolls part) l hold sim.paired t live safe r s name free start may granted keep on

  pub row_taken : Taken shape (modes hold) (modes row_holds) t
  row_taken = taken_at p hold t r s name free

  pub row_after : (x : Cover) → Serves shape x (mode_after shape (modes hold t name) (shape.ask r s 0)) → Serves shape x (modes row_holds t name)
  row_after x sv =
      let y = hold t name in
      subst (λ h. Serves shape x (code h.key h.gap)) (sym (with_same hold t name (after p r s y free)))
      (after_serves (shape.ask r s 0) (code y.key y.gap) (code (key_after r s y.key) (gap_after r s y.gap free.gap)) (gains r s y.key y.gap free.key free.gap) (stays r s y.key y.gap free.gap) x sv)

  pub row_sim : ((u : ℕ) → u ≢ t → MayBeside p r s (hold u name)) → Stands m name → deleted_after r s ≡ false → by_key KeyInserted r s ≡ true
      → (q : Part) → q.moved ≡ (part t).moved → q.rolling ≡ (part t).rolling → ((k : ℕ) → InsertedIn q.changes k → InsertedIn (part t).changes k) → Sim p m row_locks (with_part part t q) row_holds
  row_sim others stands undeleted touch q same_moved same_rolling older =
      let w = sim.placed in
      let z : LockState = after p r s (hold t name) free in
      let was : (k : ℕ) → Moved q k → Moved (part t) k = λ k h. subst (λ xs. Moved (record q { moved = xs }) k) same_moved h in
      record {
        locks = kept_locks p laws l t (request_at (Some name) (asked p r s (hold t name) free)) (asks_one p laws (Some name) r s (given r s (hold t name) free) in_given) sim.locks;
        paired = same_rolls p (rolls part) (rolls (with_part part t q)) row_locks row_holds
            (move_at p laws (rolls part) l hold sim.paired t live r s name free start may (λ u ne. inl (others u ne)) granted (range t name) in_given row_locks
            (here p l t name (asked p r s (hold t name) free)) (λ u x d. elsewhere p l t name (asked p r s (hold t name) free) u x d))
            (rolls_same part t q same_rolling);
        placed = placed_stepped p m m part hold row_holds t q w
            (λ u x ne. with_other hold t name z u x (λ e. ne e.0))
            (λ u y ne lu. inl refl)
            (λ lq x. by_hold (λ u n h. (part u).rolling ≡ false → h.deleted ≡ false → IsIdle h ⊎ Stands m n) hold t name z (λ lu e. inr stands) (λ u n d lu e. w.there u n lu e) t x live)
            (λ lq x e. let d = by_hold (λ u n h. (part u).rolling ≡ false → h.deleted ≡ true → (k : ℕ) × (n ≡ Key k) × (has m k ≡ false) × Moved (part u) k) hold t name z
            (λ lu f. absurd (true≢false (sym f ∙ undeleted))) (λ u n d lu f. w.gone u n lu f) t x live e in (d.0, d.1, d.2, subst (λ xs. Moved (record q { moved = xs }) d.0) (sym same_moved) d.3))
            (λ u k ne lu h. w.mine t u k ne lu (was k h))
            (λ v k ne lq h. by_hold (λ u n y. u ≡ t → n ≡ Key k → IsClear y) hold t name z
            (λ e f. absurd (granted_out p laws (rolls part) l hold sim.paired t live safe r s name free start may granted v ne
            (subst (λ x. keeps_out (hold v x) r s ≡ true) (sym f) (moved_out m hold part c i v k h (subst (λ x. Stands m x) f stands) r s touch))))
            (λ u n d e f. subst (λ x. IsClear (hold u x)) (sym f) (subst (λ x. IsClear (hold x (Key k))) (sym e) (w.mine v t k (λ z. ne (sym z)) live h)))
            t (Key k) refl refl)
            (λ u k ne lu h. refl)
            (λ lq k e. let was = by_hold (λ u n h. u ≡ t → h.deleted ≡ true → (hold u n).deleted ≡ true) hold t name z (λ f d. absurd (true≢false (sym d ∙ undeleted))) (λ u n far f d. d) t (Key k) refl e in
            by_hold (λ u n h. u ≡ t → (hold u n).gap ≡ GapDeleted → h.gap ≡ GapDeleted) hold t name z (λ f d. gap_stays r s (hold t name).gap free.gap d) (λ u n far f d. d) t (at m k) refl (w.guard t k live was))
            (λ u k ne lu e none. absurd (true≢false (sym e ∙ none)))
            (λ lq k none kept. by_hold (λ u n h. u ≡ t → n ≡ Key k → h.deleted ≡ false → MayBeOnAbsent p h.mode) hold t name z
            (λ e f d. absurd (true≢false (sym (subst (λ x. Stands m x) f stands) ∙ none)))
            (λ u n far e f d. subst (λ x. MayBeOnAbsent p (hold u x).mode) (sym f) (subst (λ x. MayBeOnAbsent p (hold x (Key k)).mode) (sym e) (w.absent t k live none (subst (λ x. (hold x (Key k)).deleted ≡ false) e (subst (λ x. (hold u x).deleted ≡ false) f d)))))
            t (Key k) refl refl kept)
            (λ k h. by_hold (λ u n y. (hold u n).key ≡ KeyInserted → y.key ≡ KeyInserted) hold t name z (λ e. inserted_stays r s (hold t name).key e) (λ u n far e. e) t (Key k) (w.put t k (older k h)));
      }

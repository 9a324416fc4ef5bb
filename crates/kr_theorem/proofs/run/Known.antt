-- What is known of the run so far, with lock states beside its locks, and how a step that changes nothing, a granted operation and an end keep it.
use Rattle.std.specs.Prelude.{◌≡◌, ℕ, true, false, not, ◌==◌, ◌||◌, List, [], ◌∷◌, ◌++◌, unwrap_or}
use Rattle.std.specs.Ordering.{nat_cmp}
use Rattle.std.specs.FinMap.{find, put, is_sorted}
use Rattle.std.proofs.Common.{sym, ◌∙◌, ap, subst, ◌≢◌, ⊎_elim}
use Rattle.std.proofs.lemmas.Bool.{cases_eq}
use Rattle.kr_model.specs.declared.Op.{Op}
use Rattle.kr_model.specs.declared.Reply.{Reply}
use Rattle.kr_model.specs.Protocol.{Protocol}
use Rattle.kr_model.specs.Map.{Map}
use Rattle.kr_model.specs.Locks.{Locks, release}
use Rattle.kr_model.specs.State.{State, Active, has_ended, idle, standing}
use Rattle.kr_model.specs.Step.{Outcome, ended_with}
use Rattle.kr_model.specs.Run.{Entry, committed, is_committed, is_granted}
use Rattle.kr_model.specs.Serial.{AreAnswered, map_left}
use Rattle.kr_model.proofs.Guarantees.{In}
use Rattle.kr_model.proofs.LogReads.{silent_other, silent_refused}
use Rattle.kr_model.proofs.MapLaws.{sorted_put, sorted_where}
use Rattle.kr_model.proofs.Actives.{tied, untied, any_add_once, find_put_same, find_put_other, find_filter_other}
use Rattle.kr_theorem.proofs.run.Actives.{true_not_false, or_left, or_right, or_false, in_put, in_filter}
use Rattle.kr_theorem.proofs.step.Parts.{Part, Parts, blank, with_part, with_same, with_other}
use Rattle.kr_theorem.proofs.step.Invariant.{Invariant}
use Rattle.kr_theorem.proofs.run.Reading.{entry, ReadsAs, reads_silent, committed_none}
use Rattle.kr_theorem.proofs.run.Programs.{Stands, Programs, txns, joined, Fixed, fixed_more, state_after}
use Rattle.kr_theorem.proofs.safe.Shape.{shape}
use Rattle.kr_theorem.proofs.safe.Holding.{Holds, modes}
use Rattle.kr_theorem.proofs.safe.Sim.{Sim}

-- The run so far --

-- After this history, in this state.
pub record Known (p : Protocol) (opening : Map) (h : List Entry) (s : State) : Type 0 where
  -- the part of each transaction, and the programs committed so far
  pub part : Parts
  pub hold : Holds
  pub done : Programs
  -- they are serializable, and the invariant holds, under the fixed protocol and the modes of the lock states, with the map that they leave as the committed one
  pub answered : AreAnswered opening (joined done)
  pub inv : Invariant shape s.map (modes hold) part (map_left opening (joined done))
  -- the lock states fit the locks and the map
  pub sim : Sim p s.map s.locks part hold
  -- what each transaction did that hasn't ended and doesn't roll back reads as its part says, and each stands so in the state
  pub reads : (t : ℕ) → has_ended s t ≡ false → (part t).rolling ≡ false → ReadsAs t h (part t).program (part t).scan
  pub stands : (t : ℕ) → has_ended s t ≡ false → Stands (part t) (standing s t)
  -- one that has ended has no changes left, and a committed program is as it was at the commit
  pub over : (t : ℕ) → has_ended s t ≡ true → (part t).changes ≡ []
  pub fixed : Fixed done h s
  -- the programs are those of the transactions that committed, in commit order
  pub order : txns done ≡ committed h
  -- the active transactions rise, and none of them has ended
  pub sorted : is_sorted nat_cmp s.active ≡ true
  pub live : (t : ℕ) (a : Active) → In (t, a) s.active → has_ended s t ≡ false

-- What is known after one more event of t, with this reply and state.
abbrev pub KnownAfter : Protocol → Map → List Entry → ℕ → Op → Outcome → Type 0
KnownAfter p opening h t o out = Known p opening (h ++ entry t o out.0 ∷ []) out.1

-- A step that changes nothing.
pub stays : (p : Protocol) (opening : Map) (h : List Entry) (s : State) (t : ℕ) (o : Op) (a : Reply) → Known p opening h s → is_granted a ≡ false → is_committed a ≡ false → KnownAfter p opening h t o (a, s)
stays p opening h s t o a g no_grant no_commit =
    let x = entry t o a in
    record {
      part = g.part;
      done = g.done;
      answered = g.answered;
      hold = g.hold;
      inv = g.inv;
      sim = g.sim;
      reads = λ u lu ru. reads_silent u h x (g.part u).program (g.part u).scan (silent_refused u x.0 a no_grant) (g.reads u lu ru);
      stands = g.stands;
      over = g.over;
      fixed = fixed_more g.done h s s x (λ u e. (e, silent_refused u x.0 a no_grant)) g.fixed;
      order = g.order ∙ sym (committed_none h x no_commit);
      sorted = g.sorted;
      live = g.live;
    }

first_is : (a c : ℕ) (b d : Active) → ◌≡◌ {A = ℕ × Active} (a, b) (c, d) → a ≡ c
first_is a c b d e = ap (λ (x : ℕ × Active). x.0) e

-- A granted operation of t.
pub goes : (p : Protocol) (opening : Map) (h : List Entry) (s : State) (m : Map) (l : Locks) (x : Active) (t : ℕ) (o : Op) (a : Reply) (g : Known p opening h s) (q : Part) (hold' : Holds)
    → has_ended s t ≡ false → is_committed a ≡ false
    → Invariant shape m (modes hold') (with_part g.part t q) (map_left opening (joined g.done))
    → Sim p m l (with_part g.part t q) hold'
    → (q.rolling ≡ false → ReadsAs t (h ++ entry t o a ∷ []) q.program q.scan)
    → Stands q x
    → KnownAfter p opening h t o (a, state_after s m l (put nat_cmp t x s.active))
goes p opening h s m l x t o a g q hold' live_t no_commit inv sim reads stands =
    let e = entry t o a in
    let part' : Parts = with_part g.part t q in
    let active' : List (ℕ × Active) = put nat_cmp t x s.active in
    let h' : List Entry = h ++ e ∷ [] in
    let apart : (u : ℕ) → has_ended s u ≡ true → u ≢ t = λ u over same. true_not_false (sym over ∙ ap (has_ended s) same ∙ live_t) in
    record {
      part = part';
      done = g.done;
      answered = g.answered;
      hold = hold';
      inv = inv;
      sim = sim;
      reads = λ u lu. ⊎_elim
          (λ same. subst (λ z. (part' z).rolling ≡ false → ReadsAs z h' (part' z).program (part' z).scan) (sym same) (subst (λ z. z.rolling ≡ false → ReadsAs t h' z.program z.scan) (sym (with_same g.part t q)) reads))
          (λ ne. subst (λ z. z.rolling ≡ false → ReadsAs u h' z.program z.scan) (sym (with_other g.part t q u ne))
          (λ ru. reads_silent u h e (g.part u).program (g.part u).scan (silent_other u e.0 a (untied t u (λ d. ne (sym d)))) (g.reads u lu ru)))
          (cases_eq u t);
      stands = λ u lu. ⊎_elim
          (λ same. subst (λ z. Stands (part' z) (unwrap_or (find nat_cmp z active') idle)) (sym same)
          (subst (λ z. Stands z (unwrap_or (find nat_cmp t active') idle)) (sym (with_same g.part t q)) (subst (λ z. Stands q (unwrap_or z idle)) (sym (find_put_same s.active t x)) stands)))
          (λ ne. subst (λ z. Stands z (unwrap_or (find nat_cmp u active') idle)) (sym (with_other g.part t q u ne))
          (subst (λ z. Stands (g.part u) (unwrap_or z idle)) (sym (find_put_other s.active t u x ne)) (g.stands u lu)))
          (cases_eq u t);
      over = λ u ended. ap (λ z. z.changes) (with_other g.part t q u (apart u ended)) ∙ g.over u ended;
      fixed = fixed_more g.done h s (state_after s m l active') e (λ u ended. (ended, silent_other u e.0 a (untied t u (λ d. apart u ended (sym d))))) g.fixed;
      order = g.order ∙ sym (committed_none h e no_commit);
      sorted = sorted_put t x s.active g.sorted;
      live = λ u b i. ⊎_elim (λ same. ap (has_ended s) (sym (first_is t u x b same)) ∙ live_t) (λ old. g.live u b old) (in_put t x s.active (u, b) i);
    }

-- The end of t.
pub ends : (p : Protocol) (opening : Map) (h : List Entry) (s : State) (m : Map) (t : ℕ) (o : Op) (a : Reply) (g : Known p opening h s) (done : Programs) (hold' : Holds)
    → has_ended s t ≡ false
    → AreAnswered opening (joined done)
    → Invariant shape m (modes hold') (with_part g.part t blank) (map_left opening (joined done))
    → Sim p m (release s.locks t) (with_part g.part t blank) hold'
    → Fixed done (h ++ entry t o a ∷ []) (ended_with s t m)
    → txns done ≡ committed (h ++ entry t o a ∷ [])
    → KnownAfter p opening h t o (a, ended_with s t m)
ends p opening h s m t o a g done hold' live_t answered inv sim fixed order =
    let e = entry t o a in
    let part' : Parts = with_part g.part t blank in
    let s' : State = ended_with s t m in
    let h' : List Entry = h ++ e ∷ [] in
    let ended : (u : ℕ) → has_ended s' u ≡ ((t == u) || has_ended s u) = λ u. any_add_once (λ v. v == u) t s.ended in
    let was : (u : ℕ) → has_ended s' u ≡ false → has_ended s u ≡ false = λ u lu. or_right (t == u) (has_ended s u) (sym (ended u) ∙ lu) in
    let not_t : (u : ℕ) → has_ended s' u ≡ false → u ≢ t = λ u lu same. true_not_false (sym (ap (λ z. t == z) same ∙ tied t) ∙ or_left (t == u) (has_ended s u) (sym (ended u) ∙ lu)) in
    record {
      part = part';
      done = done;
      answered = answered;
      hold = hold';
      inv = inv;
      sim = sim;
      reads = λ u lu. subst (λ z. z.rolling ≡ false → ReadsAs u h' z.program z.scan) (sym (with_other g.part t blank u (not_t u lu)))
          (λ ru. reads_silent u h e (g.part u).program (g.part u).scan (silent_other u e.0 a (untied t u (λ d. not_t u lu (sym d)))) (g.reads u (was u lu) ru));
      stands = λ u lu. subst (λ z. Stands z (standing s' u)) (sym (with_other g.part t blank u (not_t u lu)))
          (subst (λ z. Stands (g.part u) (unwrap_or z idle)) (sym (find_filter_other s.active t u (not_t u lu))) (g.stands u (was u lu)));
      over = λ u eu. ⊎_elim
          (λ same. ap (λ z. (part' z).changes) same ∙ ap (λ z. z.changes) (with_same g.part t blank))
          (λ ne. ap (λ z. z.changes) (with_other g.part t blank u ne) ∙ g.over u (sym (ap (λ b. b || has_ended s u) (untied t u (λ d. ne (sym d)))) ∙ sym (ended u) ∙ eu))
          (cases_eq u t);
      fixed = fixed;
      order = order;
      sorted = sorted_where (λ x. not (x == t)) s.active g.sorted;
      live = λ u b i.
          let z = in_filter (λ (x : ℕ × Active). not (x.0 == t)) s.active (u, b) i in
          ended u ∙ or_false (t == u) (has_ended s u) (untied t u (λ d. other_of u t z.1 (sym d))) (g.live u b z.0);
    }
  where
    other_of : (u t : ℕ) → not (u == t) ≡ true → u ≡ t → ⊥
    other_of u t h e = true_not_false (sym h ∙ ap not (ap (λ z. z == t) e ∙ tied t))

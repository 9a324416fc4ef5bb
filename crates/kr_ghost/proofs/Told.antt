-- What the history tells of each transaction, beside its part: how an event that changes nothing, a granted operation and an end keep that.
use Rattle.std.specs.Prelude.{◌≡◌, ℕ, ◌+◌, Bool, true, false, not, ◌==◌, ◌||◌, List, [], ◌∷◌, ◌++◌, Option, Some, None, unwrap_or, refl}
use Rattle.std.specs.Ordering.{nat_cmp}
use Rattle.std.specs.FinMap.{find, put, is_sorted}
use Rattle.std.specs.List.{flat_map}
use Rattle.std.specs.List.Sorted.{IsPermutation}
use Rattle.std.proofs.Common.{sym, ◌∙◌, ap, ap₂, subst, ◌≢◌, ⊎_elim, inl, inr}
use Rattle.std.proofs.lemmas.Bool.{cases_eq}
use Rattle.kr_model.specs.declared.Op.{Op}
use Rattle.kr_model.specs.declared.Reply.{Reply}
use Rattle.kr_model.specs.Map.{Map, IsMap, get, restore_all}
use Rattle.kr_model.specs.Locks.{Locks}
use Rattle.kr_model.specs.State.{State, Active, Scan, has_ended, idle, standing, is_rolling}
use Rattle.kr_model.specs.Step.{ended_with}
use Rattle.kr_model.specs.Run.{Entry, committed, is_committed, is_granted, operations_of, programs}
use Rattle.kr_model.specs.Serial.{AreAnswered, map_left, all_operations, rolled_back, IsSerialRun}
use Rattle.kr_model.proofs.Guarantees.{In}
use Rattle.kr_model.proofs.LogReads.{silent_other, silent_refused}
use Rattle.kr_model.proofs.MapLaws.{sorted_put, sorted_where}
use Rattle.kr_model.proofs.Actives.{tied, untied, any_add_once, or_true, find_put_same, find_put_other, find_filter_other}
use Rattle.kr_theorem.proofs.gaps.Maps.{same_map}
use Rattle.kr_theorem.proofs.gaps.Undo.{ChangedIn, restore_all_same}
use Rattle.kr_theorem.proofs.run.Actives.{true_not_false, or_left, or_right, or_false, in_put, in_filter, sorted_finds}
use Rattle.kr_theorem.proofs.run.Reading.{entry, ReadsAs, reads_silent, reads_whole, committed_none, all_operations_programs}
use Rattle.kr_theorem.proofs.run.Programs.{Programs, txns, joined, Fixed, fixed_more, state_after}
use Rattle.kr_theorem.proofs.run.Rollback.{SomeChanged, some_changed, changed_some, IsMap-rolled_back, rolled, in_order, in_other_order, some_changed_in, found_in}
use Rattle.kr_theorem.proofs.step.Parts.{Progress, Part, Parts, Changed, blank, with_part, with_same, with_other}
use Rattle.kr_theorem.proofs.step.Replay.{Committed}

-- The scan in progress is the same; what is left of its range begins above the name that it looked at last.
abbrev pub StandsScan : Option Progress → Option Scan → Type 0
StandsScan None None = Unit {0}
StandsScan (Some g) (Some c) = (c.lo ≡ g.last + 1) × (g.high ≡ c.hi) × (c.rows ≡ g.pairs)
StandsScan None (Some c) = ⊥
StandsScan (Some g) None = ⊥

-- The scan and the changes of an active transaction are those of its part, and both roll back or neither does.
pub record Stands (q : Part) (a : Active) : Type 0 where
  pub scan : StandsScan q.scan a.scan
  pub changes : a.changes ≡ q.changes
  pub rolling : a.rolling ≡ q.rolling

-- After this history, in this state.
pub record Told (h : List Entry) (s : State) (part : Parts) (done : Programs) : Type 0 where
  -- what each transaction did that hasn't ended and doesn't roll back reads as its part says, and each stands so in the state
  pub reads : (t : ℕ) → has_ended s t ≡ false → (part t).rolling ≡ false → ReadsAs t h (part t).program (part t).scan
  pub stands : (t : ℕ) → has_ended s t ≡ false → Stands (part t) (standing s t)
  -- nothing is kept of one that has ended, and a committed program is as it was at the commit
  pub over : (t : ℕ) → has_ended s t ≡ true → part t ≡ blank
  pub fixed : Fixed done h s
  -- the programs are those of the transactions that committed, in commit order
  pub order : txns done ≡ committed h
  -- the active transactions rise, and none of them has ended
  pub sorted : is_sorted nat_cmp s.active ≡ true
  pub live : (t : ℕ) (a : Active) → In (t, a) s.active → has_ended s t ≡ false

first_is : (a c : ℕ) (b d : Active) → ◌≡◌ {A = ℕ × Active} (a, b) (c, d) → a ≡ c
first_is a c b d e = ap (λ (x : ℕ × Active). x.0) e

module _ (h : List Entry) (s : State) (part : Parts) (done : Programs) (g : Told h s part done) (t : ℕ) (o : Op) (a : Reply) where
  abbrev e : Entry
  e = entry t o a

  abbrev h' : List Entry
  h' = h ++ e ∷ []

  -- An event that changes nothing.
  pub stays : is_granted a ≡ false → is_committed a ≡ false → Told h' s part done
  stays no_grant no_commit = record {
    reads = λ u lu ru. reads_silent u h e (part u).program (part u).scan (silent_refused u e.0 a no_grant) (g.reads u lu ru);
    stands = g.stands;
    over = g.over;
    fixed = fixed_more done h s s e (λ u over. (over, silent_refused u e.0 a no_grant)) g.fixed;
    order = g.order ∙ sym (committed_none h e no_commit);
    sorted = g.sorted;
    live = g.live;
  }

  module _ (live_t : has_ended s t ≡ false) where
    apart : (u : ℕ) → has_ended s u ≡ true → u ≢ t
    apart u over same = true_not_false (sym over ∙ ap (has_ended s) same ∙ live_t)

    -- A granted operation of t, after which its part is q.
    pub goes : (m : Map) (l : Locks) (x : Active) (q : Part) → is_committed a ≡ false → (q.rolling ≡ false → ReadsAs t h' q.program q.scan) → Stands q x
        → Told h' (state_after s m l (put nat_cmp t x s.active)) (with_part part t q) done
    goes m l x q no_commit reads stands =
        let part' : Parts = with_part part t q in
        let active' : List (ℕ × Active) = put nat_cmp t x s.active in
        record {
          reads = λ u lu. ⊎_elim
              (λ same. subst (λ z. (part' z).rolling ≡ false → ReadsAs z h' (part' z).program (part' z).scan) (sym same)
              (subst (λ z. z.rolling ≡ false → ReadsAs t h' z.program z.scan) (sym (with_same part t q)) reads))
              (λ ne. subst (λ z. z.rolling ≡ false → ReadsAs u h' z.program z.scan) (sym (with_other part t q u ne))
              (λ ru. reads_silent u h e (part u).program (part u).scan (silent_other u e.0 a (untied t u (λ d. ne (sym d)))) (g.reads u lu ru)))
              (cases_eq u t);
          stands = λ u lu. ⊎_elim
              (λ same. subst (λ z. Stands (part' z) (unwrap_or (find nat_cmp z active') idle)) (sym same)
              (subst (λ z. Stands z (unwrap_or (find nat_cmp t active') idle)) (sym (with_same part t q)) (subst (λ z. Stands q (unwrap_or z idle)) (sym (find_put_same s.active t x)) stands)))
              (λ ne. subst (λ z. Stands z (unwrap_or (find nat_cmp u active') idle)) (sym (with_other part t q u ne))
              (subst (λ z. Stands (part u) (unwrap_or z idle)) (sym (find_put_other s.active t u x ne)) (g.stands u lu)))
              (cases_eq u t);
          over = λ u ended. with_other part t q u (apart u ended) ∙ g.over u ended;
          fixed = fixed_more done h s (state_after s m l active') e (λ u ended. (ended, silent_other u e.0 a (untied t u (λ d. apart u ended (sym d))))) g.fixed;
          order = g.order ∙ sym (committed_none h e no_commit);
          sorted = sorted_put t x s.active g.sorted;
          live = λ u b i. ⊎_elim (λ same. ap (has_ended s) (sym (first_is t u x b same)) ∙ live_t) (λ old. g.live u b old) (in_put t x s.active (u, b) i);
        }

    -- The end of t.
    pub ends : (m : Map) (done' : Programs) → Fixed done' h' (ended_with s t m) → txns done' ≡ committed h' → Told h' (ended_with s t m) (with_part part t blank) done'
    ends m done' fixed order =
        let part' : Parts = with_part part t blank in
        let s' : State = ended_with s t m in
        let ended : (u : ℕ) → has_ended s' u ≡ ((t == u) || has_ended s u) = λ u. any_add_once (λ v. v == u) t s.ended in
        let was : (u : ℕ) → has_ended s' u ≡ false → has_ended s u ≡ false = λ u lu. or_right (t == u) (has_ended s u) (sym (ended u) ∙ lu) in
        let not_t : (u : ℕ) → has_ended s' u ≡ false → u ≢ t = λ u lu same. true_not_false (sym (ap (λ z. t == z) same ∙ tied t) ∙ or_left (t == u) (has_ended s u) (sym (ended u) ∙ lu)) in
        record {
          reads = λ u lu. subst (λ z. z.rolling ≡ false → ReadsAs u h' z.program z.scan) (sym (with_other part t blank u (not_t u lu)))
              (λ ru. reads_silent u h e (part u).program (part u).scan (silent_other u e.0 a (untied t u (λ d. not_t u lu (sym d)))) (g.reads u (was u lu) ru));
          stands = λ u lu. subst (λ z. Stands z (standing s' u)) (sym (with_other part t blank u (not_t u lu)))
              (subst (λ z. Stands (part u) (unwrap_or z idle)) (sym (find_filter_other s.active t u (not_t u lu))) (g.stands u (was u lu)));
          over = λ u eu. ⊎_elim
              (λ same. ap part' same ∙ with_same part t blank)
              (λ ne. with_other part t blank u ne ∙ g.over u (sym (ap (λ b. b || has_ended s u) (untied t u (λ d. ne (sym d)))) ∙ sym (ended u) ∙ eu))
              (cases_eq u t);
          fixed = fixed;
          order = order;
          sorted = sorted_where (λ x. not (x == t)) s.active g.sorted;
          live = λ u b i.
              let z = in_filter (λ (x : ℕ × Active). not (x.0 == t)) s.active (u, b) i in
              ended u ∙ or_false (t == u) (has_ended s u) (untied t u (λ d. other_of u t z.1 (sym d))) (g.live u b z.0);
        }
      where
        other_of : (u t : ℕ) → not (u == t) ≡ true → u ≡ t → ⊥
        other_of u t h e = true_not_false (sym h ∙ ap not (ap (λ z. z == t) e ∙ tied t))

    -- The ended stay so at the end of t, and t has ended then.
    pub stay_ended : (m : Map) (u : ℕ) → has_ended s u ≡ true → has_ended (ended_with s t m) u ≡ true
    stay_ended m u over = any_add_once (λ v. v == u) t s.ended ∙ or_true (t == u) (has_ended s u) over

    pub has_now_ended : (m : Map) → has_ended (ended_with s t m) t ≡ true
    has_now_ended m = any_add_once (λ v. v == t) t s.ended ∙ ap (λ b. b || has_ended s t) (tied t)

    -- What was fixed stays so.
    pub fixed_on : (m : Map) → Fixed done h' (ended_with s t m)
    fixed_on m = fixed_more done h s (ended_with s t m) e (λ u eu. (stay_ended m u eu, silent_other u e.0 a (untied t u (λ d. apart u eu (sym d))))) g.fixed

-- What the history tells doesn't depend on the map or the locks.
pub retold : (h : List Entry) (s : State) (part : Parts) (done : Programs) (m : Map) (l : Locks) → Told h s part done → Told h (state_after s m l s.active) part done
retold h s part done m l g = record {
  reads = g.reads;
  stands = g.stands;
  over = g.over;
  fixed = refixed done g.fixed;
  order = g.order;
  sorted = g.sorted;
  live = g.live;
}
  where
    refixed : (cs : Programs) → Fixed cs h s → Fixed cs h (state_after s m l s.active)
    refixed [] f = tt
    refixed (c ∷ cs) f = (f.0, refixed cs f.1)

module _ (h : List Entry) (s : State) (part : Parts) (done : Programs) (g : Told h s part done) where
  -- What an active transaction notes are the changes of its part.
  pub noted : (x : ℕ × Active) → In x s.active → x.1.changes ≡ (part x.0).changes
  noted x i =
      let st = g.stands x.0 (g.live x.0 x.1 i) in
      ap (λ (z : Option Active). let a = unwrap_or z idle in a.changes) (sym (sorted_finds x.0 x.1 s.active g.sorted i)) ∙ st.changes

  -- A transaction with changes is active.
  is_noted : (t q : ℕ) (b : Bool) → has_ended s t ≡ b → (f : Option Active) → find nat_cmp t s.active ≡ f → Changed (part t) q → SomeChanged s.active q
  is_noted t q true e f is c = absurd (subst (λ z. Changed z q) (g.over t e) c)
  is_noted t q false e None is c =
      let st = g.stands t e in
      absurd (subst (λ l. ChangedIn l q) (sym st.changes ∙ ap (λ (z : Option Active). let a = unwrap_or z idle in a.changes) is) c)
  is_noted t q false e (Some a) is c =
      let st = g.stands t e in
      changed_some s.active (t, a) q (found_in t a s.active is) (subst (λ l. ChangedIn l q) (sym st.changes ∙ ap (λ (z : Option Active). let a = unwrap_or z idle in a.changes) is) c)

  -- So what a part has changed is among the changes of an active transaction.
  pub has_noted : (t q : ℕ) → Changed (part t) q → SomeChanged s.active q
  has_noted t q c = is_noted t q (has_ended s t) refl (find nat_cmp t s.active) refl c

  -- A transaction rolls back in the state where it does in its part.
  rolls_by : (t : ℕ) (b : Bool) → has_ended s t ≡ b → (f : Option Active) → find nat_cmp t s.active ≡ f → (unwrap_or f idle).rolling ≡ (part t).rolling
  rolls_by t false e f is = let st = g.stands t e in ap (λ (z : Option Active). let a = unwrap_or z idle in a.rolling) (sym is) ∙ st.rolling
  rolls_by t true e None is = sym (ap (λ z. z.rolling) (g.over t e))
  rolls_by t true e (Some a) is = absurd (true_not_false (sym e ∙ g.live t a (found_in t a s.active is)))

  -- So t rolls back in the state where its part says so.
  pub rolls : (t : ℕ) → is_rolling s t ≡ (part t).rolling
  rolls t = rolls_by t (has_ended s t) refl (find nat_cmp t s.active) refl

  joined_programs : (cs : Programs) → Fixed cs h s → flat_map (λ t. operations_of t h) (txns cs) ≡ joined cs
  joined_programs [] f = refl
  joined_programs (c ∷ cs) f = ap₂ (λ a z. a ++ z) (reads_whole c.0 h c.1 f.0.1) (joined_programs cs f.1)

  -- The programs read from the history are those that are told.
  all_joined : all_operations (programs h) ≡ joined done
  all_joined = all_operations_programs h ∙ ap (flat_map (λ t. operations_of t h)) (sym g.order) ∙ joined_programs done g.fixed

  -- At the end of a run: at each key that an unfinished transaction changed, its undo leaves what the committed map has; and no other key differs from it.
  module _ (opening : Map) (is_map : IsMap s.map) (is_left : IsMap (map_left opening (joined done))) (left : Committed s.map (map_left opening (joined done)) part) where
    rolled_back_is : (unfinished : List (ℕ × Active)) → IsPermutation s.active unfinished → rolled_back s.map unfinished ≡ map_left opening (joined done)
    rolled_back_is unfinished order =
        let end : Map = map_left opening (joined done) in
        same_map (rolled_back s.map unfinished) end (IsMap-rolled_back s.map unfinished is_map) is_left (λ q.
        rolled s.map unfinished q (get end q) is_map
        (λ x j c n rn.
        let same = noted x (in_order s.active unfinished order x j) in
        let c' : Changed (part x.0) q = subst (λ l. ChangedIn l q) same c in
        ap (λ l. get (restore_all n l) q) same ∙ restore_all_same n s.map (part x.0).changes q (inl c') ∙ sym (left.before x.0 q c'))
        (⊎_elim
        (λ some. inr some)
        (λ none. inl (sym (left.now q (λ t b. none (some_changed_in s.active unfinished q (λ x j. in_other_order s.active unfinished order x j) (has_noted t q b))))))
        (some_changed unfinished q)))

    -- So the run is serializable in commit order.
    pub serial : AreAnswered opening (joined done) → IsSerialRun opening (record { history = h; state = s })
    serial answered = (
      subst (λ z. AreAnswered opening z) (sym all_joined) answered,
      λ unfinished order. rolled_back_is unfinished order ∙ ap (map_left opening) (sym all_joined),
    )

-- The end of a run: it is serializable in commit order, and with the unfinished rolled back the index is the map that the committed transactions leave.
use Rattle.std.specs.Prelude.{◌≡◌, ℕ, Bool, true, false, List, [], ◌∷◌, ◌++◌, Option, Some, None, refl, unwrap_or}
use Rattle.std.specs.Ordering.{nat_cmp}
use Rattle.std.specs.FinMap.{find}
use Rattle.std.specs.List.{flat_map}
use Rattle.std.specs.List.Sorted.{IsPermutation}
use Rattle.std.proofs.Common.{sym, ◌∙◌, ap, ap₂, subst, inl, inr, ⊎_elim}
use Rattle.kr_model.specs.Protocol.{Protocol}
use Rattle.kr_model.specs.Map.{Map, get, restore_all}
use Rattle.kr_model.specs.State.{State, Active, has_ended, idle}
use Rattle.kr_model.specs.Run.{Entry, operations_of, programs}
use Rattle.kr_model.specs.Serial.{AreAnswered, map_left, all_operations, rolled_back, IsSerialRun}
use Rattle.kr_model.proofs.Guarantees.{In}
use Rattle.kr_theorem.proofs.gaps.Maps.{same_map}
use Rattle.kr_theorem.proofs.gaps.Undo.{ChangedIn, restore_all_same}
use Rattle.kr_theorem.proofs.step.Parts.{Changed}
use Rattle.kr_theorem.proofs.run.Actives.{sorted_finds}
use Rattle.kr_theorem.proofs.run.Reading.{reads_whole, all_operations_programs}
use Rattle.kr_theorem.proofs.run.Programs.{Programs, Fixed, txns, joined}
use Rattle.kr_theorem.proofs.run.Known.{Known}
use Rattle.kr_theorem.proofs.run.Rollback.{SomeChanged, some_changed, changed_some, IsMap-rolled_back, rolled, in_order, in_other_order, some_changed_in, found_in}

joined_programs : (cs : Programs) (h : List Entry) (s : State) → Fixed cs h s → flat_map (λ t. operations_of t h) (txns cs) ≡ joined cs
joined_programs [] h s f = refl
joined_programs (c ∷ cs) h s f = ap₂ (λ a z. a ++ z) (reads_whole c.0 h c.1 f.0.1) (joined_programs cs h s f.1)

module _ (p : Protocol) (opening : Map) (h : List Entry) (s : State) (g : Known p opening h s) where
  -- The programs read from the history are those that are known.
  all_joined : all_operations (programs h) ≡ joined g.done
  all_joined = all_operations_programs h ∙ ap (flat_map (λ t. operations_of t h)) (sym g.order) ∙ joined_programs g.done h s g.fixed

  -- What an active transaction notes are the changes of its part.
  noted : (x : ℕ × Active) → In x s.active → x.1.changes ≡ (g.part x.0).changes
  noted x i =
      let st = g.stands x.0 (g.live x.0 x.1 i) in
      ap (λ (z : Option Active). let a = unwrap_or z idle in a.changes) (sym (sorted_finds x.0 x.1 s.active g.sorted i)) ∙ st.changes

  -- A transaction with changes is active.
  is_noted : (t q : ℕ) (b : Bool) → has_ended s t ≡ b → (f : Option Active) → find nat_cmp t s.active ≡ f → Changed (g.part t) q → SomeChanged s.active q
  is_noted t q true e f is c = absurd (subst (λ l. ChangedIn l q) (g.over t e) c)
  is_noted t q false e None is c =
      let st = g.stands t e in
      absurd (subst (λ l. ChangedIn l q) (sym st.changes ∙ ap (λ (z : Option Active). let a = unwrap_or z idle in a.changes) is) c)
  is_noted t q false e (Some a) is c =
      let st = g.stands t e in
      changed_some s.active (t, a) q (found_in t a s.active is) (subst (λ l. ChangedIn l q) (sym st.changes ∙ ap (λ (z : Option Active). let a = unwrap_or z idle in a.changes) is) c)

  -- At each key that an unfinished transaction changed, its undo leaves what the committed map has; and no other key differs from it.
  rolled_back_is : (unfinished : List (ℕ × Active)) → IsPermutation s.active unfinished → rolled_back s.map unfinished ≡ map_left opening (joined g.done)
  rolled_back_is unfinished order =
      let i = g.inv in
      let left : Map = map_left opening (joined g.done) in
      same_map (rolled_back s.map unfinished) left (IsMap-rolled_back s.map unfinished i.is_map) i.is_committed_map (λ q.
      rolled s.map unfinished q (get left q) i.is_map
      (λ x j c n rn.
      let same = noted x (in_order s.active unfinished order x j) in
      let c' : Changed (g.part x.0) q = subst (λ l. ChangedIn l q) same c in
      ap (λ l. get (restore_all n l) q) same ∙ restore_all_same n s.map (g.part x.0).changes q (inl c') ∙ sym (i.committed.before x.0 q c'))
      (⊎_elim
      (λ some. inr some)
      (λ none. inl (sym (i.committed.now q (λ t b. none (some_changed_in s.active unfinished q (λ x j. in_other_order s.active unfinished order x j) (is_noted t q (has_ended s t) refl (find nat_cmp t s.active) refl b))))))
      (some_changed unfinished q)))

  pub serial : IsSerialRun opening (record { history = h; state = s })
  serial = (
    subst (λ z. AreAnswered opening z) (sym all_joined) g.answered,
    λ unfinished order. rolled_back_is unfinished order ∙ ap (map_left opening) (sym all_joined),
  )

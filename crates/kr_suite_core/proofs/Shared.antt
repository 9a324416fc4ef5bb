-- How changes are shared out.
use Rattle.std.proofs.Common.{◌≡◌, inl, inr, refl, sym, subst, Bool, true, false, List, [], ◌∷◌, All}
use Rattle.std.specs.List.{Contains, filter_map}
use Rattle.std.proofs.lemmas.List.Elements.{All-contains, All-cons, All-head, All-nil, All-tail}
use Rattle.std.proofs.lemmas.List.Folds.{Any-from_list_any, list_any-from_Any}
use Rattle.kr_model.specs.declared.Event.{Event}
use Rattle.kr_model.specs.declared.Reply.{Reply}
use Rattle.kr_model.specs.Map.{Map}
use Rattle.kr_model.specs.Run.{Entry, replies_of, is_granted}
use Rattle.kr_ghost.specs.State.{opened}
use Rattle.kr_kinds.specs.Kinds.{IndexProtocol}
use Rattle.kr_kinds.specs.Runs.{run}
use Rattle.kr_stepping.specs.Played.{attempts}
use Rattle.kr_change.specs.declared.change.Change.{Change}
use Rattle.kr_change.specs.GhostChanges.{changed_index}
use Rattle.kr_change.specs.GhostEvery.{index_changes_of}
use Rattle.kr_apart.specs.Apart.{is_blocked, PartAtTheLast, TellsApart}
use Rattle.kr_apart.proofs.ScriptParts.{not_granted}
use Rattle.kr_suite_core.specs.Alike.{AlikeIndexes}
use Rattle.kr_suite_core.specs.Equal.{is_equal}
use Rattle.kr_suite_core.specs.Judged.{IsJudged, changes_in, alike_of, left_of, is_named, is_told}
use Rattle.kr_suite_core.specs.Suite.{IsTested, IsTold, IsSharedOut, IsSuite}
use Rattle.kr_suite_core.specs.declared.judged.Judged.{Judged}
use Rattle.kr_suite_core.specs.declared.classes.Suite.{Suite}
use Rattle.kr_suite_core.specs.declared.tested.Tested.{Tested}
use Rattle.kr_suite_core.proofs.EqualChanges.{equal_same, equal_self}

-- No reply is both granted and blocked.
both : (r : Reply) → is_granted r ≡ true → is_blocked r ≡ true → ⊥
both r g b = let n = not_granted r b in absurd (cc)

-- Replies don't part from themselves.
pub never_same : (rs : List Reply) → PartAtTheLast rs rs → ⊥
never_same [] h = h
never_same (r ∷ []) (inl (g, b)) = both r g b
never_same (r ∷ []) (inr (b, g)) = both r g b
never_same (r ∷ x ∷ rs) h = never_same (x ∷ rs) h.1

-- Alike tables aren't told apart.
pub not_alike : (p q : IndexProtocol) (opening : Map) (events : List Event) → TellsApart p q opening events → AlikeIndexes p q → ⊥
not_alike p q opening events tells alike =
    let rs = replies_of (run p (opened opening) (attempts events)).history in
    never_same rs (subst (λ (h : List Entry). PartAtTheLast rs (replies_of h)) (sym (alike opening (attempts events) tells.is_map).history) tells.replies)

-- A part names a change where the test says so,
pub told_from : (parts : List Tested) (c : Change) → is_told parts c ≡ true → IsTold parts c
told_from parts c e =
    let some = Any-from_list_any (λ t. is_named t c) parts e in
    (some.0, some.1, some.2, some.3, named (some.1) (some.4))
  where
    named : (t : Tested) → is_named t c ≡ true → Contains t.tells.items c
    named t e =
        let one = Any-from_list_any (is_equal c) t.tells.items e in
        let same : c ≡ one.1 = equal_same c one.1 one.4 in
        subst (λ (d : Change). Contains t.tells.items d) (sym same) (one.0, one.2, one.3)

-- and only there.
pub told_to : (parts : List Tested) (c : Change) → IsTold parts c → is_told parts c ≡ true
told_to parts c told = list_any-from_Any (λ t. is_named t c) parts (told.0, told.1, told.2, told.3, named (told.1) (told.4))
  where
    named : (t : Tested) → Contains t.tells.items c → is_named t c ≡ true
    named t has = list_any-from_Any (is_equal c) t.tells.items (has.0, c, has.1, has.2, equal_self c)

-- What is told isn't alike.
pub told_not_alike : (p : IndexProtocol) (parts : List Tested) (c : Change) → All (IsTested p) parts → IsTold parts c → AlikeIndexes p (changed_index p c) → ⊥
told_not_alike p parts c tested told alike =
    let t = told.1 in
    let is : IsTested p t = All-contains (IsTested p) parts t tested (told.0, told.2, told.3) in
    not_alike p (changed_index p c) t.opening.items t.events.items (All-contains (λ c. TellsApart p (changed_index p c) t.opening.items t.events.items) t.tells.items c is.tells told.4) alike

module _ (p : IndexProtocol) (parts : List Tested) (tested : All (IsTested p) parts) where
  abbrev Shared : List Judged → Type 0
  Shared js = IsSharedOut (IsTold parts) (changes_in js) (filter_map alike_of js) (filter_map (left_of parts) js)

  one_shared : (j : Judged) (js : List Judged) → IsJudged p j → Shared js → (alike told : Bool) → j.is_alike ≡ alike → is_told parts j.change ≡ told → Shared (j ∷ js)
  one_shared j js judged rest true told ea et = rw ea (inr (λ t. told_not_alike p parts j.change tested t (judged ea), inl (filter_map alike_of js, refl, rest)))
  one_shared j js judged rest false true ea et = rw (ea, et) (inl (told_from parts j.change et, rest))
  one_shared j js judged rest false false ea et = rw (ea, et) (inr (λ t. let e = told_to parts j.change t in absurd (cc), inr (filter_map (left_of parts) js, refl, rest)))

  -- The changes are shared out.
  pub shared : (js : List Judged) → All (IsJudged p) js → Shared js
  shared [] judged = (refl, refl)
  shared (j ∷ js) judged = one_shared j js (All-head (IsJudged p) j js judged) (shared js (All-tail (IsJudged p) j js judged)) j.is_alike (is_told parts j.change) refl refl

one_alike : (p : IndexProtocol) (j : Judged) (js : List Judged) → IsJudged p j → All (λ c. AlikeIndexes p (changed_index p c)) (filter_map alike_of js) → (b : Bool) → j.is_alike ≡ b → All (λ c. AlikeIndexes p (changed_index p c)) (filter_map alike_of (j ∷ js))
one_alike p j js judged rest true e = rw e (All-cons (λ c. AlikeIndexes p (changed_index p c)) j.change (filter_map alike_of js) (judged e) rest)
one_alike p j js judged rest false e = rw e rest

-- What is said to be alike is.
pub alike : (p : IndexProtocol) (js : List Judged) → All (IsJudged p) js → All (λ c. AlikeIndexes p (changed_index p c)) (filter_map alike_of js)
alike p [] judged = All-nil (λ c. AlikeIndexes p (changed_index p c))
alike p (j ∷ js) judged = one_alike p j js (All-head (IsJudged p) j js judged) (alike p js (All-tail (IsJudged p) j js judged)) j.is_alike refl

-- So the suite is one of the table.
pub is_suite : (p : IndexProtocol) (s : Suite) (js : List Judged) → changes_in js ≡ index_changes_of p → All (IsJudged p) js → All (IsTested p) s.parts.items → s.alike.items ≡ filter_map alike_of js → s.left.items ≡ filter_map (left_of s.parts.items) js → IsSuite p s
is_suite p s js all judged tested ea el = record {
  parts = tested;
  alike = subst (λ (cs : List Change). All (λ c. AlikeIndexes p (changed_index p c)) cs) (sym ea) (alike p js judged);
  shared = subst (λ (cs : List Change). IsSharedOut (IsTold s.parts.items) cs s.alike.items s.left.items) all
      (subst (λ (cs : List Change). IsSharedOut (IsTold s.parts.items) (changes_in js) cs s.left.items) (sym ea)
      (subst (λ (cs : List Change). IsSharedOut (IsTold s.parts.items) (changes_in js) (filter_map alike_of js) cs) (sym el)
      (shared p s.parts.items tested js judged)));
}

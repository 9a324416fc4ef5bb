-- Parts that were tried.
use Rattle.std.proofs.Common.{◌≡◌, zero, ◌<◌, true, refl, sym, subst, List, [], ◌∷◌, All, length, Bool, false, arith}
use Rattle.std.specs.List.{Contains, filter_map}
use Rattle.std.proofs.lemmas.List.Elements.{All-cons, All-nil, Contains-append_right}
use Rattle.kr_model.specs.declared.Event.{Event}
use Rattle.kr_model.specs.Map.{Map, IsMap}
use Rattle.kr_kinds.specs.Kinds.{IndexProtocol}
use Rattle.kr_change.specs.declared.change.Change.{Change}
use Rattle.kr_change.specs.declared.change.Change.TheVariants.{Compatible}
use Rattle.kr_change.specs.GhostChanges.{changed_index}
use Rattle.kr_apart.specs.Apart.{TellsApart}
use Rattle.kr_suite_core.specs.Judged.{changes_in, other_of}
use Rattle.kr_suite_core.specs.Suite.{IsTested, replies_to}
use Rattle.kr_suite_core.specs.Tried.{IsNamed}
use Rattle.kr_suite_core.specs.declared.judged.Judged.{Judged}
use Rattle.kr_suite_core.specs.declared.tested.Tested.{Tested}

-- Where a script tells a change apart, its opening is a map.
pub opening_is_map : (p : IndexProtocol) (o : Map) (es : List Event) (cs : List Change) → 0 < length cs → All (IsNamed p o es) cs → IsMap o
opening_is_map p o es cs some named = (named zero (Compatible 0 0 true) some).tells.is_map

-- What was tried is tested.
pub is_tested : (p : IndexProtocol) (o : Map) (es : List Event) (t : Tested) → t.opening.items ≡ o → t.events.items ≡ es → t.replies.items ≡ replies_to p t → 0 < length t.tells.items → All (IsNamed p o es) t.tells.items → IsTested p t
is_tested p o es t opening events replies some named = record {
  replies = replies;
  changes = λ k d lt. (named k d lt).change;
  some = some;
  tells = λ k d lt. told (named k d lt);
}
  where
    told : {c : Change} → IsNamed p o es c → TellsApart p (changed_index p c) t.opening.items t.events.items
    told {c} is = subst (λ (m : Map). TellsApart p (changed_index p c) m t.events.items) (sym opening) (subst (λ (fs : List Event). TellsApart p (changed_index p c) o fs) (sym events) is.tells)

one_more : (j : Judged) (js : List Judged) → All (Contains (changes_in js)) (filter_map other_of js) → All (Contains (changes_in (j ∷ js))) (filter_map other_of (j ∷ js))
one_more j js within = by j.is_alike refl
  where
    more : All (Contains (changes_in (j ∷ js))) (filter_map other_of js)
    more k d lt = Contains-append_right (j.change ∷ []) (changes_in js) _ (within k d lt)

    by : (b : Bool) → j.is_alike ≡ b → All (Contains (changes_in (j ∷ js))) (filter_map other_of (j ∷ js))
    by true e = rw e more
    by false e = rw e (All-cons (Contains (changes_in (j ∷ js))) j.change (filter_map other_of js) (zero, omega arith, refl) more)

-- The others are among the changes.
pub others_within : (js : List Judged) → All (Contains (changes_in js)) (filter_map other_of js)
others_within [] = All-nil (Contains [])
others_within (j ∷ js) = one_more j js (others_within js)

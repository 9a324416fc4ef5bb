-- What a script shows.
use Rattle.std.proofs.Common.{◌≡◌, ◌<◌, ◌+◌, ◌++◌, ◌∷◌, [], ℕ, List, All, get_or, length, map, arith, subst, take}
use Rattle.std.proofs.Math.Seq.{take-suc}
use Rattle.std.proofs.lemmas.List.{map-append}
use Rattle.std.proofs.lemmas.List.Elements.{All-push}
use Rattle.std.proofs.lemmas.Grind.{common_steps}
use Rattle.kr_model.specs.declared.Event.{Event}
use Rattle.kr_model.specs.Map.{Map}
use Rattle.kr_kinds.specs.Kinds.{IndexProtocol}
use Rattle.kr_change.specs.declared.change.Change.{Change}
use Rattle.kr_change.specs.GhostChanges.{changed_index}
use Rattle.kr_relax_core.specs.declared.relax.Relaxed.{Relaxed}
use Rattle.kr_relax_text.specs.declared.scripts.Relaxation.{Relaxation}
use Rattle.kr_relax_text.specs.Scripts.{AreShown, IsShown, LetsThrough}

-- it shows it of what is equal to the protocol, the change, the opening map and the steps
pub same_shown : (p q : IndexProtocol) (c d : Change) (m n : Map) (es fs : List Event) → q ≡ p → d ≡ c → m ≡ n → es ≡ fs → LetsThrough p (changed_index q d) m es → LetsThrough p (changed_index p c) n fs
same_shown p q c d m n es fs base change opening events shown =
    subst (λ (gs : List Event). LetsThrough p (changed_index p c) n gs) events
    (subst (λ (o : Map). LetsThrough p (changed_index p c) o es) opening
    (subst (λ (e : Change). LetsThrough p (changed_index p e) m es) change
    (subst (λ (r : IndexProtocol). LetsThrough p (changed_index r d) m es) base shown)))

-- one relaxation more
relaxed_more : (cs : List Relaxed) (k : ℕ) (list : List Relaxation) (r : Relaxation) → k < length cs → map (λ s. s.relaxed) list ≡ take k cs → r.relaxed ≡ get_or cs k r.relaxed → map (λ s. s.relaxed) (list ++ (r ∷ [])) ≡ take (k + 1) cs
relaxed_more cs k list r within are is = grind (arith, common_steps, take-suc, map-append, within, are, is)

-- and its script
scripts_more : (p : IndexProtocol) (list : List Relaxation) (r : Relaxation) → All (IsShown p) list → IsShown p r → All (IsShown p) (list ++ (r ∷ []))
scripts_more p list r are shown = All-push (IsShown p) list r are shown

-- one more has its script
pub one_more : (p : IndexProtocol) (cs : List Relaxed) (k : ℕ) (list : List Relaxation) (r : Relaxation) → k < length cs → AreShown p (take k cs) list → r.relaxed ≡ get_or cs k r.relaxed → IsShown p r → AreShown p (take (k + 1) cs) (list ++ (r ∷ []))
one_more p cs k list r within are is shown = record { relaxations = relaxed_more cs k list r within are.relaxations is; scripts = scripts_more p list r are.scripts shown }

-- What suspects name is a reason of their cases.
use Rattle.std.specs.Prelude.{◌≡◌, ℕ, ◌+◌, ◌<◌, List, [], ◌∷◌, ◌++◌, All, Option, Some, IfSome, length, take, get_or, refl}
use Rattle.std.specs.List.{Any}
use Rattle.std.proofs.Common.{sym, subst, ◌∙◌, inl, inr}
use Rattle.std.proofs.lemmas.List.{get_or_default, take_more}
use Rattle.std.proofs.lemmas.List.Elements.{All-push, All-weaker}
use Rattle.kr_model.specs.declared.FailedCase.{FailedCase}
use Rattle.kr_model.specs.Protocol.{Protocol}
use Rattle.kr_explain_causes.specs.declared.blame.Blame.{Blame}
use Rattle.kr_explain_causes.specs.declared.cause.Suspect.{Suspect}
use Rattle.kr_explain_causes.specs.declared.reasons.Reasons.{Reasons}
use Rattle.kr_explain_causes.specs.Blames.{IsBlamed}
use Rattle.kr_explain_causes.specs.Causes.{IsSublist, cases_of}
use Rattle.kr_explain_causes.specs.Shares.{AreReasons, IsNamedBy, IsNamedFor, IsSuspect, Names}
use Rattle.kr_explain_causes.proofs.InOrder.{left_out, taken_on}
use Rattle.kr_explain_causes.proofs.Sharing.{cases_of-take}

-- the reasons of a suspect are named by it
pub named_by_first : (suspects : List Suspect) (number : ℕ) (s : Suspect) → number < length suspects → IsNamedBy suspects (get_or suspects number s).reasons.first number
named_by_first suspects number s within =
    let b = (get_or suspects number s).reasons.first in
    record { within = within; names = λ d. subst (λ (z : Suspect). Names z.reasons b) (get_or_default suspects number s d within) (inl refl) }

pub named_by_other : (suspects : List Suspect) (number : ℕ) (s : Suspect) (b : Blame) → number < length suspects → Any (λ o. o ≡ Some b) (get_or suspects number s).reasons.others → IsNamedBy suspects b number
named_by_other suspects number s b within has = record { within = within; names = λ d. subst (λ (z : Suspect). Names z.reasons b) (get_or_default suspects number s d within) (inr has) }

-- the leader's suspect names what it blames, wherever it is met
pub leader_names : (suspects : List Suspect) (b : Blame) (first number : ℕ) (d : Suspect) → IsNamedBy suspects b first → number ≡ first → Names (get_or suspects number d).reasons b
leader_names suspects b first number d named same = subst (λ (n : ℕ). Names (get_or suspects n d).reasons b) (sym same) (named.names d)

-- one case more that is explained: a suspect names what is blamed for it
pub named_next : (suspects : List Suspect) (b : Blame) (i : ℕ) (d : Suspect) (taken taken2 : List FailedCase) → i < length suspects → Names (get_or suspects i d).reasons b
    → All (IsNamedFor suspects b) taken → taken2 ≡ taken ++ (get_or suspects i d).case ∷ [] → All (IsNamedFor suspects b) taken2
named_next suspects b i d taken taken2 low names all more =
    let s = get_or suspects i d in
    let named : IsNamedFor suspects b s.case = (i, s, low, get_or_default suspects i s d low, (refl, names)) in
    subst (All (IsNamedFor suspects b)) (sym more) (All-push (IsNamedFor suspects b) taken s.case all named)

-- one suspect more, whose case is explained
pub in_order_taken : (suspects : List Suspect) (i : ℕ) (d : Suspect) (taken taken2 : List FailedCase) (left left2 : List Suspect) → i < length suspects → IsSublist taken (cases_of (take i suspects)) → IsSublist left (take i suspects)
    → taken2 ≡ taken ++ (get_or suspects i d).case ∷ [] → left2 ≡ left → IsSublist taken2 (cases_of (take (i + 1) suspects)) × IsSublist left2 (take (i + 1) suspects)
in_order_taken suspects i d taken taken2 left left2 low explained is more same =
    let s = get_or suspects i d in (
      subst (λ (xs : List FailedCase). IsSublist xs (cases_of (take (i + 1) suspects))) (sym more)
          (subst (IsSublist (taken ++ s.case ∷ [])) (sym (cases_of-take suspects i d low)) (taken_on taken (cases_of (take i suspects)) s.case explained)),
      subst (λ (xs : List Suspect). IsSublist xs (take (i + 1) suspects)) (sym same)
          (subst (IsSublist left) (sym (take_more suspects i d low)) (left_out left (take i suspects) s is)),
    )

-- one suspect more, that is left
pub in_order_kept : (suspects : List Suspect) (i : ℕ) (d : Suspect) (taken taken2 : List FailedCase) (left left2 : List Suspect) → i < length suspects → IsSublist taken (cases_of (take i suspects)) → IsSublist left (take i suspects)
    → taken2 ≡ taken → left2 ≡ left ++ get_or suspects i d ∷ [] → IsSublist taken2 (cases_of (take (i + 1) suspects)) × IsSublist left2 (take (i + 1) suspects)
in_order_kept suspects i d taken taken2 left left2 low explained is same more =
    let s = get_or suspects i d in (
      subst (λ (xs : List FailedCase). IsSublist xs (cases_of (take (i + 1) suspects))) (sym same)
          (subst (IsSublist taken) (sym (cases_of-take suspects i d low)) (left_out taken (cases_of (take i suspects)) s.case explained)),
      subst (λ (xs : List Suspect). IsSublist xs (take (i + 1) suspects)) (sym more)
          (subst (IsSublist (left ++ s ∷ [])) (sym (take_more suspects i d low)) (taken_on left (take i suspects) s is)),
    )

-- what is among the reasons of a case is to blame for it
names_blamed : (p : Protocol) (f : FailedCase) (r : Reasons) (b : Blame) → AreReasons p f r → Names r b → IsBlamed p b f
names_blamed p f r b are (inl e) = subst (λ (x : Blame). IsBlamed p x f) e are.first
names_blamed p f r b are (inr (k, o, low, at, e)) =
    let there : IfSome o (λ x. IsBlamed p x f) = subst (λ (x : Option Blame). IfSome x (λ x. IsBlamed p x f)) at (are.others k o low) in
    subst (λ (x : Option Blame). IfSome x (λ x. IsBlamed p x f)) e there

named_blamed : (p : Protocol) (suspects : List Suspect) (b : Blame) (f : FailedCase) → All (IsSuspect p) suspects → IsNamedFor suspects b f → IsBlamed p b f
named_blamed p suspects b f reasons (k, s, low, at, (e, names)) =
    subst (IsBlamed p b) e (names_blamed p s.case s.reasons b (subst (IsSuspect p) at (reasons k s low)) names)

-- what suspects name for cases is to blame for each
pub each_blamed : (p : Protocol) (suspects : List Suspect) (b : Blame) (cases : List FailedCase) → All (IsSuspect p) suspects → All (IsNamedFor suspects b) cases → All (IsBlamed p b) cases
each_blamed p suspects b cases reasons named = All-weaker (IsNamedFor suspects b) (IsBlamed p b) (λ f is. named_blamed p suspects b f reasons is) cases named

-- a reason that is there is one of the list
pub reason_at : (reasons : List (Option Blame)) (i : ℕ) (o : Option Blame) (b : Blame) → i < length reasons → get_or reasons i o ≡ Some b → Any (λ r. r ≡ Some b) reasons
reason_at reasons i o b low is = (i, Some b, low, get_or_default reasons i (Some b) o low ∙ is, refl)

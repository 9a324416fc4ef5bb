-- A list of twins to which nothing is added has all.
use Rattle.std.proofs.Common.{ℕ, ◌≡◌, ◌<◌, ◌∙◌, List, length, get_or, ap, refl, subst}
use Rattle.std.specs.Prelude.{Contains}
use Rattle.std.proofs.lemmas.List.{get_or_default}
use Rattle.kr_kinds.specs.Kinds.{IndexProtocol, table_of}
use Rattle.kr_relax_core.specs.declared.place.Spot.{Spot}
use Rattle.kr_relax_core.specs.declared.twins.Twin.{Twin}
use Rattle.kr_relax_core.specs.Met.{IsMetBy, request, spot}
use Rattle.kr_relax_core.specs.Twins.{AreTwins, LeadsTo, LeadsNexts, LeadsOwns, LeadsAll, twin_of, twin_at, none, grown}

-- What is in the list stands at its place.
pub at_place : (list : List Twin) (k : ℕ) (x : Twin) → k < length list → get_or list k x ≡ x → twin_at list k ≡ x
at_place list k x within is = get_or_default list k (twin_of 0 0) x within ∙ is

pub closed : (p q : IndexProtocol) (list : List Twin) (spots : List Spot) → IsMetBy p spots → Contains list (twin_of 0 0) → LeadsAll p q list list spots (length spots)
    → (m n : ℕ) → AreTwins p q m n → Contains list (twin_of m n)
closed p q list spots met first leads _ _ none = first
closed p q list spots met first leads _ _ (grown y own next own' next' is one two) =
    let there = met.listed y own next 0 is in
    let a = closed p q list spots met first leads own own' one in
    let b = closed p q list spots met first leads next next' two in
    let here : LeadsOwns p q list list (length list) (request y own next) =
    subst (λ (x : Spot). x.held ≡ 0 → LeadsOwns p q list list (length list) x.request) there.2 (leads there.0 (spot y own next 0) there.1) refl in
    let at_own : twin_at list a.0 ≡ twin_of own own' = at_place list a.0 (twin_of own own') a.1 a.2 in
    let at_next : twin_at list b.0 ≡ twin_of next next' = at_place list b.0 (twin_of next next') b.1 b.2 in
    let on : LeadsNexts p q list list (length list) (request y own next) own' =
    subst (λ (x : Twin). LeadsNexts p q list list (length list) (request y own next) x.twin) at_own (here a.0 a.1 (ap (λ (x : Twin). x.mode) at_own)) in
    subst (λ (x : Twin). LeadsTo p q list (request y own next) own' x.twin) at_next (on b.0 b.1 (ap (λ (x : Twin). x.mode) at_next))

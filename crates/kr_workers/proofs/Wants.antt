-- What each transaction is to do, in place of what was dealt to it.
use Rattle.std.proofs.Common.{◌≡◌, ℕ, suc, ◌+◌, ◌<◌, ◌==◌, Bool, true, false, cond, List, [], ◌∷◌, ◌++◌, length, take, get_or, Option, Some, None, refl, ap, sym, ◌∙◌, subst, arith}
use Rattle.std.specs.Prelude.{◌≢◌, All, AllPairs, Contains, IfNone, option_map, unwrap_or}
use Rattle.std.specs.BTreeMap.{get, is_at}
use Rattle.std.specs.Ordering.{nat_cmp}
use Rattle.std.proofs.lemmas.Bool.{eqb-true}
use Rattle.std.proofs.lemmas.Bool.Decides.{nat_tests}
use Rattle.std.proofs.lemmas.List.{take_more, get_or-take, length-take-le, length-append, get_or_default, get_or_append_left}
use Rattle.std.proofs.lemmas.List.Elements.{All-push, Contains-push}
use Rattle.kr_model.specs.declared.Op.{Op}
use Rattle.kr_model.specs.declared.Op.TheVariants.{Abort}
use Rattle.kr_script.specs.declared.not_done.StepFault.{StepFault}
use Rattle.kr_workers.specs.Follows.{done_from, closed, stays_active}
use Rattle.kr_workers.specs.Dealt.{AreWanted, hand_in}
use Rattle.kr_workers.proofs.Hands.{Hands, Hand, hand_there, same_test}

-- One transaction --

-- Without faults all is done.
pub none_left_out : (faults : List StepFault) (t n : ℕ) (os : List Op) → length faults ≡ 0 → done_from faults t n os ≡ os
none_left_out [] t n [] none = refl
none_left_out [] t n (o ∷ os) none = ap (λ (ps : List Op). o ∷ ps) (none_left_out [] t (suc n) os none)
none_left_out (f ∷ fs) t n os none = absurd (omega (arith, none))

pub closed_active : (os : List Op) → stays_active os ≡ true → os ++ Abort ∷ [] ≡ closed os
closed_active os is = sym (ap (λ (b : Bool). cond b (os ++ Abort ∷ []) os) is)

pub closed_ended : (os : List Op) → stays_active os ≡ false → os ≡ closed os
closed_ended os is = sym (ap (λ (b : Bool). cond b (os ++ Abort ∷ []) os) is)

-- In a map --

-- What the map finds.
pub hand_found : (m : Hands) (t : ℕ) (o : Option Hand) → o ≡ get nat_cmp m t → hand_in m t ≡ unwrap_or (option_map (λ (v : Hand). v.items) o) []
hand_found m t o found = hand_there m.entries t ∙ ap (λ (x : Option Hand). unwrap_or (option_map (λ (v : Hand). v.items) x) []) (sym found)

-- One hand is put in place of another.
pub hand_put : (m w : Hands) (t : ℕ) (v : Hand) → ((q : ℕ) → get nat_cmp w q ≡ cond (is_at (nat_cmp t) q) (Some v) (get nat_cmp m q)) → hand_in w t ≡ v.items
hand_put m w t v put = hand_found w t (Some v) (sym (put t ∙ ap (λ (b : Bool). cond b (Some v) (get nat_cmp m t)) (same_test t t ∙ same)))
  where
    same : (t == t) ≡ true
    same = grind (arith, nat_tests)

pub hand_beside : (m w : Hands) (t : ℕ) (v : Hand) → ((q : ℕ) → get nat_cmp w q ≡ cond (is_at (nat_cmp t) q) (Some v) (get nat_cmp m q)) → (u : ℕ) → u ≢ t → hand_in w u ≡ hand_in m u
hand_beside m w t v put u other =
    hand_there w.entries u
    ∙ ap (λ (x : Option Hand). unwrap_or (option_map (λ (h : Hand). h.items) x) []) (put u ∙ ap (λ (b : Bool). cond b (Some v) (get nat_cmp m u)) (same_test t u ∙ apart))
    ∙ sym (hand_there m.entries u)
  where
    apart : (u == t) ≡ false
    apart = by (u == t) refl
      where
        by : (b : Bool) → (u == t) ≡ b → b ≡ false
        by false is = refl
        by true is = absurd (other (eqb-true u t is))

-- One transaction more --

pub wanted_more : (faults : List StepFault) (txns : List ℕ) (i d : ℕ) (m h w : Hands) → i < length txns
    → AllPairs (λ t u. t ≢ u) txns
    → AreWanted faults (take i txns) m h
    → hand_in w (get_or txns i d) ≡ closed (done_from faults (get_or txns i d) 1 (hand_in h (get_or txns i d)))
    → ((t : ℕ) → t ≢ get_or txns i d → hand_in w t ≡ hand_in h t)
    → AreWanted faults (take (i + 1) txns) m w
wanted_more faults txns i d m h w within apart so_far own others =
    subst (λ (ts : List ℕ). AreWanted faults ts m w) (sym (take_more txns i d within)) (record {
      own = All-push Own (take i txns) u before now;
      others = λ t none. others t (λ is. none (last t is)) ∙ so_far.others t (λ has. none (longer t has));
    })
  where
    u : ℕ
    u = get_or txns i d

    Own : ℕ → Type 0
    Own t = hand_in w t ≡ closed (done_from faults t 1 (hand_in m t))

    taken : (k e : ℕ) → k < length (take i txns) → k < i
    taken k e k_in = omega (arith, k_in, length-take-le i txns (omega (arith, within)))

    new : (k e : ℕ) → k < length (take i txns) → get_or (take i txns) k e ≢ u
    new k e k_in is = apart k i e (taken k e k_in) within (sym (get_or-take i txns k e (taken k e k_in)) ∙ is ∙ get_or_default txns i d e within)

    before : All Own (take i txns)
    before k e k_in = others (get_or (take i txns) k e) (new k e k_in) ∙ so_far.own k e k_in

    now : Own u
    now = own ∙ ap (λ (os : List Op). closed (done_from faults u 1 os)) (so_far.others u (λ has. new has.0 u has.1 has.2))

    last : (t : ℕ) → t ≡ u → Contains (take i txns ++ u ∷ []) t
    last t is = subst (Contains (take i txns ++ u ∷ [])) (sym is) (Contains-push (take i txns) u)

    longer : (t : ℕ) → Contains (take i txns) t → Contains (take i txns ++ u ∷ []) t
    longer t has = (has.0, omega (arith, has.1, length-append (take i txns) (u ∷ [])), get_or_append_left (take i txns) (u ∷ []) t has.0 has.1 ∙ has.2)

-- Whether a list is empty.
pub empty_is : (os : List Op) (b : Bool) → b ≡ (length os == 0) → (b ≡ true → os ≡ []) × (os ≡ [] → b ≡ true)
empty_is [] b is = (λ yes. refl, λ none. is)
empty_is (o ∷ os) b is = (λ yes. absurd (more (sym yes ∙ is)), λ none. absurd (cc))
  where
    more : true ≡ (length (o ∷ os) == 0) → ⊥
    more same = grind (arith, nat_tests)

-- What holds in any case holds where there is none.
pub if_none : (o : Option ℕ) (P : Type 0) → P → IfNone o P
if_none None P p = p
if_none (Some n) P p = tt

-- How many modes are tried, and what changes that are made of one have in common.
use Rattle.std.specs.Prelude.{◌≡◌, ◌≢◌, ℕ, ◌+◌, ◌<◌, ◌&&◌, nat_lt, Option, Some, None, refl, if◌then◌else◌}
use Rattle.std.proofs.Common.{ap, sym, subst, ◌∙◌, arith, List, All}
use Rattle.std.proofs.lemmas.Bool.Decides.{nat_tests}
use Rattle.std.proofs.lemmas.List.Elements.{All-weaker}
use Rattle.kr_explain_causes.specs.declared.blame.Blame.{Blame}
use Rattle.kr_explain_causes.specs.declared.blame.Blame.TheVariants.{Place, Request, Conversion, Pair}
use Rattle.kr_change.specs.declared.change.Change.{Change}
use Rattle.kr_change.specs.declared.change.Change.TheVariants as change
use Rattle.kr_change.specs.Changes.{with_mode}
use Rattle.kr_explain_causes.specs.Mends.{AreAlike, IsOf}

-- whether a mode was passed, of those below n from 1 on
abbrev pub passed : Option ℕ → ℕ → ℕ
passed None n = 0
passed (Some m) n = if nat_lt 0 m && nat_lt m n then 1 else 0

pub passed_here : (m : ℕ) → 0 < m → passed (Some m) (m + 1) ≡ passed (Some m) m + 1
passed_here m some = grind (arith, nat_tests)

pub passed_other : (one : Option ℕ) (m : ℕ) → one ≢ Some m → passed one (m + 1) ≡ passed one m
passed_other None m other = refl
passed_other (Some k) m other = step (λ e. other (ap Some e))
  where
    step : k ≢ m → passed (Some k) (m + 1) ≡ passed (Some k) m
    step apart = grind (arith, nat_tests)

-- a change with a mode is alike to that without, and of the same entry
pub alike_with : (m : ℕ) (t : Change) → AreAlike (with_mode m t) t
alike_with m (change.Request row side own_next (Some (mode, span))) = refl
alike_with m (change.Request row side own_next None) = refl
alike_with m (change.GhostRequest row side (Some (mode, span))) = refl
alike_with m (change.GhostRequest row side None) = refl
alike_with m (change.Convert held requested mode) = refl
alike_with m (change.Heir held mode) = refl
alike_with m (change.Compatible requested held is_compatible) = refl

pub of_with : (b : Blame) (m : ℕ) (t : Change) → IsOf b t → IsOf b (with_mode m t)
of_with (Place row side) m (change.Request r s own_next request) is = is
of_with (Place row side) m (change.GhostRequest r s request) is = absurd is
of_with (Place row side) m (change.Convert held requested mode) is = absurd is
of_with (Place row side) m (change.Heir held mode) is = absurd is
of_with (Place row side) m (change.Compatible requested held is_compatible) is = absurd is
of_with (Request row side asked) m (change.Request r s own_next request) is = is
of_with (Request row side asked) m (change.GhostRequest r s request) is = absurd is
of_with (Request row side asked) m (change.Convert held requested mode) is = absurd is
of_with (Request row side asked) m (change.Heir held mode) is = absurd is
of_with (Request row side asked) m (change.Compatible requested held is_compatible) is = absurd is
of_with (Conversion h q) m (change.Request r s own_next request) is = absurd is
of_with (Conversion h q) m (change.GhostRequest r s request) is = absurd is
of_with (Conversion h q) m (change.Convert held requested mode) is = is
of_with (Conversion h q) m (change.Heir held mode) is = absurd is
of_with (Conversion h q) m (change.Compatible requested held is_compatible) is = absurd is
of_with (Pair q h) m (change.Request r s own_next request) is = absurd is
of_with (Pair q h) m (change.GhostRequest r s request) is = absurd is
of_with (Pair q h) m (change.Convert held requested mode) is = absurd is
of_with (Pair q h) m (change.Heir held mode) is = absurd is
of_with (Pair q h) m (change.Compatible requested held is_compatible) is = is

-- a change is made of one, for an entry
pub record IsMadeOf (Is : Change → Type 0) (t c : Change) : Type 0 where
  pub alike : AreAlike c t
  pub of_entry : Is c

pub made_with : (Is : Change → Type 0) (m : ℕ) (t c : Change) → c ≡ with_mode m t → Is (with_mode m t) → IsMadeOf Is t c
made_with Is m t c same is = subst (IsMadeOf Is t) (sym same) (record { alike = alike_with m t; of_entry = is })

-- all that are made of one are alike
pub all_alike : (Is : Change → Type 0) (t : Change) (cs : List Change) → All (IsMadeOf Is t) cs → All (λ c. All (AreAlike c) cs) cs
all_alike Is t cs made = λ i c low j d within. (made i c low).alike ∙ sym (made j d within).alike

pub all_of : (Is : Change → Type 0) (t : Change) (cs : List Change) → All (IsMadeOf Is t) cs → All Is cs
all_of Is t cs made = All-weaker (IsMadeOf Is t) Is (λ c is. is.of_entry) cs made

-- Relaxations that are taken.
use Rattle.std.proofs.Common.{◌≡◌, ◌==◌, ◌<◌, ◌↔◌, ℕ, Bool, false, List, [], ◌∷◌, length, get_or, ap, sym, subst, arith}
use Rattle.std.specs.Prelude.{Contains}
use Rattle.std.proofs.lemmas.Bool.Decides.{nat_tests}
use Rattle.std.proofs.lemmas.List.Elements.{All-get_or}
use Rattle.kr_kinds.specs.Kinds.{IndexProtocol}
use Rattle.kr_change.specs.declared.change.Change.{Change}
use Rattle.kr_change.specs.GhostChanges.{changed_index}
use Rattle.kr_table_copy.specs.declared.copying.Copy.{Copy}
use Rattle.kr_table_copy.specs.Same.{IsCopy, index_in, names_in}
use Rattle.kr_relax_core.specs.Relaxations.{AreRelaxations, IsRelaxation, IsRelaxed, IsTight, changes_in}
use Rattle.kr_relax_core.specs.declared.relax.Relaxed.{Relaxed}
use Rattle.kr_cli_tables.specs.Tightest.{Relaxes, RelaxedFrom}
use Rattle.kr_cli_tables.specs.Tightest.RelaxedFrom.{copied, relaxed}

-- an empty list has no change
no_change : (list : List Relaxed) → length list ≡ 0 → (c : Change) → Contains (changes_in list) c → ⊥
no_change [] none c there = absurd (omega (arith, there.1))
no_change (x ∷ list) none c there = absurd (omega (arith, none))

-- where the list of relaxations is empty the protocol is tight
pub tight_if_none : (p : IndexProtocol) (list : List Relaxed) → length list ≡ 0 → AreRelaxations p list → IsTight p
tight_if_none p list none are c has is = no_change list none c (are.all c has is)

-- a number that isn't 0
pub some_if : (n : ℕ) (b : Bool) → b ≡ (n == 0) → b ≡ false → 0 < n
some_if n b is none = grind (arith, nat_tests, is, none)

-- one of the list is a relaxation
pub is_one : (p : IndexProtocol) (list : List Relaxed) (k : ℕ) (x : Relaxed) → AreRelaxations p list → k < length list → x ≡ get_or list k x → IsRelaxation p x.change
is_one p list k x are within is = (subst (IsRelaxed p) (sym is) (All-get_or (IsRelaxed p) list k x within are.each)).relaxation

-- where the list has one, the protocol isn't tight
pub not_tight : (p : IndexProtocol) (list : List Relaxed) → 0 < length list → AreRelaxations p list → ((list ≡ []) ↔ IsTight p) → IsTight p → ⊥
not_tight p list some are said tight = absurd (let none = ap length (said.1 tight) in omega (arith, some))

-- a relaxation is taken
pub takes : (p q : IndexProtocol) (names said : List (List ℕ)) (u : Copy) (c d : Change) → IsRelaxation p c → q ≡ p → said ≡ names → d ≡ c → IsCopy (changed_index q d) said u → Relaxes p names u
takes p q names said u c d is base same change copy = record {
  change = c;
  is_relaxation = is;
  copied =
      subst (λ (e : Change). IsCopy (changed_index p e) names u) change
      (subst (λ (n : List (List ℕ)). IsCopy (changed_index p d) n u) same
      (subst (λ (r : IndexProtocol). IsCopy (changed_index r d) said u) base copy));
}

-- a copy is what relaxations are taken from
pub begun : (p : IndexProtocol) (names : List (List ℕ)) (t : Copy) → IsCopy p names t → RelaxedFrom p names t
begun p names t is = copied t is

-- and one more is taken
pub gone_on : (p : IndexProtocol) (names : List (List ℕ)) (t u : Copy) → RelaxedFrom p names t → Relaxes (index_in t) (names_in t) u → RelaxedFrom p names u
gone_on p names t u from more = relaxed t u from more

-- Every state that a run with ghosts reaches is well formed.
use Rattle.std.specs.Prelude.{◌≡◌, ℕ, ◌≤◌, true, false, not, ◌==◌, List, [], ◌∷◌, Option, Some, None, unwrap_or}
use Rattle.std.specs.Ordering.{nat_cmp}
use Rattle.std.specs.FinMap.{find, put}
use Rattle.std.specs.List.Sorted.{IsStrictlyIncreasing}
use Rattle.std.proofs.lemmas.Bool.{cases_eq}
use Rattle.std.proofs.lemmas.List.Kept.{IsStrictlyIncreasing-filter}
use Rattle.std.proofs.Common.{sym, ◌∙◌, ap, subst, ⊎_elim, ◌≢◌, true≢false}
use Rattle.kr_model.specs.declared.Name.{Name}
use Rattle.kr_model.specs.declared.Name.TheVariants.{Key}
use Rattle.kr_model.specs.declared.Span.{Span}
use Rattle.kr_model.specs.Locks.{Locks, Request, own, kept}
use Rattle.kr_model.specs.Map.{Map, IsMap, Changes, restore, restore_all}
use Rattle.kr_model.specs.State.{Active, idle, standing}
use Rattle.kr_model.specs.Step.{Effect}
use Rattle.kr_model.proofs.Actives.{find_put_same, find_put_other}
use Rattle.kr_model.proofs.Numbers.{increasing_add}
use Rattle.kr_model.proofs.Requests.{AreLocks, AskModes, kept_locks}
use Rattle.kr_model.proofs.UndoLaws.{IsMap-restore}
use Rattle.kr_theorem.proofs.gaps.Gaps.{has}
use Rattle.kr_theorem.proofs.gaps.Moves.{has_apart, has_here}
use Rattle.kr_theorem.proofs.gaps.Undo.{ChangedIn}
use Rattle.kr_theorem.proofs.safe.Kept.{elsewhere}
use Rattle.kr_ghost.specs.Protocol.{GhostProtocol, AsksMode, IsLawfulGhost}
use Rattle.kr_ghost.specs.State.{GhostState, named, among, ghosts_with, ghosts_restored}
use Rattle.kr_ghost.specs.Step.{on, granted_or_blocked}
use Rattle.kr_ghost.proofs.Names.{IsMap-named, among_others, among_none, among_with, written_here, written_apart}
use Rattle.kr_ghost.proofs.Locking.{asks_one, not_key}

-- The same, by which keys are names.
pub record Formed (p : GhostProtocol) (s : GhostState) : Type 0 where
  pub is_map : IsMap s.state.map
  pub rising : IsStrictlyIncreasing s.ghosts
  pub absent : (k : ℕ) → among s.ghosts k ≡ true → has s.state.map k ≡ false
  pub locks : AreLocks p.table s.state.locks
  pub locked : (t k : ℕ) → has (named s.state.map s.ghosts) k ≡ false → own s.state.locks t (Key k) ≡ 0
  pub changed : (t k : ℕ) → ChangedIn (standing s.state t).changes k → has (named s.state.map s.ghosts) k ≡ true

-- Writes --

-- The ghosts rise after a write, and none of them is present.
pub rising_with : (ghosts : List ℕ) (k : ℕ) (b : Option ℕ) → IsStrictlyIncreasing ghosts → IsStrictlyIncreasing (ghosts_with ghosts k b)
rising_with ghosts k (Some v) up = IsStrictlyIncreasing-filter (λ g. not (g == k)) ghosts up
rising_with ghosts k None up = increasing_add k ghosts up

pub absent_with : (m : Map) (ghosts : List ℕ) (k : ℕ) (b : Option ℕ) → ((y : ℕ) → among ghosts y ≡ true → has m y ≡ false) → (y : ℕ) → among (ghosts_with ghosts k b) y ≡ true → has (restore m k b) y ≡ false
absent_with m ghosts k (Some v) absent y is = ⊎_elim
    (λ same. absurd (true≢false (sym (ap (among (ghosts_with ghosts k (Some v))) (sym same) ∙ is) ∙ among_none ghosts k)))
    (λ ne. has_apart m k (Some v) y ne ∙ absent y (sym (among_others ghosts k y ne) ∙ is))
    (cases_eq y k)
absent_with m ghosts k None absent y is = ⊎_elim
    (λ same. ap (has (restore m k None)) same ∙ has_here m k None)
    (λ ne. has_apart m k None y ne ∙ absent y (sym (among_with ghosts k y None ne) ∙ is))
    (cases_eq y k)

pub all_rising : (ghosts : List ℕ) (cs : Changes) → IsStrictlyIncreasing ghosts → IsStrictlyIncreasing (ghosts_restored ghosts cs)
all_rising ghosts [] up = up
all_rising ghosts (c ∷ cs) up = all_rising (ghosts_with ghosts c.0 c.1) cs (rising_with ghosts c.0 c.1 up)

pub all_absent : (m : Map) (ghosts : List ℕ) (cs : Changes) → ((y : ℕ) → among ghosts y ≡ true → has m y ≡ false) → (y : ℕ) → among (ghosts_restored ghosts cs) y ≡ true → has (restore_all m cs) y ≡ false
all_absent m ghosts [] absent y is = absent y is
all_absent m ghosts (c ∷ cs) absent y is = all_absent (restore m c.0 c.1) (ghosts_with ghosts c.0 c.1) cs (absent_with m ghosts c.0 c.1 absent) y is

-- A write makes no name go.
pub names_grow : (m : Map) (ghosts : List ℕ) (k : ℕ) (b : Option ℕ) (y : ℕ) → has (named m ghosts) y ≡ true → has (named (restore m k b) (ghosts_with ghosts k b)) y ≡ true
names_grow m ghosts k b y there = ⊎_elim
    (λ same. ap (has (named (restore m k b) (ghosts_with ghosts k b))) same ∙ written_here m ghosts k b)
    (λ ne. written_apart m ghosts k b y ne ∙ there)
    (cases_eq y k)

-- Steps --

module _ (p : GhostProtocol) (laws : IsLawfulGhost p) (s : GhostState) (f : Formed p s) (t : ℕ) where
  abbrev m : Map
  m = s.state.map

  abbrev e : Map
  e = named s.state.map s.ghosts

  abbrev l : Locks
  l = s.state.locks

  abbrev a : Active
  a = standing s.state t

  he : IsMap e
  he = IsMap-named m s.ghosts f.is_map

  within : (u : ℕ) (n : Name) → own l u n ≤ p.table.count
  within u n = let k = f.locks in k.within u n

  -- What a transaction stands so after this one is put among the active ones.
  pub put_changed : (x : Active) (e' : Map) → ((k : ℕ) → ChangedIn x.changes k → has e' k ≡ true) → ((k : ℕ) → has e k ≡ true → has e' k ≡ true)
      → (u k : ℕ) → ChangedIn (unwrap_or (find nat_cmp u (put nat_cmp t x s.state.active)) idle).changes k → has e' k ≡ true
  put_changed x e' mine names u k c = ⊎_elim
      (λ same. mine k (subst (λ (z : Option Active). ChangedIn (unwrap_or z idle).changes k) (ap (λ w. find nat_cmp w (put nat_cmp t x s.state.active)) same ∙ find_put_same s.state.active t x) c))
      (λ ne. names k (f.changed u k (subst (λ (z : Option Active). ChangedIn (unwrap_or z idle).changes k) (find_put_other s.state.active t u x ne) c)))
      (cases_eq u t)

  -- A granted attempt, or one that is blocked.
  pub attempt_keeps : (rs : List Request) (x : Effect) (ghosts : List ℕ) (us : List ℕ) → AskModes p.table rs → IsMap x.map → IsStrictlyIncreasing ghosts
      → ((k : ℕ) → among ghosts k ≡ true → has x.map k ≡ false)
      → ((k : ℕ) → has e k ≡ true → has (named x.map ghosts) k ≡ true)
      → ((u k : ℕ) → has (named x.map ghosts) k ≡ false → own (kept p.table l t rs) u (Key k) ≡ 0)
      → ((k : ℕ) → ChangedIn x.standing.changes k → has (named x.map ghosts) k ≡ true)
      → Formed p (granted_or_blocked p s t rs x ghosts us).1
  attempt_keeps rs x ghosts (u ∷ us) asks is_map rising absent names locked mine = f
  attempt_keeps rs x ghosts [] asks is_map rising absent names locked mine = record {
    is_map = is_map;
    rising = rising;
    absent = absent;
    locks = kept_locks p.table laws.table l t rs asks f.locks;
    locked = locked;
    changed = put_changed x.standing (named x.map ghosts) mine names;
  }

  -- One request on a name.
  pub one_locked : (n : Name) (asked : Option (ℕ × Span)) → ((k : ℕ) → has e k ≡ false → Key k ≢ n) → (u k : ℕ) → has e k ≡ false → own (kept p.table l t (on n asked)) u (Key k) ≡ 0
  one_locked n asked name u k none = elsewhere p.table l t n asked u (Key k) (λ both. name k none both.1) ∙ f.locked u k none

  -- What changes nothing.
  pub read_keeps : (n : Name) (asked : Option (ℕ × Span)) → AsksMode p.table asked → ((k : ℕ) → has e k ≡ false → Key k ≢ n) → (x : Effect) → x.map ≡ m → x.standing.changes ≡ a.changes → (us : List ℕ)
      → Formed p (granted_or_blocked p s t (on n asked) x s.ghosts us).1
  read_keeps n asked mode name x same changes us =
      let e_is : named x.map s.ghosts ≡ e = ap (λ z. named z s.ghosts) same in
      attempt_keeps (on n asked) x s.ghosts us (asks_one p laws n asked mode) (subst IsMap (sym same) f.is_map) f.rising
      (λ k is. ap (λ z. has z k) same ∙ f.absent k is)
      (λ k there. ap (λ z. has z k) e_is ∙ there)
      (λ u k none. one_locked n asked name u k (sym (ap (λ z. has z k) e_is) ∙ none))
      (λ k c. ap (λ z. has z k) e_is ∙ f.changed t k (subst (λ cs. ChangedIn cs k) changes c))

  -- A change of a key that is a name.
  pub change_keeps : (k : ℕ) (old b : Option ℕ) (asked : Option (ℕ × Span)) → AsksMode p.table asked → has e k ≡ true → (x : Effect) → x.map ≡ restore m k b → x.standing.changes ≡ (k, old) ∷ a.changes
      → (ghosts : List ℕ) → IsStrictlyIncreasing ghosts → ((y : ℕ) → among ghosts y ≡ true → has (restore m k b) y ≡ false) → ((y : ℕ) → has (named (restore m k b) ghosts) y ≡ has e y) → (us : List ℕ)
      → Formed p (granted_or_blocked p s t (on (Key k) asked) x ghosts us).1
  change_keeps k old b asked mode there x is changes ghosts rising absent names us =
      let e_is : (y : ℕ) → has (named x.map ghosts) y ≡ has e y = λ y. ap (λ z. has (named z ghosts) y) is ∙ names y in
      attempt_keeps (on (Key k) asked) x ghosts us (asks_one p laws (Key k) asked mode) (subst IsMap (sym is) (IsMap-restore m k b f.is_map)) rising
      (λ y g. ap (λ z. has z y) is ∙ absent y g)
      (λ y was. e_is y ∙ was)
      (λ u y none. one_locked (Key k) asked (λ w gone. not_key e k w there gone) u y (sym (e_is y) ∙ none))
      (λ y c. e_is y ∙ ⊎_elim (λ same. ap (has e) same ∙ there) (λ older. f.changed t y older) (subst (λ cs. ChangedIn cs y) changes c))

-- A change undone.
use Rattle.std.specs.Prelude.{◌≡◌, ℕ, ◌+◌, ◌<◌, Bool, true, false, ◌==◌, cond, List, [], ◌∷◌, Option, None, length, unwrap_or}
use Rattle.std.specs.Ordering.{nat_cmp}
use Rattle.std.specs.FinMap.{find, put}
use Rattle.std.proofs.Common.{sym, ◌∙◌, ap, arith}
use Rattle.std.proofs.lemmas.List.Sums.{sum_by-cons}
use Rattle.kr_model.specs.declared.Reply.TheVariants as reply
use Rattle.kr_model.specs.declared.Refusal.TheVariants as refusal
use Rattle.kr_model.specs.Locks.{Locks}
use Rattle.kr_model.specs.Map.{Map, Changes, restore}
use Rattle.kr_model.specs.State.{Active, idle}
use Rattle.kr_model.proofs.Actives.{tied}
use Rattle.kr_ghost.specs.State.{GhostState, ghosts_with}
use Rattle.kr_ghost.specs.Step.{one_taken_back}
use Rattle.kr_touch.specs.Pins.{changes_of}
use Rattle.kr_ghost_index.specs.Index.{GhostIndex, with_change}
use Rattle.kr_ghost_machine.specs.Machine.{shown}

-- The state of these parts.
abbrev pub made : Map → List ℕ → Locks → List ℕ → List (ℕ × Active) → GhostState
made m ghosts h ended active = record { state = record { map = m; locks = h; ended = ended; active = active }; ghosts = ghosts }

-- A transaction that has taken back a change, with these left.
abbrev pub rolled : Changes → Active
rolled cs = record { scan = None; changes = cs; rolling = true }

module _ (x : GhostIndex) (h : Locks) (ended : List ℕ) (es : List (ℕ × Active)) (t : ℕ) where
  abbrev before : GhostState
  before = shown x h ended es

  -- The newest change is undone.
  pub one_back : (y : GhostIndex) (more : List (ℕ × Active)) (c : ℕ × Option ℕ) (cs : Changes) (left : ℕ) → (unwrap_or (find nat_cmp t es) idle).changes ≡ c ∷ cs
      → y.map ≡ restore x.map c.0 c.1 → y.ghosts ≡ ghosts_with x.ghosts c.0 c.1 → left ≡ length cs → more ≡ put nat_cmp t (rolled cs) es
      → one_taken_back before t (unwrap_or (find nat_cmp t es) idle).changes ≡ (reply.Undone left, shown y h ended more)
  one_back y more c cs left is maps ghosts same items =
      ap (one_taken_back before t) is
      ∙ sym (ap (λ n. (reply.Undone n, shown y h ended more)) same
      ∙ ap (λ (m : Map). (reply.Undone (length cs), made m y.ghosts h ended more)) maps
      ∙ ap (λ (g : List ℕ). (reply.Undone (length cs), made (restore x.map c.0 c.1) g h ended more)) ghosts
      ∙ ap (λ (a : List (ℕ × Active)). (reply.Undone (length cs), made (restore x.map c.0 c.1) (ghosts_with x.ghosts c.0 c.1) h ended a)) items)

  -- There is none.
  pub none_back : (more : List (ℕ × Active)) → (unwrap_or (find nat_cmp t es) idle).changes ≡ [] → more ≡ es
      → one_taken_back before t (unwrap_or (find nat_cmp t es) idle).changes ≡ (reply.Refused refusal.NothingLeft, shown x h ended more)
  none_back more is items = ap (one_taken_back before t) is ∙ sym (ap (λ (a : List (ℕ × Active)). (reply.Refused refusal.NothingLeft, shown x h ended a)) items)

-- The counts --

one_more : (k q : ℕ) (b : Option ℕ) (cs : Changes) → changes_of ((k, b) ∷ cs) q ≡ cond (q == k) 1 0 + changes_of cs q
one_more k q b cs = sum_by-cons (λ (c : ℕ × Option ℕ). cond (q == c.0) 1 0) (k, b) cs

-- There is one to undo.
pub some_left : (x all rest k : ℕ) (b : Option ℕ) (cs : Changes) → x ≡ all → all ≡ rest + changes_of ((k, b) ∷ cs) k → 0 < x
some_left x all rest k b cs is noted = let one = one_more k k b cs ∙ ap (λ t. cond t 1 0 + changes_of cs k) (tied k) in omega (arith, is, noted, one)

-- One change of k is counted no more.
pub counted_back : (y : ℕ → ℕ) (q x all rest k : ℕ) (b : Option ℕ) (cs : Changes) (now : ℕ) → x ≡ with_change y k q → x ≡ all → all ≡ rest + changes_of ((k, b) ∷ cs) q → now ≡ rest + changes_of cs q → y q ≡ now
counted_back y q x all rest k b cs now undone is noted left = by (q == k) (one_more k q b cs) undone
  where
    by : (t : Bool) → changes_of ((k, b) ∷ cs) q ≡ cond t 1 0 + changes_of cs q → x ≡ cond t (y q + 1) (y q) → y q ≡ now
    by true one u = omega (arith, is, noted, one, u, left)
    by false one u = omega (arith, is, noted, one, u, left)

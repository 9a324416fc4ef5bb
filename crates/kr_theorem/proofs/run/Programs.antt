-- The programs of the committed transactions, and what the state keeps of one that is active.
use Rattle.std.specs.Prelude.{◌≡◌, ℕ, suc, true, List, [], ◌∷◌, ◌++◌, Option, Some, None, refl}
use Rattle.std.proofs.Common.{sym, ◌∙◌, ap, append_assoc, append-nil}
use Rattle.kr_model.specs.Map.{Map, at}
use Rattle.kr_model.specs.Locks.{Locks}
use Rattle.kr_model.specs.State.{State, Active, Scan, has_ended}
use Rattle.kr_model.specs.Step.{name_after}
use Rattle.kr_model.specs.Run.{Entry, Answered}
use Rattle.kr_theorem.proofs.step.Parts.{Progress, Part}
use Rattle.kr_model.proofs.LogReads.{IsSilent}
use Rattle.kr_theorem.proofs.run.Reading.{ReadsAs, reads_silent}

-- What the state keeps of a transaction, and its part --

-- The scan in progress is the same, and looks next above the key read last.
abbrev pub StandsScan : Option Progress → Option Scan → Type 0
StandsScan None None = Unit {0}
StandsScan (Some g) (Some c) = (g.low ≡ c.lo) × (g.high ≡ c.hi) × (c.rows ≡ g.pairs) × ((m : Map) → name_after m c.lo c.rows ≡ at m (suc g.last))
StandsScan None (Some c) = ⊥
StandsScan (Some g) None = ⊥

-- The scan and the changes are the same, and both roll back or neither does.
pub record Stands (q : Part) (a : Active) : Type 0 where
  pub scan : StandsScan q.scan a.scan
  pub changes : a.changes ≡ q.changes
  pub rolling : a.rolling ≡ q.rolling

-- The programs of the committed --

-- The operations of each committed transaction, in commit order.
abbrev pub Programs : Type 0
Programs = List (ℕ × List Answered)

-- Their numbers.
abbrev pub txns : Programs → List ℕ
txns [] = []
txns (c ∷ cs) = c.0 ∷ txns cs

-- Their operations, one program after another.
abbrev pub joined : Programs → List Answered
joined [] = []
joined (c ∷ cs) = c.1 ++ joined cs

-- One program more.
pub txns_push : (cs : Programs) (c : ℕ × List Answered) → txns (cs ++ c ∷ []) ≡ txns cs ++ c.0 ∷ []
txns_push [] c = refl
txns_push (x ∷ cs) c = ap (λ z. x.0 ∷ z) (txns_push cs c)

pub joined_push : (cs : Programs) (c : ℕ × List Answered) → joined (cs ++ c ∷ []) ≡ joined cs ++ c.1
joined_push [] c = append-nil c.1
joined_push (x ∷ cs) c = ap (λ z. x.1 ++ z) (joined_push cs c) ∙ sym (append_assoc x.1 (joined cs) c.1)

-- Each has ended, and its operations are these whatever comes after.
abbrev pub Fixed : Programs → List Entry → State → Type 0
Fixed [] h s = Unit {0}
Fixed (c ∷ cs) h s = ((has_ended s c.0 ≡ true) × ReadsAs c.0 h c.1 None) × Fixed cs h s

-- They stay so after an entry that is silent for each of them, and with one more of which it is known.
pub fixed_more : (cs : Programs) (h : List Entry) (s s' : State) (x : Entry) → ((u : ℕ) → has_ended s u ≡ true → (has_ended s' u ≡ true) × IsSilent u x) → Fixed cs h s → Fixed cs (h ++ x ∷ []) s'
fixed_more [] h s s' x f g = tt
fixed_more (c ∷ cs) h s s' x f g =
    let z = f c.0 g.0.0 in
    ((z.0, reads_silent c.0 h x c.1 None z.1 g.0.1), fixed_more cs h s s' x f g.1)

pub fixed_push : (cs : Programs) (h : List Entry) (s : State) (c : ℕ × List Answered) → has_ended s c.0 ≡ true → ReadsAs c.0 h c.1 None → Fixed cs h s → Fixed (cs ++ c ∷ []) h s
fixed_push [] h s c a b g = ((a, b), tt)
fixed_push (x ∷ cs) h s c a b g = (g.0, fixed_push cs h s c a b g.1)

-- The state with this map, locks and active transactions.
abbrev pub state_after : State → Map → Locks → List (ℕ × Active) → State
state_after s m l a = record { map = m; locks = l; ended = s.ended; active = a }

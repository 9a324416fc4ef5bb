-- A table of either kind with one entry changed keeps the laws.
use Rattle.std.specs.Prelude.{◌≡◌, ℕ, ◌≤◌, ◌&&◌, ◌==◌, nat_le, not, Bool, true, false, cond, Option, Some, None, option_map, refl}
use Rattle.std.specs.Int.{bit_at}
use Rattle.std.proofs.Common.{sym, ap, subst, ◌∙◌, ◌⊎◌, inl, inr, arith}
use Rattle.kr_model.specs.declared.Side.{Side}
use Rattle.kr_model.specs.declared.Side.TheVariants.{Current, Next}
use Rattle.kr_model.specs.declared.Span.{Span}
use Rattle.kr_model.specs.Protocol.{Protocol, IsLawful, IsMode}
use Rattle.kr_model.proofs.Tested.{and_first, and_second}
use Rattle.kr_ghost.specs.declared.vain.Vain.{Vain}
use Rattle.kr_ghost.specs.declared.vain.Vain.TheVariants as vain
use Rattle.kr_ghost.specs.Protocol.{AsksMode, GhostProtocol, IsLawfulGhost, IsLawfulPurge, Purges, Unlocked, Inherit, heir_of, inherits}
use Rattle.kr_kinds.specs.Kinds.{HasTables, IndexProtocol, Gone, Leaves}
use Rattle.kr_change.specs.declared.change.GhostRow.{GhostRow}
use Rattle.kr_change.specs.declared.change.GhostRow.TheVariants.{Revive, InsertHit, DeleteMiss, UpdateMiss}
use Rattle.kr_change.specs.declared.change.Change.{Change}
use Rattle.kr_change.specs.declared.change.Change.TheVariants.{Request, GhostRequest, Convert, Heir, Compatible}
use Rattle.kr_change.specs.ChangedTables.{AsksModes}
use Rattle.kr_change.specs.Changes.{changed, is_change, is_request}
use Rattle.kr_change.specs.GhostChanges.{changed_ghosts, changed_index, ghost_ask_after, has_ghost_place, has_place, heir_after, is_ghost_change, is_index_change, is_same_ghost_place, purges_after, vain_ask_after}
use Rattle.kr_change.proofs.Lawful.{IsFine, asked_is_mode, changed_lawful, low_by_test, to_changed}

-- A change that is allowed --

-- the change is one of the table's, without its ghosts or with them
abbrev pub IsAllowed : GhostProtocol → Change → Type 0
IsAllowed g c = (is_change g.table c ≡ true) ⊎ (is_ghost_change g c ≡ true)

pub allowed_of : (i : IndexProtocol) (t : Protocol) (g : GhostProtocol) → HasTables i t g → g.table ≡ t → (c : Change) → is_index_change i c ≡ true → IsAllowed g c
allowed_of (Gone p) t g has same c is = inl (subst (λ (x : Protocol). is_change x c ≡ true) (has ∙ sym same) is)
allowed_of (Leaves p) t g has same c is = inr (subst (λ (x : GhostProtocol). is_ghost_change x c ≡ true) has is)

-- what it changes of modes, matrices and rows is allowed
pub fine : (g : GhostProtocol) (c : Change) → IsAllowed g c → IsFine g.table c
fine g (Request row side own one) (inl is) = is
fine g (Request row side own one) (inr is) = and_second (has_place row side own) (is_change g.table (Request row side own one)) is
fine g (Convert held requested mode) (inl is) = is
fine g (Convert held requested mode) (inr is) = is
fine g (Compatible requested held b) (inl is) = is
fine g (Compatible requested held b) (inr is) = is
fine g (GhostRequest row side one) is = tt
fine g (Heir held mode) is = tt

-- What is requested --

asks_after : (g : GhostProtocol) (c : Change) → IsAllowed g c → (row : GhostRow) (side : Side) (now : Option (ℕ × Span)) → AsksMode g.table now → AsksMode g.table (ghost_ask_after c row side now)
asks_after g (Request r s own one) is row side now asks = asks
asks_after g (Convert held requested mode) is row side now asks = asks
asks_after g (Heir held mode) is row side now asks = asks
asks_after g (Compatible requested held b) is row side now asks = asks
asks_after g (GhostRequest r s one) (inl is) row side now asks = absurd (cc)
asks_after g (GhostRequest r s one) (inr is) row side now asks =
    λ q span e. asked_is_mode g.table (is_same_ghost_place r s row side) q span one now (and_second (has_ghost_place g r s) (is_request g.table one) is) (asks q span) e

vain_after : (g : GhostProtocol) (c : Change) → IsAllowed g c → (v : Vain) (now : Option (ℕ × Span)) → AsksMode g.table now → AsksMode g.table (vain_ask_after c v now)
vain_after g c is vain.InsertHit now asks = asks_after g c is InsertHit Current now asks
vain_after g c is vain.DeleteMiss now asks = asks_after g c is DeleteMiss Next now asks
vain_after g c is vain.UpdateMiss now asks = asks_after g c is UpdateMiss Next now asks

abbrev inside : Option (Option (ℕ × Span)) → Option (ℕ × Span)
inside None = None
inside (Some asked) = asked

row_after : (g : GhostProtocol) (c : Change) → IsAllowed g c → (v : Vain) (row : Option (Option (ℕ × Span))) (asked : Option (ℕ × Span))
    → ((now : Option (ℕ × Span)) → row ≡ Some now → AsksMode g.table now) → option_map (vain_ask_after c v) row ≡ Some asked → AsksMode g.table asked
row_after g c is v None asked laws e = absurd (cc)
row_after g c is v (Some now) asked laws e = subst (AsksMode g.table) (ap inside e) (vain_after g c is v now (laws now refl))

-- a mode of the table is one of the changed table
in_changed : (p : Protocol) (c : Change) (asked : Option (ℕ × Span)) → AsksMode p asked → AsksMode (changed p c) asked
in_changed p c asked asks q span e = to_changed p c q (asks q span e)

-- What is inherited --

one_or_other : (b : Bool) (x y n : ℕ) → x ≤ n → y ≤ n → cond b x y ≤ n
one_or_other true x y n first second = first
one_or_other false x y n first second = second

not_set : (b : Bool) → not b ≡ true → b ≡ false
not_set false e = refl
not_set true e = absurd (cc)

purges_lawful : (g : GhostProtocol) (c : Change) → IsAllowed g c → (purges : Purges) → IsLawfulPurge g.table purges → IsLawfulPurge (changed g.table c) (purges_after c purges)
purges_lawful g c is Unlocked law = tt
purges_lawful g (Request row side own one) is (Inherit heir) law = law
purges_lawful g (GhostRequest row side one) is (Inherit heir) law = law
purges_lawful g (Convert held requested mode) is (Inherit heir) law = law
purges_lawful g (Compatible requested held b) is (Inherit heir) law = law
purges_lawful g (Heir held mode) (inl is) (Inherit heir) law = absurd (cc)
purges_lawful g (Heir held mode) (inr is) (Inherit heir) law =
    let both = and_second (inherits g.purges) (not (bit_at held 0 == 1) && nat_le mode g.table.count) is in
    let free = not_set (bit_at held 0 == 1) (and_first (not (bit_at held 0 == 1)) (nat_le mode g.table.count) both) in
    let low = low_by_test mode g.table.count (and_second (not (bit_at held 0 == 1)) (nat_le mode g.table.count) both) in
    (ap (λ (b : Bool). cond b mode (heir 0)) free ∙ law.0, λ h in_range. one_or_other (bit_at held h == 1) mode (heir h) g.table.count low (law.1 h in_range))

-- All laws --

pub ghosts_lawful : (g : GhostProtocol) (c : Change) → IsLawfulGhost g → IsAllowed g c → IsLawfulGhost (changed_ghosts g c)
ghosts_lawful g c laws is = record {
  table = changed_lawful g.table c laws.table (fine g c is);
  revive = in_changed g.table c (ghost_ask_after c Revive Current g.revive) (asks_after g c is Revive Current g.revive laws.revive);
  revive_next = in_changed g.table c (ghost_ask_after c Revive Next g.revive_next) (asks_after g c is Revive Next g.revive_next laws.revive_next);
  vain = λ v asked e. in_changed g.table c asked (row_after g c is v (g.vain v) asked (laws.vain v) e);
  insert_hit_next = in_changed g.table c (ghost_ask_after c InsertHit Next g.insert_hit_next) (asks_after g c is InsertHit Next g.insert_hit_next laws.insert_hit_next);
  purges = purges_lawful g c is g.purges laws.purges;
}

none_of : (p : Protocol) (purges : Purges) → IsLawfulPurge p purges → heir_of purges 0 ≡ 0
none_of p Unlocked law = refl
none_of p (Inherit heir) law = law.0

heirs_of : (p : Protocol) (purges : Purges) → IsLawfulPurge p purges → (h : ℕ) → h ≤ p.count → heir_of purges h ≤ p.count
heirs_of p Unlocked law h low = omega arith
heirs_of p (Inherit heir) law h low = law.1 h low

-- what is requested is a mode, and what is inherited one or none
pub asks_modes : (p : GhostProtocol) → IsLawfulGhost p → AsksModes p
asks_modes p laws = record {
  revive = laws.revive;
  revive_next = laws.revive_next;
  vain = laws.vain;
  insert_hit_next = laws.insert_hit_next;
  none = none_of p.table p.purges laws.purges;
  heirs = heirs_of p.table p.purges laws.purges;
}

-- the same without what is said of ghosts
pub table_lawful : (t : Protocol) (g : GhostProtocol) (c : Change) → g.table ≡ t → IsLawful t → IsAllowed g c → IsLawful (changed t c)
table_lawful t g c same laws is = changed_lawful t c laws (subst (λ (x : Protocol). IsFine x c) same (fine g c is))

-- a pair of modes that is changed is one of the table's
pub pair_fine : (t : Protocol) (g : GhostProtocol) (requested held : ℕ) (b : Bool) → g.table ≡ t → IsAllowed g (Compatible requested held b) → is_change t (Compatible requested held b) ≡ true
pair_fine t g requested held b same is = subst (λ (x : Protocol). is_change x (Compatible requested held b) ≡ true) same (fine g (Compatible requested held b) is)

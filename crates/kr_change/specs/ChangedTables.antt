-- The tables of a protocol with one entry changed are those of its kind, and keep the laws.
use Rattle.std.specs.Prelude.{◌≡◌, ℕ, ◌≤◌, Option, Some}
use Rattle.std.proofs.Common.{ap, subst, sym}
use Rattle.kr_model.specs.declared.Span.{Span}
use Rattle.kr_model.specs.Protocol.{Protocol, IsLawful}
use Rattle.kr_ghost.specs.declared.vain.Vain.{Vain}
use Rattle.kr_ghost.specs.Protocol.{AsksMode, GhostProtocol, IsLawfulGhost, IsLawfulPurge, Purges, Unlocked, Inherit, heir_of}
use Rattle.kr_kinds.specs.Kinds.{HasTables, IndexProtocol, Gone, Leaves}
use Rattle.kr_change.specs.declared.change.Change.{Change}
use Rattle.kr_change.specs.Changes.{changed}
use Rattle.kr_change.specs.GhostChanges.{changed_ghosts, changed_index}

pub table_changed : (t : Protocol) (g : GhostProtocol) → g.table ≡ t → (c : Change) → changed g.table c ≡ changed t c
table_changed t g same c = ap (λ x. changed x c) same

pub index_changed : (i : IndexProtocol) (t : Protocol) (g : GhostProtocol) → HasTables i t g → (c : Change) → HasTables (changed_index i c) (changed t c) (changed_ghosts g c)
index_changed (Gone p) t g has c = ap (λ x. changed x c) has
index_changed (Leaves p) t g has c = ap (λ x. changed_ghosts x c) has

-- What is requested is a mode, and what is inherited is a mode or none.
pub record AsksModes (p : GhostProtocol) : Type 0 where
  pub revive : AsksMode p.table p.revive
  pub revive_next : AsksMode p.table p.revive_next
  pub vain : (v : Vain) (asked : Option (ℕ × Span)) → p.vain v ≡ Some asked → AsksMode p.table asked
  pub insert_hit_next : AsksMode p.table p.insert_hit_next
  pub none : heir_of p.purges 0 ≡ 0
  pub heirs : (h : ℕ) → h ≤ p.table.count → heir_of p.purges h ≤ p.table.count

lawful_purge : (p : Protocol) (purges : Purges) → heir_of purges 0 ≡ 0 → ((h : ℕ) → h ≤ p.count → heir_of purges h ≤ p.count) → IsLawfulPurge p purges
lawful_purge p Unlocked none heirs = tt
lawful_purge p (Inherit heir) none heirs = (none, heirs)

pub lawful_changed : (t : Protocol) (g : GhostProtocol) → g.table ≡ t → (c : Change) → IsLawful (changed t c) → AsksModes (changed_ghosts g c) → IsLawfulGhost (changed_ghosts g c)
lawful_changed t g same c laws asks = record {
  table = subst IsLawful (sym (table_changed t g same c)) laws;
  revive = asks.revive;
  revive_next = asks.revive_next;
  vain = asks.vain;
  insert_hit_next = asks.insert_hit_next;
  purges = lawful_purge (changed g.table c) (changed_ghosts g c).purges asks.none asks.heirs;
}

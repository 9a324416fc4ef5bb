-- A protocol by its kind.
use Rattle.std.proofs.Common.{ℕ, ◌≡◌, ◌≤◌, true, false, sym, ap, ◌∙◌, subst, ⊎_elim, arith}
use Rattle.std.proofs.lemmas.Bool.{cases_eq}
use Rattle.kr_model.proofs.Keep.{kept_mode}
use Rattle.kr_model.specs.Protocol.{Protocol, IsLawful}
use Rattle.kr_ghost.specs.Protocol.{GhostProtocol}
use Rattle.kr_kinds.specs.Kinds.{IndexProtocol, Gone, Leaves, HasTables, leaves_ghosts, table_of}

pub is_gone : (x : IndexProtocol) (p : Protocol) (g : GhostProtocol) → HasTables x p g → leaves_ghosts x ≡ false → Gone p ≡ x
is_gone (Gone q) p g same h = ap Gone (sym same)
is_gone (Leaves q) p g same h = absurd (cc)

pub is_leaving : (x : IndexProtocol) (p : Protocol) (g : GhostProtocol) → HasTables x p g → leaves_ghosts x ≡ true → Leaves g ≡ x
is_leaving (Gone q) p g same h = absurd (cc)
is_leaving (Leaves q) p g same h = ap Leaves (sym same)

-- Its table is that which the protocol has.
pub same_table : (x : IndexProtocol) (p : Protocol) (g : GhostProtocol) → HasTables x p g → g.table ≡ p → table_of x ≡ p
same_table (Gone q) p g has same = has
same_table (Leaves q) p g has same = ap (λ (h : GhostProtocol). h.table) has ∙ same

pub same_count : (x : IndexProtocol) (p : Protocol) (g : GhostProtocol) → HasTables x p g → g.table ≡ p → (table_of x).count ≡ p.count
same_count x p g has same = ap (λ (t : Protocol). t.count) (same_table x p g has same)

pub few_modes : (x : IndexProtocol) (p : Protocol) (g : GhostProtocol) → HasTables x p g → g.table ≡ p → IsLawful p → (table_of x).count ≤ 15
few_modes x p g has same laws = subst (λ (t : Protocol). t.count ≤ 15) (sym (same_table x p g has same)) laws.few

-- What modes convert to is one, or none where both are none.
pub kept_within : (p : Protocol) → IsLawful p → (o q : ℕ) → o ≤ p.count → q ≤ p.count → p.convert o q ≤ p.count
kept_within p laws o q io iq =
    ⊎_elim
    (λ none. subst (λ z. z ≤ p.count) (sym (ap (λ z. p.convert o z) none ∙ laws.convert-none_asked o io)) io)
    (λ some. let m = kept_mode p o q laws io (omega (arith, some)) iq in m.in_range)
    (cases_eq q 0)

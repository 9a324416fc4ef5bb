-- Two that can be on one name have modes of the protocol.
use Rattle.std.proofs.Common.{ℕ, Bool, ◌≡◌, ◌≤◌, true, false, Option, Some, None, refl, sym, ap, ◌∙◌, subst, ⊎_elim, arith}
use Rattle.std.specs.Prelude.{if◌then◌else◌, ◌||◌, IfSome}
use Rattle.std.proofs.lemmas.Bool.{cases_eq}
use Rattle.kr_model.specs.declared.Row.TheVariants as row
use Rattle.kr_model.specs.declared.Side.TheVariants.{Current}
use Rattle.kr_model.specs.declared.Span.{Span}
use Rattle.kr_model.specs.declared.Span.TheVariants.{Instant, Commit}
use Rattle.kr_model.specs.Covers.{mode_after}
use Rattle.kr_model.proofs.Keep.{kept_mode}
use Rattle.kr_ghost.specs.Protocol.{GhostProtocol, AsksMode, IsLawfulGhost, Purges, Inherit, IsLawfulPurge}
use Rattle.kr_ghost.specs.Safe.{Hold, free, is_read, asked, Quiet, commit, leave, roll, undo, inherits, Beside, start, turn, ask, quiet, third_asks, third_undoes, new, purge}
use Rattle.kr_ghost.proofs.Locking.{row_mode, ask_mode}

module _ (p : GhostProtocol) (laws : IsLawfulGhost p) where
  converted : (o q : ℕ) → o ≤ p.table.count → q ≤ p.table.count → p.table.convert o q ≤ p.table.count
  converted o q io iq =
      let w = laws.table in ⊎_elim
      (λ none. subst (λ z. z ≤ p.table.count) (sym (ap (λ z. p.table.convert o z) none ∙ w.convert-none_asked o io)) io)
      (λ some. let m = kept_mode p.table o q laws.table io (omega (arith, some)) iq in m.in_range)
      (cases_eq q 0)

  after_within : (o : ℕ) (request : Option (ℕ × Span)) → o ≤ p.table.count → AsksMode p.table request → mode_after p.table o request ≤ p.table.count
  after_within o None io mode = io
  after_within o (Some (q, Instant)) io mode = io
  after_within o (Some (q, Commit)) io mode = let i = mode q Commit refl in let m = kept_mode p.table o q laws.table io i.some i.in_range in m.in_range

  quiet_within : (b : Bool) (x : Hold) (c : Bool) (z : Hold) → Quiet b x c z → x.mode ≤ p.table.count → z.mode ≤ p.table.count
  quiet_within b x c z (commit d y e) i = omega arith
  quiet_within b x c z (leave d y e) i = omega arith
  quiet_within b x c z (roll d y e) i = i
  quiet_within b x c z (undo d y e k r u) i = i

  lawful_purge : (x : Purges) → p.purges ≡ x → IsLawfulPurge p.table x
  lawful_purge x is = subst (λ z. IsLawfulPurge p.table z) is laws.purges

  inherited_within : (heir : ℕ → ℕ) (x y : Hold) → p.purges ≡ Inherit heir → x.mode ≤ p.table.count → y.mode ≤ p.table.count → (inherits p heir x y).mode ≤ p.table.count
  inherited_within heir x y is ix iy = by y.rolling
    where
      by : (b : Bool) → (if b then x else record { mode = p.table.convert x.mode (heir y.mode); key = x.key; gap = x.gap || (y.gap || is_read y.key); rolling = x.rolling }).mode ≤ p.table.count
      by true = ix
      by false = let l = lawful_purge (Inherit heir) is in converted x.mode (heir y.mode) ix (l.1 y.mode iy)

  pub both_within : (b : Bool) (x y : Hold) → Beside p b x y → (x.mode ≤ p.table.count) × (y.mode ≤ p.table.count)
  both_within b x y (start c) = (omega arith, omega arith)
  both_within b x y (turn c v w s) = let g = both_within c v w s in (g.1, g.0)
  both_within b x y (ask a c v w s may granted) = let g = both_within c v w s in (after_within v.mode (asked p a v.mode) g.0 (ask_mode p laws a v.mode g.0), g.1)
  both_within b x y (quiet c v w d u s silent) = let g = both_within c v w s in (quiet_within c v d u silent g.0, g.1)
  both_within b x y (third_asks a c v w u s su sw may fu fw) = both_within c v w s
  both_within b x y (third_undoes c v w u d r s su sw silent) = both_within c v w s
  both_within b x y (new c v s unrolled) = let g = both_within c v free s in (after_within 0 (p.table.ask row.Insert Current v.mode) (omega arith) (row_mode p laws row.Insert Current v.mode g.0), omega arith)
  both_within b x y (purge heir c v u z w is s t a d e f) =
      let g = both_within c v u s in
      let k = both_within false z w t in
      (inherited_within heir v z is g.0 k.0, inherited_within heir u w is g.1 k.1)

-- What a lawful protocol requests is within its modes.
pub asked_within : (p : GhostProtocol) (asked result : Option (ℕ × Span)) → AsksMode p.table asked → result ≡ asked → IfSome result (λ a. a.0 ≤ p.table.count)
asked_within p asked None mode e = tt
asked_within p asked (Some (q, span)) mode e = let m = mode q span (sym e) in m.in_range

-- The modes of lock states that two transactions can have on one name are none or modes of the protocol.
use Rattle.std.proofs.Common.{ℕ, ◌≤◌, ◌≡◌, refl, arith}
use Rattle.std.specs.Prelude.{Option, Some, None}
use Rattle.kr_model.specs.declared.Row.{Row}
use Rattle.kr_model.specs.declared.Row.TheVariants.{FetchHit, FetchMiss, ScanKey, ScanStop, Insert, Delete, Update}
use Rattle.kr_model.specs.declared.Side.{Side}
use Rattle.kr_model.specs.declared.Side.TheVariants.{Current, Next}
use Rattle.kr_model.specs.declared.Span.{Span}
use Rattle.kr_model.specs.declared.Span.TheVariants.{Instant, Commit}
use Rattle.kr_model.specs.declared.LockState.{LockState}
use Rattle.kr_model.specs.Protocol.{Protocol, IsLawful, IsMode}
use Rattle.kr_model.specs.Covers.{mode_after}
use Rattle.kr_model.specs.Safe.{free, given, asked, Beside, start, turn, leave, move}
use Rattle.kr_model.proofs.Keep.{kept_mode}

pub given_range : (p : Protocol) (r : Row) (s : Side) (x n : LockState) → x.mode ≤ p.count → n.mode ≤ p.count → given r s x n ≤ p.count
given_range p FetchHit Current x n xx nn = omega arith
given_range p FetchHit Next x n xx nn = omega arith
given_range p FetchMiss Current x n xx nn = omega arith
given_range p FetchMiss Next x n xx nn = omega arith
given_range p ScanKey Current x n xx nn = omega arith
given_range p ScanKey Next x n xx nn = omega arith
given_range p ScanStop Current x n xx nn = omega arith
given_range p ScanStop Next x n xx nn = omega arith
given_range p Insert Current x n xx nn = nn
given_range p Insert Next x n xx nn = xx
given_range p Delete Current x n xx nn = nn
given_range p Delete Next x n xx nn = xx
given_range p Update Current x n xx nn = omega arith
given_range p Update Next x n xx nn = omega arith

-- What is requested is a mode.
pub asks_mode : (p : Protocol) → IsLawful p → (r : Row) (s : Side) (x n : LockState) → x.mode ≤ p.count → n.mode ≤ p.count → (q : ℕ) (span : Span) → asked p r s x n ≡ Some (q, span) → IsMode p q
asks_mode p laws r s x n xx nn q span e = laws.ask-mode r s (given r s x n) q span (given_range p r s x n xx nn) e

pub after_range : (p : Protocol) → IsLawful p → (o : ℕ) (a : Option (ℕ × Span)) → ((q : ℕ) (span : Span) → a ≡ Some (q, span) → IsMode p q) → o ≤ p.count → mode_after p o a ≤ p.count
after_range p laws o None mode le = le
after_range p laws o (Some (q, Instant)) mode le = le
after_range p laws o (Some (q, Commit)) mode le = let i = mode q Commit refl in let c = kept_mode p o q laws le i.some i.in_range in c.in_range

pub beside_range : (p : Protocol) → IsLawful p → (x y : LockState) → Beside p x y → (x.mode ≤ p.count) × (y.mode ≤ p.count)
beside_range p laws _ _ start = (omega arith, omega arith)
beside_range p laws _ _ (turn x y b) = let z = beside_range p laws x y b in (z.1, z.0)
beside_range p laws _ _ (leave x y b) = let z = beside_range p laws x y b in (omega arith, z.1)
beside_range p laws _ _ (move r s x y n b reached may mb passes) =
    let z = beside_range p laws x y b in
    let v = beside_range p laws n free reached in
    (after_range p laws x.mode (asked p r s x n) (asks_mode p laws r s x n z.0 v.0) z.0, z.1)

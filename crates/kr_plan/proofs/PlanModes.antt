-- A plan requests modes of its protocol.
use Rattle.std.proofs.Common.{◌≡◌, ℕ, ◌≤◌, Option, Some, None, refl, arith}
use Rattle.kr_model.specs.declared.Name.{Name}
use Rattle.kr_model.specs.declared.Row.{Row}
use Rattle.kr_model.specs.declared.Row.TheVariants as row
use Rattle.kr_model.specs.declared.Side.{Side}
use Rattle.kr_model.specs.declared.Side.TheVariants.{Current, Next}
use Rattle.kr_model.specs.declared.Span.{Span}
use Rattle.kr_model.specs.Protocol.{Protocol, IsLawful}
use Rattle.kr_model.specs.Locks.{Locks, AreWithin}
use Rattle.kr_model.specs.Plan.{Access, own_next, side_request, plan_by}
use Rattle.kr_plan.specs.Modes.{SideIsMode, ArePlanModes}

own_next_within : (count : ℕ) (h : Locks) (t : ℕ) (r : Row) (n : Option Name) → AreWithin count h → own_next h t r n ≤ count
own_next_within count h t row.FetchHit n w = omega arith
own_next_within count h t row.FetchMiss n w = omega arith
own_next_within count h t row.ScanKey n w = omega arith
own_next_within count h t row.ScanStop n w = omega arith
own_next_within count h t row.Update n w = omega arith
own_next_within count h t row.Insert None w = omega arith
own_next_within count h t row.Insert (Some n) w = w t n
own_next_within count h t row.Delete None w = omega arith
own_next_within count h t row.Delete (Some n) w = w t n

side_mode : (p : Protocol) (r : Row) (s : Side) (o : ℕ) (n : Option Name) (a : Option (ℕ × Span)) → IsLawful p → o ≤ p.count → p.ask r s o ≡ a → SideIsMode p.count (side_request n a)
side_mode p r s o None a laws le e = tt
side_mode p r s o (Some n) None laws le e = tt
side_mode p r s o (Some n) (Some (q, span)) laws le e =
    let m = laws.ask-mode r s o q span le e in (m.some, m.in_range)

-- What a lawful protocol requests at two names are its modes.
pub modes_by : (p : Protocol) (h : Locks) (t : ℕ) (a : Access) → IsLawful p → AreWithin p.count h → ArePlanModes p.count (plan_by p h t a)
modes_by p h t a laws w =
    let le = own_next_within p.count h t a.row a.next w in
    (side_mode p a.row Current (own_next h t a.row a.next) a.current (p.ask a.row Current (own_next h t a.row a.next)) laws le refl, side_mode p a.row Next (own_next h t a.row a.next) a.next (p.ask a.row Next (own_next h t a.row a.next)) laws le refl)

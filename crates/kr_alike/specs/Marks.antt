-- A set of the modes that two transactions can hold on one name, as marks; and what its test of closedness tests.
use Rattle.std.specs.Prelude.{ℕ, ◌+◌, ◌*◌, ◌/◌, ◌%◌, ◌<◌, Bool, true, false, nat_le, ◌&&◌, ◌||◌, not, if◌then◌else◌, IsTrue, List, [], ◌∷◌, slice_index_or, Option, Some, None}
use Rattle.kr_model.specs.declared.Row.{Row}
use Rattle.kr_model.specs.declared.Row.TheVariants as row
use Rattle.kr_model.specs.declared.Side.{Side}
use Rattle.kr_model.specs.declared.Side.TheVariants.{Current, Next}
use Rattle.kr_model.specs.Protocol.{Protocol}
use Rattle.kr_model.specs.Words.{row_number, side_number}
use Rattle.kr_alike.specs.declared.modes.Modes.{Modes}
use Rattle.kr_alike.specs.declared.modes.Ask.{Ask}
use Rattle.kr_alike.specs.declared.coming.Coming.{Coming}
use Rattle.kr_alike.specs.Closed.{none, is_blocked, after}

-- The modes with this code.
abbrev pub modes_of : ℕ → Modes
modes_of c = record { first = c / 16; second = c % 16 }

-- Whether these are modes of the two tables.
abbrev pub is_within : Protocol → Protocol → Modes → Bool
is_within p q x = nat_le x.first p.count && nat_le x.second q.count

-- The place of what two transactions hold.
abbrev pub place : Modes → Modes → ℕ
place x y = ((x.first * 16 + x.second) * 16 + y.first) * 16 + y.second

-- What the requester holds on the next name, where its request goes by that: an insert's or a delete's at the side current.
abbrev pub by_next : Row → Side → ℕ → ℕ
by_next row.Insert Current n = n
by_next row.Delete Current n = n
by_next _ _ n = 0

-- The place of a row, a side, and what the requester holds on the name and on the next.
abbrev pub asked_place : Row → Side → ℕ → ℕ → ℕ
asked_place r s x n = ((row_number r * 2 + side_number s) * 16 + x) * 16 + by_next r s n

-- Whether it is an insert's request on its own key.
abbrev pub is_insert : Row → Side → Bool
is_insert row.Insert Current = true
is_insert _ _ = false

-- Whether what two transactions hold is marked.
abbrev pub is_marked : List Bool → Modes → Modes → Bool
is_marked marks x y = slice_index_or marks (place x y) false

-- Whether the set of these marks has what two transactions hold: it is marked, and so is the first alone.
abbrev pub has : Protocol → Protocol → List Bool → Modes → Modes → Bool
has p q marks x y = is_within p q x && (is_within p q y && (is_marked marks x none && is_marked marks x y))

-- The answer that both give, or nothing.
abbrev pub agreed : Bool → Bool → Option Bool
agreed true true = Some true
agreed false false = Some false
agreed _ _ = None

-- Whether a request is blocked under both tables, or nothing where it is under one alone.
abbrev pub answer : Protocol → Protocol → Ask → Option Bool
answer p q a = agreed (is_blocked p a.row a.side a.own.first a.next.first a.other.first) (is_blocked q a.row a.side a.own.second a.next.second a.other.second)

-- Where one answer is given and it is a grant, the set has what follows.
abbrev pub is_followed : Protocol → Protocol → List Bool → Ask → Option Bool → Bool
is_followed p q marks a None = false
is_followed p q marks a (Some true) = true
is_followed p q marks a (Some false) = has p q marks (after p q a.row a.side a.own a.next) a.other

-- The request with these parts.
abbrev pub ask : Row → Side → Modes → Modes → Modes → Ask
ask r s x y n = record { row = r; side = s; own = x; other = y; next = n }

-- A request comes by what is known of which do.
abbrev pub comes : Coming → Row → Side → ℕ → ℕ → ℕ → Bool
comes w r s x n y = slice_index_or w.asked.items (asked_place r s x n) true && (not (is_insert r s) || slice_index_or w.left.items y true)

-- A request that comes has one answer under both tables, and the set has what follows a grant.
abbrev pub is_met : Protocol → Protocol → Coming → List Bool → Ask → Bool
is_met p q w marks a = if comes w a.row a.side a.own.first a.next.first a.other.first then is_followed p q marks a (answer p q a) else true

-- The places of the table whose requests go by no mode on another name: each row and side but insert and delete at the side current.
abbrev pub plain_places : List (Row × Side)
plain_places =
    (row.FetchHit, Current) ∷ (row.FetchHit, Next) ∷ (row.FetchMiss, Current) ∷ (row.FetchMiss, Next) ∷ (row.ScanKey, Current) ∷ (row.ScanKey, Next)
    ∷ (row.ScanStop, Current) ∷ (row.ScanStop, Next) ∷ (row.Update, Current) ∷ (row.Update, Next) ∷ (row.Insert, Next) ∷ (row.Delete, Next) ∷ []

-- The place with this number; past the last the last.
abbrev pub plain : ℕ → Row × Side
plain k = slice_index_or plain_places k (row.Delete, Next)

-- The request of a plain place.
abbrev pub plain_ask : Modes → Modes → ℕ → Ask
plain_ask x y k = let a = plain k in ask a.0 a.1 x y none

-- An insert and a delete are met at the side current, with these modes on the next name, if one alone can hold them.
abbrev pub AreMovesMet : Protocol → Protocol → Coming → List Bool → Modes → Modes → Modes → Type 0
AreMovesMet p q w marks x y n = IsTrue (has p q marks n none) → IsTrue (is_met p q w marks (ask row.Insert Current x y n)) × IsTrue (is_met p q w marks (ask row.Delete Current x y n))

-- The set has what two transactions come to from what they hold.
pub record IsPairMet (p q : Protocol) (w : Coming) (marks : List Bool) (x y : Modes) : Type 0 where
  pub turn : IsTrue (has p q marks y x)
  pub leave : IsTrue (has p q marks none y)
  pub plain : (k : ℕ) → k < 12 → IsTrue (is_met p q w marks (plain_ask x y k))
  pub moves : (c : ℕ) → c < 256 → AreMovesMet p q w marks x y (modes_of c)

-- So it is for all that the set has.
abbrev pub AreMetBeside : Protocol → Protocol → Coming → List Bool → Modes → Type 0
AreMetBeside p q w marks x = (c : ℕ) → c < 256 → IsTrue (has p q marks x (modes_of c)) → IsPairMet p q w marks x (modes_of c)

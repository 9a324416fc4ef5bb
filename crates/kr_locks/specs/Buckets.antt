-- Locks by name: the few holders of each name, and the locks that they make.
use Rattle.std.specs.Prelude.{◌≡◌, ℕ, ◌<◌, ◌≤◌, Bool, not, ◌&&◌, ◌==◌, List, [], ◌∷◌, ◌++◌, filter, map, length, slice_index_or, unwrap_or, IsTrue, Option, Some, None, nat_eq}
use Rattle.std.specs.List.{HoldsAt, IsDistinct}
use Rattle.std.specs.Map.{lookup, keys_of}
use Rattle.std.specs.Option.{option_eq}
use Rattle.std.specs.List.Sorted.{IsPartitionPoint}
use Rattle.std.specs.Ordering.{nat_cmp, eq_by_cmp}
use Rattle.std.specs.Int.{bit_at}
use Rattle.std.specs.declared.cmp.Ordering.TheVariants.{Less, Equal, Greater}
use Rattle.std.specs.FinMap.{put, is_sorted}
use Rattle.kr_model.specs.declared.Name.{Name}
use Rattle.kr_model.specs.declared.Name.TheVariants.{Key, End}
use Rattle.kr_model.specs.Protocol.{Protocol}
use Rattle.kr_model.specs.Locks.{Locks, holder_cmp, forget}

-- The holders of one name --

-- transactions, each with its mode
abbrev pub Holders : Type 0
Holders = List (ℕ × ℕ)

-- the transactions rise, so each has one mode
abbrev pub IsHolders : Holders → Type 0
IsHolders hs = IsTrue (is_sorted nat_cmp hs)

-- transaction t stands at place i
abbrev pub IsHolderAt : Holders → ℕ → ℕ → Type 0
IsHolderAt hs t i = (i < length hs) × HoldsAt (λ h. nat_cmp h.0 t ≡ Equal) hs i

-- transaction t isn't there: those before place i are below it, and the others above
abbrev pub IsHolderGap : Holders → ℕ → ℕ → Type 0
IsHolderGap hs t i = (i ≤ length hs) × IsPartitionPoint (λ h. nat_cmp h.0 t ≡ Less) (λ h. nat_cmp h.0 t ≡ Greater) hs i

-- the holders without transaction t
abbrev pub without : ℕ → Holders → Holders
without t hs = filter (λ h. not (eq_by_cmp nat_cmp t h.0)) hs

-- the mask has a bit for each holder's mode
abbrev pub HasModes : ℕ → Holders → Type 0
HasModes mask hs = (i : ℕ) (d : ℕ × ℕ) → i < length hs → (slice_index_or hs i d).1 < 16 → bit_at mask (slice_index_or hs i d).1 ≡ 1

-- whether a holder is another than t, and mode m conflicts with its mode
abbrev pub holder_conflicts : Protocol → ℕ → ℕ → ℕ × ℕ → Bool
holder_conflicts p t m h = not (h.0 == t) && not (p.ok m h.1)

-- All names --

-- a name, as a table has it for a key: the end is `None`
abbrev pub key_of : Name → Option ℕ
key_of (Key k) = Some k
key_of End = None

abbrev pub name_of : Option ℕ → Name
name_of (Some k) = Key k
name_of None = End

-- names in any order, each with its holders
abbrev pub Names : Type 0
Names = List (Option ℕ × Holders)

-- each name has one list of holders
abbrev pub IsNames : Names → Type 0
IsNames es = IsDistinct (option_eq nat_eq) (keys_of es)

-- the holders of a name
abbrev pub holders_at : Names → Name → Holders
holders_at es n = unwrap_or (lookup (option_eq nat_eq (key_of n)) es) []

-- the locks, and those of the holders of name n
abbrev pub with_holders : Name → Holders → Locks → Locks
with_holders n [] ls = ls
with_holders n (h ∷ hs) ls = put holder_cmp (n, h.0) h.1 (with_holders n hs ls)

-- the locks, and those of the holders of all these names
abbrev pub with_names : Names → Locks → Locks
with_names [] ls = ls
with_names (e ∷ es) ls = with_names es (with_holders (name_of e.0) e.1 ls)

-- all locks
abbrev pub locks_of : Names → Locks
locks_of es = with_names es []

-- the locks of the holders of name n, rising
abbrev pub locks_at : Name → Holders → Locks
locks_at n hs = map (λ h. ((n, h.0), h.1)) hs

-- the locks of the holders of all these names, name by name
abbrev pub listed : Names → Locks
listed [] = []
listed (e ∷ es) = locks_at (name_of e.0) e.1 ++ listed es

-- the holders of each of these names rise
abbrev pub AreHolders : Names → Type 0
AreHolders [] = Unit {0}
AreHolders (e ∷ es) = IsHolders e.1 × AreHolders es

-- the locks without those of t on these names
abbrev pub forget_all : Locks → ℕ → List Name → Locks
forget_all h t [] = h
forget_all h t (n ∷ ns) = forget_all (forget h t n) t ns

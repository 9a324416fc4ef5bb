-- Which modes can be held with what to protect, where a lock lets in what it has to keep out, and what a survey and a decision say of it.
use Rattle.std.specs.Prelude.{◌≡◌, ℕ, ◌<◌, ◌↔◌, Bool, true, false, IsTrue, not, List, length, slice_index_or, IfSome}
use Rattle.std.specs.Option.{is_some}
use Rattle.kr_model.specs.declared.Row.{Row}
use Rattle.kr_model.specs.declared.Side.{Side}
use Rattle.kr_model.specs.declared.LockState.{LockState}
use Rattle.kr_model.specs.declared.Cover.{Cover}
use Rattle.kr_model.specs.declared.Cover.TheVariants.{ReadKey, ReadGap, InsertedKey, DeletedGap, UpdatedKey}
use Rattle.kr_model.specs.Protocol.{Protocol}
use Rattle.kr_model.specs.Safe.{free, Beside, IsSafe}
use Rattle.kr_decide.specs.declared.pair.Hole.{Hole}
use Rattle.kr_decide.specs.declared.survey.ByCover.{ByCover}
use Rattle.kr_decide.specs.declared.survey.Survey.{Survey}
use Rattle.kr_decide.specs.declared.decision.Decision.{Decision}
use Rattle.kr_decide.specs.declared.decision.Decision.TheVariants as decision
use Rattle.kr_decide.specs.declared.safe.WhyRejected.{WhyRejected}
use Rattle.kr_decide.specs.declared.safe.WhyRejected.TheVariants as cause
use Rattle.kr_decide.specs.Protects.{protects, keeps_out_for}
use Rattle.kr_decide.specs.Pairs.{pair_at, AreDerived, LetsIn, IsReachedHole}
use Rattle.kr_decide.specs.Met.{marked, IsTested, IsAsked}

-- Some transaction can hold this mode on a name, while its lock there has this cover to protect.
pub record IsHeld (p : Protocol) (c : Cover) (mode : ℕ) : Type 0 where
  pub own : LockState
  pub other : LockState
  pub beside : Beside p own other
  pub held : other.mode ≡ mode
  pub protects : protects other c ≡ true

-- And another can be granted there what the lock has to keep out for the sake of this cover.
pub record HasHole (p : Protocol) (c : Cover) (mode : ℕ) : Type 0 where
  pub row : Row
  pub side : Side
  pub own : LockState
  pub other : LockState
  pub next : LockState
  pub held : other.mode ≡ mode
  pub protects : protects other c ≡ true
  pub kept_out : keeps_out_for c row side ≡ true
  pub reached : IsReachedHole p row side own other next

-- Of each of the first n modes, from 0 for no lock, the list says whether it has such a hole.
pub record AreHoles (p : Protocol) (c : Cover) (n : ℕ) (list : List Bool) : Type 0 where
  pub size : length list ≡ n
  pub each : (m : ℕ) → m < n → IsTrue (slice_index_or list m false) ↔ HasHole p c m

-- The hole is one: its pairs come about one after another, the two lock states are among them, what the requester has on the next name is so too, and the lock lets the request in.
pub record IsHole (p : Protocol) (h : Hole) : Type 0 where
  pub derived : AreDerived p h.pairs.items
  pub at : h.at < length h.pairs.items
  pub own : (pair_at h.pairs.items h.at).own ≡ h.own
  pub other : (pair_at h.pairs.items h.at).other ≡ h.other
  pub at_next : h.at_next < length h.pairs.items
  pub next : (pair_at h.pairs.items h.at_next).own ≡ h.next
  pub alone : (pair_at h.pairs.items h.at_next).other ≡ free
  pub lets_in : LetsIn p h.row h.side h.own h.other h.next
  -- two transactions can come there
  pub reached : IsReachedHole p h.row h.side h.own h.other h.next

-- What is told of each mode, by the cover.
abbrev pub of_cover : ByCover → Cover → List Bool
of_cover t ReadKey = t.read_key.items
of_cover t ReadGap = t.read_gap.items
of_cover t InsertedKey = t.inserted_key.items
of_cover t DeletedGap = t.deleted_gap.items
of_cover t UpdatedKey = t.updated_key.items

abbrev pub told : ByCover → Cover → ℕ → Bool
told t c m = slice_index_or (of_cover t c) m false

-- Whether the survey says that the mode can be held with the cover to protect, that it lets in there what it must keep out, that a request is tested in a mode beside a held one, that one who holds a mode requests another, and that the protocol is safe.
abbrev pub is_held : Survey → Cover → ℕ → Bool
is_held s c m = told s.held c m

abbrev pub has_hole : Survey → Cover → ℕ → Bool
has_hole s c m = told s.holed c m

abbrev pub is_tested : Survey → ℕ → ℕ → Bool
is_tested s c h = marked s.met.tested.items c h

abbrev pub is_asked : Survey → ℕ → ℕ → Bool
is_asked s h m = marked s.met.asked.items h m

abbrev pub is_safe : Survey → Bool
is_safe s = not (is_some s.hole)

-- The survey is right.
pub record IsSurvey (p : Protocol) (s : Survey) : Type 0 where
  pub held : (c : Cover) (m : ℕ) → is_held s c m ≡ true ↔ IsHeld p c m
  pub holes : (c : Cover) (m : ℕ) → has_hole s c m ≡ true ↔ HasHole p c m
  pub tested : (c h : ℕ) → is_tested s c h ≡ true ↔ IsTested p c h
  pub asked : (h m : ℕ) → is_asked s h m ≡ true ↔ IsAsked p h m
  pub safe : is_safe s ≡ true ↔ IsSafe p
  pub hole : IfSome s.hole (IsHole p)

-- The decision is right.
abbrev pub Decides : Protocol → Decision → Type 0
Decides p decision.Safe = IsSafe p
Decides p (decision.Unsafe hole) = IsHole p hole × (IsSafe p → ⊥)

-- Why a protocol isn't taken to be safe: a hole; or out of memory.
abbrev pub Tells : Protocol → WhyRejected → Type 0
Tells p (cause.Hole hole) = IsHole p hole × (IsSafe p → ⊥)
Tells p cause.Memory = Unit {0}

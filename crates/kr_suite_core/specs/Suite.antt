-- The tests for a table of either kind.
use Rattle.std.specs.Prelude.{◌≡◌, ◌≢◌, ◌⊎◌, ◌<◌, List, [], ◌∷◌, All, length}
use Rattle.std.specs.List.{Any, Contains}
use Rattle.kr_model.specs.declared.Reply.{Reply}
use Rattle.kr_kinds.specs.Kinds.{IndexProtocol}
use Rattle.kr_change.specs.declared.change.Change.{Change}
use Rattle.kr_change.specs.GhostChanges.{changed_index}
use Rattle.kr_change.specs.GhostEvery.{index_changes_of}
use Rattle.kr_apart.specs.Apart.{TellsApart, PartAtTheLast, replies_under}
use Rattle.kr_suite_core.specs.Alike.{AlikeIndexes}
use Rattle.kr_suite_core.specs.declared.tested.Tested.{Tested}
use Rattle.kr_suite_core.specs.declared.classes.Suite.{Suite}

-- The replies to a part's script under p; no purge comes between its steps.
abbrev pub replies_to : IndexProtocol → Tested → List Reply
replies_to p t = replies_under p t.opening.items t.events.items

-- The part t was tried under p.
pub record IsTested (p : IndexProtocol) (t : Tested) : Type 0 where
  -- its replies are those of p
  pub replies : t.replies.items ≡ replies_to p t
  -- it names changes of p, at least one
  pub changes : All (Contains (index_changes_of p)) t.tells.items
  pub some : 0 < length t.tells.items
  -- it tells p apart from the table with each of these: all its replies but the last are granted and the same; the last is granted under one of the two, and blocked under the other
  pub tells : All (λ c. TellsApart p (changed_index p c) t.opening.items t.events.items) t.tells.items

-- A part names the change.
abbrev pub IsTold : List Tested → Change → Type 0
IsTold parts c = Any (λ t. Contains t.tells.items c) parts

-- The changes are shared out in their order: each of them is told, or is the next of those that are alike, or the next of those that are left; and it is one of these alone.
abbrev pub IsSharedOut : (Change → Type 0) → List Change → List Change → List Change → Type 0
IsSharedOut Told [] alike left = (alike ≡ []) × (left ≡ [])
IsSharedOut Told (c ∷ cs) alike left =
    (Told c × IsSharedOut Told cs alike left)
    ⊎ ((Told c → ⊥) × (((others : List Change) × (alike ≡ c ∷ others) × IsSharedOut Told cs others left)
    ⊎ ((others : List Change) × (left ≡ c ∷ others) × IsSharedOut Told cs alike others)))

-- The tests for p.
pub record IsSuite (p : IndexProtocol) (s : Suite) : Type 0 where
  -- each part was tried
  pub parts : All (IsTested p) s.parts.items
  -- under the table with a change that is said to be alike every schedule, with any purges, has the same replies as under p, with the same blockers
  pub alike : All (λ c. AlikeIndexes p (changed_index p c)) s.alike.items
  -- each table that differs from p in one entry is exactly one of: told apart by a part that names it, alike, or left
  pub shared : IsSharedOut (IsTold s.parts.items) (index_changes_of p) s.alike.items s.left.items

-- An engine with the table q passes the part: it has the part's replies.
abbrev pub Passes : IndexProtocol → Tested → Type 0
Passes q t = replies_to q t ≡ t.replies.items

-- It fails the part: all replies but the last are granted and those of the part; the last is granted where the part's is blocked, or the other way round. So its replies aren't those of the part, also where it doesn't tell who blocks.
pub record Fails (q : IndexProtocol) (t : Tested) : Type 0 where
  pub last : PartAtTheLast t.replies.items (replies_to q t)
  pub differ : replies_to q t ≢ t.replies.items

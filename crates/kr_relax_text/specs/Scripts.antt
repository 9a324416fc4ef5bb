-- What it is for a script to show a relaxation.
use Rattle.std.specs.Prelude.{◌≡◌, ◌-◌, Bool, true, false, List, All, IfSome, length, map, slice_get}
use Rattle.std.specs.Option.{option_map_or}
use Rattle.kr_model.specs.declared.Event.{Event}
use Rattle.kr_model.specs.declared.Reply.{Reply}
use Rattle.kr_model.specs.Map.{Map}
use Rattle.kr_model.specs.Run.{is_granted}
use Rattle.kr_kinds.specs.Kinds.{IndexProtocol}
use Rattle.kr_change.specs.declared.change.Change.{Change}
use Rattle.kr_change.specs.GhostChanges.{changed_index}
use Rattle.kr_relax_core.specs.declared.relax.Relaxed.{Relaxed}
use Rattle.kr_apart.specs.Apart.{TellsApart, is_blocked, replies_under}
use Rattle.kr_relax_text.specs.declared.scripts.Relaxation.{Relaxation}
use Rattle.kr_relax_text.specs.declared.scripts.Shown.{Shown}

-- Whether there is a last reply, and it is of this kind.
abbrev pub last_is : (Reply → Bool) → List Reply → Bool
last_is kind replies = option_map_or kind (slice_get replies (length replies - 1)) false

-- The script's replies under p and q are the same and granted up to the last, which p blocks and q grants.
pub record LetsThrough (p q : IndexProtocol) (opening : Map) (events : List Event) : Type 0 where
  pub tells : TellsApart p q opening events
  pub before : last_is is_blocked (replies_under p opening events) ≡ true
  pub after : last_is is_granted (replies_under q opening events) ≡ true

-- The table p blocks the last step of the script, and grants it with the change.
abbrev pub Shows : IndexProtocol → Change → Shown → Type 0
Shows p c s = LetsThrough p (changed_index p c) s.opening.items s.events.items

-- Where a relaxation has a script, the script shows it.
abbrev pub IsShown : IndexProtocol → Relaxation → Type 0
IsShown p r = IfSome r.script (Shows p r.relaxed.change)

-- The list has these relaxations, in their order, and the script of each shows it.
pub record AreShown (p : IndexProtocol) (wanted : List Relaxed) (list : List Relaxation) : Type 0 where
  pub relaxations : map (λ r. r.relaxed) list ≡ wanted
  pub scripts : All (IsShown p) list

-- What a part that was tried may name.
use Rattle.std.specs.Prelude.{List}
use Rattle.std.specs.List.{Contains}
use Rattle.kr_model.specs.declared.Event.{Event}
use Rattle.kr_model.specs.Map.{Map}
use Rattle.kr_kinds.specs.Kinds.{IndexProtocol}
use Rattle.kr_change.specs.declared.change.Change.{Change}
use Rattle.kr_change.specs.GhostChanges.{changed_index}
use Rattle.kr_change.specs.GhostEvery.{index_changes_of}
use Rattle.kr_apart.specs.Apart.{TellsApart}

-- The change is one of p, and the script tells it apart.
pub record IsNamed (p : IndexProtocol) (opening : Map) (events : List Event) (c : Change) : Type 0 where
  pub change : Contains (index_changes_of p) c
  pub tells : TellsApart p (changed_index p c) opening events

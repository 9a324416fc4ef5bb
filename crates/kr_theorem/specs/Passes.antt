-- Runs of some of the operations alone, and what it is for all of them to be serializable in commit order.
use Rattle.std.specs.Prelude.{List, [], ◌∷◌}
use Rattle.kr_model.specs.declared.Op.{Op}
use Rattle.kr_model.specs.declared.Op.TheVariants as op
use Rattle.kr_model.specs.declared.Event.{Event}
use Rattle.kr_model.specs.Protocol.{Protocol}
use Rattle.kr_model.specs.Map.{Map, IsMap}
use Rattle.kr_model.specs.State.{start}
use Rattle.kr_model.specs.Run.{run}
use Rattle.kr_model.specs.Serial.{IsSerialRun}

-- A fetch, an insert or a commit: gaps are split.
abbrev pub IsSplitting : Op → Type 0
IsSplitting (op.Fetch k) = Unit {0}
IsSplitting (op.Insert k v) = Unit {0}
IsSplitting op.Commit = Unit {0}
IsSplitting (op.Scan lo hi) = ⊥
IsSplitting op.Go = ⊥
IsSplitting (op.Delete k) = ⊥
IsSplitting (op.Update k v) = ⊥
IsSplitting op.Abort = ⊥
IsSplitting op.Back = ⊥

-- One of these, a delete, an abort or a change undone: gaps are merged too.
abbrev pub IsMerging : Op → Type 0
IsMerging (op.Fetch k) = Unit {0}
IsMerging (op.Insert k v) = Unit {0}
IsMerging op.Commit = Unit {0}
IsMerging (op.Delete k) = Unit {0}
IsMerging op.Abort = Unit {0}
IsMerging op.Back = Unit {0}
IsMerging (op.Update k v) = ⊥
IsMerging (op.Scan lo hi) = ⊥
IsMerging op.Go = ⊥

-- Each event attempts such an operation.
abbrev pub AllAttempt : (Op → Type 0) → List Event → Type 0
AllAttempt IsSuch [] = Unit {0}
AllAttempt IsSuch (e ∷ es) = IsSuch e.op × AllAttempt IsSuch es

-- Every run of such operations under p is serializable, from any opening map.
abbrev pub RunsOfAreSerial : (Op → Type 0) → Protocol → Type 0
RunsOfAreSerial IsSuch p = (opening : Map) (events : List Event) → IsMap opening → AllAttempt IsSuch events → IsSerialRun opening (run p (start opening) events)

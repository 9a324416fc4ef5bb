-- What it is for a script to tell two tables apart.
use Rattle.std.specs.Prelude.{◌≡◌, ◌⊎◌, Bool, true, false, IsTrue, List, [], ◌∷◌}
use Rattle.kr_model.specs.declared.Event.{Event}
use Rattle.kr_model.specs.declared.Reply.{Reply}
use Rattle.kr_model.specs.declared.Reply.TheVariants as reply
use Rattle.kr_model.specs.Map.{Map, IsMap}
use Rattle.kr_model.specs.Protocol.{Protocol}
use Rattle.kr_model.specs.State.{start}
use Rattle.kr_model.specs.Run.{run, replies_of, is_granted}
use Rattle.kr_ghost.specs.State.{opened}
use Rattle.kr_kinds.specs.Kinds.{IndexProtocol, Gone, leaves_ghosts}
use Rattle.kr_stepping.specs.Played.{replies_from}

-- Whether a reply is blocked.
abbrev pub is_blocked : Reply → Bool
is_blocked (reply.Blocked us) = true
is_blocked _ = false

-- One of the two replies is granted, and the other is blocked.
abbrev pub Differ : Reply → Reply → Type 0
Differ r s = (IsTrue (is_granted r) × IsTrue (is_blocked s)) ⊎ (IsTrue (is_blocked r) × IsTrue (is_granted s))

-- The replies are granted and the same up to the last, where they differ.
abbrev pub PartAtTheLast : List Reply → List Reply → Type 0
PartAtTheLast (r ∷ []) (s ∷ []) = Differ r s
PartAtTheLast (r ∷ rs) (s ∷ ss) = (IsTrue (is_granted r) × r ≡ s) × PartAtTheLast rs ss
PartAtTheLast _ _ = ⊥

-- The replies to a script under p from the opening map, with no ghosts; no purge comes between its steps.
abbrev pub replies_under : IndexProtocol → Map → List Event → List Reply
replies_under p opening events = replies_from p (opened opening) events

-- The script, from the opening map, tells the tables p and q apart: all its replies but the last are granted and the same under both; the last is granted under one of them, and blocked under the other.
pub record TellsApart (p q : IndexProtocol) (opening : Map) (events : List Event) : Type 0 where
  -- under both a deleted key goes at once, or under both it stays as a ghost
  pub kind : leaves_ghosts p ≡ leaves_ghosts q
  -- the keys of the opening map rise strictly
  pub is_map : IsMap opening
  pub replies : PartAtTheLast (replies_under p opening events) (replies_under q opening events)

-- Where a deleted key goes at once, the replies are those of the run of the script.
abbrev pub AreRepliesOfRun : Protocol → Type 0
AreRepliesOfRun p = (opening : Map) (events : List Event) → replies_under (Gone p) opening events ≡ (let r = run p (start opening) events in replies_of r.history)

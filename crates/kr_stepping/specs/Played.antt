-- The replies to events in an index of either kind, with no purge between them.
use Rattle.std.specs.Prelude.{◌≡◌, List, map}
use Rattle.kr_model.specs.declared.Event.{Event}
use Rattle.kr_model.specs.declared.Reply.{Reply}
use Rattle.kr_model.specs.Protocol.{Protocol}
use Rattle.kr_model.specs.Run.{replies_of}
use Rattle.kr_model.specs.Run as gone
use Rattle.kr_ghost.specs.declared.moves.Move.{Move}
use Rattle.kr_ghost.specs.declared.moves.Move.TheVariants.{Attempt}
use Rattle.kr_ghost.specs.Protocol.{GhostProtocol}
use Rattle.kr_ghost.specs.State.{GhostState}
use Rattle.kr_ghost.specs.Run as ghost
use Rattle.kr_kinds.specs.Kinds.{IndexProtocol, Gone, Leaves}
use Rattle.kr_kinds.specs.Runs.{run}

-- The moves that attempt these events, with no purge between them.
abbrev pub attempts : List Event → List Move
attempts events = map Attempt events

-- The replies to events that are attempted one after another from s.
abbrev pub replies_from : IndexProtocol → GhostState → List Event → List Reply
replies_from p s events = let r = run p s (attempts events) in replies_of r.history

-- Where a deleted key goes at once, they are those of the run of the events.
abbrev pub AreRepliesOfSteps : Protocol → Type 0
AreRepliesOfSteps p = (s : GhostState) (events : List Event) → replies_from (Gone p) s events ≡ (let r = gone.run p s.state events in replies_of r.history)

-- Where a deleted key stays as a ghost, they are those in an index with ghosts.
abbrev pub AreRepliesWithGhosts : GhostProtocol → Type 0
AreRepliesWithGhosts p = (s : GhostState) (events : List Event) → replies_from (Leaves p) s events ≡ (let r = ghost.run p s (attempts events) in replies_of r.history)

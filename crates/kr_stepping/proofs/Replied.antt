-- The replies of either kind are those of its kind.
use Rattle.std.proofs.Common.{List, [], ◌∷◌, refl, ap}
use Rattle.kr_model.specs.declared.Reply.{Reply}
use Rattle.kr_model.specs.Protocol.{Protocol}
use Rattle.kr_model.specs.Step as gone
use Rattle.kr_ghost.specs.Protocol.{GhostProtocol}
use Rattle.kr_ghost.specs.State.{GhostState}
use Rattle.kr_ghost.specs.Step as ghost
use Rattle.kr_stepping.specs.Played.{AreRepliesOfSteps, AreRepliesWithGhosts}

-- A reply more in front of others.
abbrev more : Reply → List Reply → List Reply
more r rest = r ∷ rest

pub of_steps : (p : Protocol) → AreRepliesOfSteps p
of_steps p s [] = refl
of_steps p s (e ∷ es) =
    let o = gone.step p s.state e.txn e.op in
    let after : GhostState = record { state = o.1; ghosts = s.ghosts } in
    ap (λ rest. more o.0 rest) (of_steps p after es)

pub with_ghosts : (p : GhostProtocol) → AreRepliesWithGhosts p
with_ghosts p s [] = refl
with_ghosts p s (e ∷ es) = let o = ghost.step p s e.txn e.op in ap (λ rest. more o.0 rest) (with_ghosts p o.1 es)

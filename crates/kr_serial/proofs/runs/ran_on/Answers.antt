use Rattle.std.proofs.Common.{ap, arith, rules, subst, sym, ◌∙◌}
use Rattle.std.proofs.lemmas.Grind.{common_steps}
use Rattle.kr_model.specs.Map.{Map, IsMap}
use Rattle.kr_model.specs.State.{State}
use Rattle.kr_model.specs.Run.{run}
use Rattle.kr_model.proofs.WellFormedLaws.{run_is_state}
use Rattle.kr_serial.proofs.runs.ran_on.Goals as goal

-- the run ends in a state, whose index is a map
pub from_pairs-requires : goal.from_pairs-requires
from_pairs-requires g c =
    let p = g.P.Protocol.table c.args.stepper.now.protocol in
    let ends = run_is_state p (g.met.P.Protocol.lawful c.args.stepper.now.protocol) c.args.opening c.args.events.now c.requires.is_map in
    let left = c.in_ok-replies.ensures.state ∙ ap (λ (s : State). (let r = run p s c.args.events.now in r.state)) c.requires.starts in
    subst (λ (m : Map). IsMap m) (sym (c.in_ok-played.ensures.index ∙ ap (λ (s : State). s.map) left)) ends.is_map

pub returns-clause-opening : goal.returns-clause-opening
returns-clause-opening g c = grind (arith, common_steps)

pub returns-clause-replies : goal.returns-clause-replies
returns-clause-replies g c = grind (arith, common_steps)

pub returns-clause-index : goal.returns-clause-index
returns-clause-index g c = grind (arith, common_steps)

pub returns-clause-locks : goal.returns-clause-locks
returns-clause-locks g c = grind (arith, common_steps)

pub returns-clause-modes : goal.returns-clause-modes
returns-clause-modes g c = search rules

pub returns-clause-unfinished : goal.returns-clause-unfinished
returns-clause-unfinished g c = grind (arith, common_steps)

pub returns-clause-programs : goal.returns-clause-programs
returns-clause-programs g c = grind (arith, common_steps)

use Rattle.kr_model.specs.State.{start}
use Rattle.kr_model.proofs.WellFormedLaws.{start_is_state, steps_keep_state, run_is_state}
use Rattle.kr_theorem.proofs.states_are_well_formed.Goals as goal

pub returns-clause-steps : goal.returns-clause-steps
returns-clause-steps c = λ p opening h s laws is_map are. steps_keep_state p laws (start opening) h s (start_is_state p opening is_map) are

pub returns-clause-run : goal.returns-clause-run
returns-clause-run c = λ p opening events laws is_map. run_is_state p laws opening events is_map

pub returns-clause-index : goal.returns-clause-index
returns-clause-index c = λ p opening events laws is_map. let k = run_is_state p laws opening events is_map in k.is_map

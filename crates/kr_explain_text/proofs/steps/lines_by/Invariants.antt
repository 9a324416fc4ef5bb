-- the machine is at rest where the run has come to, and there are the rows of the steps so far
use Rattle.std.proofs.Common.{◌≡◌, ◌∷◌, None, map, take}
use Rattle.std.specs.List.{enumerate_from}
use Rattle.kr_explain_text.specs.Steps.{head_cells, row_at, rows_of}
use Rattle.kr_explain_text.proofs.Schedule.{state_at}
use Rattle.kr_explain_text.proofs.steps.lines_by.Given as goal

abbrev pub invariant-loop-at : goal.invariant-loop-at
invariant-loop-at g l =
    let p = g.P.Protocol.table l.fn.machine.protocol.now in
    let s = l.fn.machine.state in
    record {
      at_rest : l.machine.pending ≡ None;
      protocol : l.machine.protocol ≡ l.fn.machine.protocol;
      state : l.machine.state ≡ state_at p s l.events l.at;
      rows : rows_of l.lines.items ≡ head_cells l.txns ∷ map (row_at p (g.P.Protocol.names l.protocol) l.txns s l.events l.weak l.let_in) (take l.at (enumerate_from 0 l.events));
    }

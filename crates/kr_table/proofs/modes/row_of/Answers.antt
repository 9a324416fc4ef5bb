use Rattle.std.proofs.Common.{◌+◌, ◌<◌, [], arith, sym, subst, ◌∙◌}
use Rattle.kr_table.specs.Matrix.{matrix_of, ok_of}
use Rattle.kr_table.proofs.ModeRows.{IsRowTo, row_set, row_clear}
use Rattle.kr_table.proofs.modes.row_of.Goals as goal
use Rattle.kr_table.proofs.modes.row_of.Goals.{then-not-entry, else-not-entry}

pub loop-held-preserved : goal.loop-held-preserved
loop-held-preserved c =
    let f = ok_of (matrix_of c.args.names.now c.args.ok.now []) c.args.requested in
    let n = c.loop-held.held in
    let some : 0 < n = omega (arith, c.loop-held.auto.held) in
    let small : n < 16 = omega (arith, c.requires.few, c.loop-held-test.true) in
    elim c.if-not-entry.branch [
      | then-not-entry w ↦ subst (λ r. IsRowTo f (n + 1) r) (sym w.row-is) (row_set f n c.loop-held.row some small (sym c.entry.ensures ∙ w.if-not-entry.true) c.loop-held.invariant)
      | else-not-entry w ↦ subst (λ r. IsRowTo f (n + 1) r) (sym w.row-is) (row_clear f n c.loop-held.row (sym c.entry.ensures ∙ w.if-not-entry.false) c.loop-held.invariant)
    ]

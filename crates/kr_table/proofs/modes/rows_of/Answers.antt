use Rattle.std.proofs.Common.{◌≡◌, ◌<◌, [], length, slice_set, arith, ◌∙◌}
use Rattle.std.proofs.lemmas.Grind.{common_steps}
use Rattle.std.specs.Prelude.{List, ℕ}
use Rattle.kr_table.specs.Matrix.{matrix_of}
use Rattle.kr_table.proofs.ModeRows.{rows_more}
use Rattle.kr_table.proofs.modes.rows_of.Goals as goal

as_long : (xs : List ℕ) (i x : ℕ) → length (slice_set xs i x) ≡ length xs
as_long xs i x = grind (arith, common_steps)

pub loop-requested-preserved : goal.loop-requested-preserved
loop-requested-preserved c =
    let x = matrix_of c.args.names.now c.args.ok.now [] in
    let n = c.loop-requested.requested in
    let places = c.loop-requested.invariant.places in
    let in_range : n < length c.loop-requested.rows = omega (arith, places, c.requires.few, c.loop-requested-test.true) in
    record {
      places = as_long c.loop-requested.rows n c.row_of.result ∙ places;
      rows = rows_more x c.loop-requested.rows n c.row_of.result in_range c.loop-requested.invariant.rows c.row_of.ensures;
    }

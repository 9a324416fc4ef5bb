-- The rows of locks on records and on gaps in the code, against the definitions.
use Rattle.std.specs.Prelude.{◌≡◌, ℕ, ◌≤◌, ◌<◌, ◌^◌, true, cond, nat_lt, refl, slice_index_or}
use Rattle.std.specs.Int.{bit_at}
use Rattle.std.proofs.Common.{arith}
use Rattle.std.proofs.lemmas.Bool.Decides.{nat_tests}
use Rattle.kr_model.proofs.Tested.{tests_agree, numbers_agree}
use Rattle.kr_ghost.specs.Tables.{record_gap}
use Rattle.kr_protocol.specs.Rows.{conflicts, IsRow}
use Rattle.kr_protocol.proofs.RowLaws.{row_from}
use Rattle.kr_ghost_protocol.specs.declared.record_gap.TheConstants.{ROWS}

-- the rows agree with the definition at every mode
pub record_gap_rows : (q : ℕ) → q ≤ 11 → IsRow record_gap.table q (slice_index_or ROWS q 0)
record_gap_rows q iq = row_from record_gap.table q (slice_index_or ROWS q 0) 12 (omega arith) small agree
  where
    less : (a : ℕ) → nat_lt a 4096 ≡ true → a < 2 ^ 12
    less a e = grind (arith, nat_tests)

    small : slice_index_or ROWS q 0 < 2 ^ 12
    small = less (slice_index_or ROWS q 0) (tests_agree (λ q h. nat_lt (slice_index_or ROWS q 0) 4096) (λ q h. true) 12 refl q 0 (omega arith) (omega arith))

    agree : (h : ℕ) → h < 12 → bit_at (slice_index_or ROWS q 0) h ≡ cond (conflicts record_gap.table q h) 1 0
    agree h lt = numbers_agree (λ q h. bit_at (slice_index_or ROWS q 0) h) (λ q h. cond (conflicts record_gap.table q h) 1 0) 12 refl q h (omega arith) lt

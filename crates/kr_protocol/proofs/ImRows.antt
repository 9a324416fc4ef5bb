-- The rows of index locking in the code, against the definitions.
use Rattle.std.specs.Prelude.{◌≡◌, ℕ, ◌≤◌, ◌<◌, ◌^◌, true, cond, nat_lt, refl, slice_index_or}
use Rattle.std.specs.Int.{bit_at}
use Rattle.std.proofs.Common.{arith}
use Rattle.std.proofs.lemmas.Bool.Decides.{nat_tests}
use Rattle.kr_model.specs.Im.{im}
use Rattle.kr_model.proofs.Tested.{tests_agree, numbers_agree}
use Rattle.kr_protocol.specs.Rows.{conflicts, IsRow}
use Rattle.kr_protocol.proofs.RowLaws.{row_from}
use Rattle.kr_protocol.specs.declared.im.TheConstants.{ROWS}

-- the rows agree with the definition at every mode
pub im_rows : (q : ℕ) → q ≤ 2 → IsRow im q (slice_index_or ROWS q 0)
im_rows q iq = row_from im q (slice_index_or ROWS q 0) 3 (omega arith) small agree
  where
    less : (a : ℕ) → nat_lt a 8 ≡ true → a < 2 ^ 3
    less a e = grind (arith, nat_tests)

    small : slice_index_or ROWS q 0 < 2 ^ 3
    small = less (slice_index_or ROWS q 0) (tests_agree (λ q h. nat_lt (slice_index_or ROWS q 0) 8) (λ q h. true) 3 refl q 0 (omega arith) (omega arith))

    agree : (h : ℕ) → h < 3 → bit_at (slice_index_or ROWS q 0) h ≡ cond (conflicts im q h) 1 0
    agree h lt = numbers_agree (λ q h. bit_at (slice_index_or ROWS q 0) h) (λ q h. cond (conflicts im q h) 1 0) 3 refl q h (omega arith) lt

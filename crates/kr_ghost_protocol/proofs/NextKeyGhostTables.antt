-- The tables and the rows of locks on keys and next keys in the code, against the definitions.
use Rattle.std.specs.Prelude.{◌≡◌, ℕ, ◌≤◌, ◌<◌, ◌^◌, true, false, [], cond, nat_lt, refl, slice_index_or}
use Rattle.std.specs.Int.{bit_at}
use Rattle.std.proofs.Common.{arith}
use Rattle.std.proofs.lemmas.Bool.Decides.{nat_tests}
use Rattle.kr_model.proofs.Tested.{tests_agree, numbers_agree}
use Rattle.kr_ghost.specs.Tables.{next_key_ghost, next_key_ok, next_key_convert}
use Rattle.kr_protocol.specs.Rows.{conflicts, IsRow}
use Rattle.kr_protocol.proofs.RowLaws.{row_from}
use Rattle.kr_ghost_protocol.specs.declared.next_key_ghost.TheConstants.{COMPATIBLE, CONVERTED, ROWS}

-- the conflicts agree with the definition at every pair of modes
pub next_key_compatible : (q h : ℕ) → q ≤ 5 → h ≤ 5 → slice_index_or (slice_index_or COMPATIBLE q []) h false ≡ next_key_ok q h
next_key_compatible q h iq ih = tests_agree (λ q h. slice_index_or (slice_index_or COMPATIBLE q []) h false) next_key_ok 6 refl q h (omega arith) (omega arith)

-- the conversions agree with the definition at every pair of modes
pub next_key_converted : (h q : ℕ) → h ≤ 5 → q ≤ 5 → slice_index_or (slice_index_or CONVERTED h []) q 0 ≡ next_key_convert h q
next_key_converted h q ih iq = numbers_agree (λ h q. slice_index_or (slice_index_or CONVERTED h []) q 0) next_key_convert 6 refl h q (omega arith) (omega arith)

-- the rows agree with the definition at every mode
pub next_key_rows : (q : ℕ) → q ≤ 5 → IsRow next_key_ghost.table q (slice_index_or ROWS q 0)
next_key_rows q iq = row_from next_key_ghost.table q (slice_index_or ROWS q 0) 6 (omega arith) small agree
  where
    less : (a : ℕ) → nat_lt a 64 ≡ true → a < 2 ^ 6
    less a e = grind (arith, nat_tests)

    small : slice_index_or ROWS q 0 < 2 ^ 6
    small = less (slice_index_or ROWS q 0) (tests_agree (λ q h. nat_lt (slice_index_or ROWS q 0) 64) (λ q h. true) 6 refl q 0 (omega arith) (omega arith))

    agree : (h : ℕ) → h < 6 → bit_at (slice_index_or ROWS q 0) h ≡ cond (conflicts next_key_ghost.table q h) 1 0
    agree h lt = numbers_agree (λ q h. bit_at (slice_index_or ROWS q 0) h) (λ q h. cond (conflicts next_key_ghost.table q h) 1 0) 6 refl q h (omega arith) lt

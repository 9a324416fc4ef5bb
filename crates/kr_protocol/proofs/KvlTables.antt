-- The tables of key-value locking in the code, against the definitions.
use Rattle.std.specs.Prelude.{◌≡◌, ℕ, ◌≤◌, false, [], refl, slice_index_or}
use Rattle.std.proofs.Common.{arith}
use Rattle.kr_model.specs.Kvl.{kvl}
use Rattle.kr_model.proofs.Tested.{tests_agree, numbers_agree}
use Rattle.kr_protocol.specs.declared.kvl.TheConstants.{COMPATIBLE, CONVERTED}

-- the conflicts agree with the definition at every pair of modes
pub kvl_compatible : (q h : ℕ) → q ≤ 5 → h ≤ 5 → slice_index_or (slice_index_or COMPATIBLE q []) h false ≡ kvl.ok q h
kvl_compatible q h iq ih = tests_agree (λ q h. slice_index_or (slice_index_or COMPATIBLE q []) h false) kvl.ok 6 refl q h (omega arith) (omega arith)

-- the conversions agree with the definition at every pair of modes
pub kvl_converted : (h q : ℕ) → h ≤ 5 → q ≤ 5 → slice_index_or (slice_index_or CONVERTED h []) q 0 ≡ kvl.convert h q
kvl_converted h q ih iq = numbers_agree (λ h q. slice_index_or (slice_index_or CONVERTED h []) q 0) kvl.convert 6 refl h q (omega arith) (omega arith)

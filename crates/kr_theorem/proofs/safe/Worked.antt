-- Worked examples: tables that fail cases and are safe, by the pairs of lock states that come up under them, and tables that aren't safe, by a pair that does.
use Rattle.std.proofs.Common.{ℕ, List, [], ◌∷◌, ◌++◌, ◌≡◌, refl, sym, ap, ◌∙◌, true, false, true≢false}
use Rattle.std.specs.Prelude.{map}
use Rattle.std.specs.List.{flat_map}
use Rattle.kr_model.specs.declared.Row.TheVariants.{FetchHit, FetchMiss, Insert, Delete}
use Rattle.kr_model.specs.declared.Side.TheVariants.{Current, Next}
use Rattle.kr_model.specs.declared.KeyUse.{KeyUse}
use Rattle.kr_model.specs.declared.KeyUse.TheVariants.{Free as KeyFree, Read as KeyRead, Inserted as KeyInserted}
use Rattle.kr_model.specs.declared.GapUse.{GapUse}
use Rattle.kr_model.specs.declared.GapUse.TheVariants.{Free as GapFree, Read as GapRead, Deleted as GapDeleted}
use Rattle.kr_model.specs.declared.LockState.{LockState}
use Rattle.kr_model.specs.Protocol.{Protocol}
use Rattle.kr_model.specs.Covers.{failed_cases, is_empty, IsCovered}
use Rattle.kr_model.specs.Kvl.{IX, S, SIX, X}
use Rattle.kr_model.specs.RangeKey.{N-S, S-N, S-S, I-X, X-N, X-X}
use Rattle.kr_model.specs.Safe.{free, after, start, turn, move}
use Rattle.kr_model.proofs.Tested.{lawful_by_test}
use Rattle.kr_theorem.specs.Worked.{IsSafeUncovered, IsUnsafe, six_to_is, six_beside_ix, insert_beside_read, requests_nothing, miss_at_once}
use Rattle.kr_theorem.proofs.safe.Accounts.{Pairs, account_safe}

-- Lists of pairs --

-- A lock state with this mode, on a key that its transaction hasn't deleted.
abbrev with : ℕ → KeyUse → GapUse → LockState
with m k g = record { mode = m; key = k; gap = g; deleted = false }

-- The same, on a key that it has deleted.
abbrev gone : LockState → LockState
gone x = record x { deleted = true }

-- Each of these beside each of those, and the other way round.
abbrev each : List LockState → List LockState → Pairs
each xs ys = flat_map (λ x. map (λ y. (x, y)) ys) xs

abbrev both : List LockState → List LockState → Pairs
both xs ys = each xs ys ++ each ys xs

-- These, and the same on deleted keys.
abbrev and_gone : List LockState → List LockState
and_gone xs = xs ++ map gone xs

uncovered : (p : Protocol) → is_empty (failed_cases p) ≡ false → IsCovered p → ⊥
uncovered p e c = true≢false (sym (ap is_empty c) ∙ e)

-- Key-value locking --

-- On keys that others see: what was read, and what was deleted.
abbrev kvl_reads : List LockState
kvl_reads = with S KeyFree GapRead ∷ with S KeyRead GapFree ∷ with S KeyRead GapRead ∷ []

abbrev kvl_deletes : List LockState
kvl_deletes = with X KeyFree GapDeleted ∷ with X KeyRead GapDeleted ∷ []

-- On keys that the transaction has inserted, beside which nobody else holds a lock.
abbrev kvl_inserts : List LockState
kvl_inserts = with IX KeyInserted GapFree ∷ with SIX KeyInserted GapFree ∷ with SIX KeyInserted GapRead ∷ with X KeyInserted GapFree ∷ with X KeyInserted GapRead ∷ with X KeyInserted GapDeleted ∷ []

abbrev kvl_states : List LockState
kvl_states = and_gone (free ∷ kvl_reads ++ kvl_deletes ++ kvl_inserts)

-- The pairs that come up under key-value locking, and so under the two tables made of it.
abbrev kvl_pairs : Pairs
kvl_pairs =
    both (free ∷ []) kvl_states ++ both (gone free ∷ []) (gone free ∷ and_gone (kvl_reads ++ kvl_deletes)) ++ each kvl_reads kvl_reads ++ both kvl_reads (map gone kvl_reads)

pub six_to_is-safe : IsSafeUncovered six_to_is
six_to_is-safe = (lawful_by_test six_to_is refl, uncovered six_to_is refl, account_safe six_to_is kvl_pairs kvl_states refl)

pub six_beside_ix-safe : IsSafeUncovered six_beside_ix
six_beside_ix-safe = (lawful_by_test six_beside_ix refl, uncovered six_beside_ix refl, account_safe six_beside_ix kvl_pairs kvl_states refl)

-- Range-key locking --

abbrev X-S : ℕ
X-S = 10

abbrev key_read : LockState
key_read = with N-S KeyRead GapFree

abbrev range_reads : List LockState
range_reads = key_read ∷ with S-N KeyFree GapRead ∷ with S-S KeyRead GapRead ∷ []

abbrev range_deletes : List LockState
range_deletes = with X-N KeyFree GapDeleted ∷ with X-S KeyRead GapDeleted ∷ []

abbrev range_inserts : List LockState
range_inserts = with I-X KeyInserted GapFree ∷ with X-X KeyInserted GapRead ∷ with X-X KeyInserted GapDeleted ∷ []

abbrev range_states : List LockState
range_states = and_gone (free ∷ range_reads ++ range_deletes ++ range_inserts)

-- The pairs that come up under range-key locking, and so under the table made of it.
abbrev range_pairs : Pairs
range_pairs =
    both (free ∷ []) range_states ++ both (gone free ∷ []) (gone free ∷ and_gone (range_reads ++ range_deletes)) ++ each range_reads range_reads ++ both range_reads (map gone range_reads)
    ++ both (key_read ∷ []) (and_gone range_deletes) ++ both (gone key_read ∷ []) range_deletes

pub insert_beside_read-safe : IsSafeUncovered insert_beside_read
insert_beside_read-safe = (lawful_by_test insert_beside_read refl, uncovered insert_beside_read refl, account_safe insert_beside_read range_pairs range_states refl)

-- Not safe --

abbrev key_reader : LockState
key_reader = after requests_nothing FetchHit Current free free

-- One has read a key, and nothing blocks another's delete of it.
pub requests_nothing-unsafe : IsUnsafe requests_nothing
requests_nothing-unsafe = (
  lawful_by_test requests_nothing refl,
  λ safe. true≢false (sym (safe Delete Current free key_reader free (turn key_reader free (move FetchHit Current free free free start start refl tt refl)) start (refl, refl) refl)),
)

abbrev gap_reader : LockState
gap_reader = after miss_at_once FetchMiss Next free free

-- One has looked for a key in a gap, and nothing blocks another's insert of it.
pub miss_at_once-unsafe : IsUnsafe miss_at_once
miss_at_once-unsafe = (
  lawful_by_test miss_at_once refl,
  λ safe. true≢false (sym (safe Insert Next free gap_reader free (turn gap_reader free (move FetchMiss Next free free free start start refl tt refl)) start refl refl)),
)

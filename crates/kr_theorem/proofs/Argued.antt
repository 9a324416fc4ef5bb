-- The two tables of which it is only argued that no schedule goes wrong: lawful, and neither safe nor ordered.
use Rattle.std.proofs.Common.{refl, sym, inl, inr, arith, true≢false}
use Rattle.kr_model.specs.declared.Row.TheVariants.{FetchHit, FetchMiss, Insert, Delete}
use Rattle.kr_model.specs.declared.Side.TheVariants.{Current, Next}
use Rattle.kr_model.specs.declared.LockState.{LockState}
use Rattle.kr_model.specs.Safe.{free, after, start, turn, move, MayBeOnAbsent, Beside, IsSafe}
use Rattle.kr_model.specs.Im.{S, X}
use Rattle.kr_model.proofs.Tested.{lawful_by_test}
use Rattle.kr_theorem.specs.Ordered.{IsOrdered}
use Rattle.kr_theorem.specs.Argued.{IsUnsafeUnordered, D, W, next_blocks, key_gone}

-- The delete is blocked on the next name --

-- No lock may be on an absent key.
none_on_absent : MayBeOnAbsent next_blocks 0
none_on_absent = inr record { held = S; some = omega arith; within = omega arith; granted = refl }

-- Who has read the gap below the next name has S there.
abbrev reader : LockState
reader = after next_blocks FetchMiss Next free free

reader_beside : Beside next_blocks reader free
reader_beside = move FetchMiss Next free free free start start refl tt refl

-- With that it inserts a key, and has W on it.
abbrev inserter : LockState
inserter = after next_blocks Insert Current free reader

inserter_beside : Beside next_blocks inserter free
inserter_beside = move Insert Current free free reader start reader_beside (refl, inl (refl, record { key = refl; gap = refl }, none_on_absent)) (refl, record { key = refl; gap = refl }, none_on_absent) refl

-- Beside that lock another's D is granted on the key.
next_unsafe : IsSafe next_blocks → ⊥
next_unsafe safe = true≢false (sym (safe Delete Current free inserter free (turn inserter free inserter_beside) start (refl, refl) refl))

-- W held and X requested make W, beside which D is granted; and D isn't granted beside X.
next_unordered : IsOrdered next_blocks → ⊥
next_unordered ordered =
    let up = (ordered.convert W X (omega arith) (omega arith)).1 in
    true≢false (sym (up.held D (omega arith) refl))

pub next : IsUnsafeUnordered next_blocks
next = (lawful_by_test next_blocks refl, next_unsafe, next_unordered)

-- The key is gone --

-- Who has read a key has S on it.
abbrev key_reader : LockState
key_reader = after key_gone FetchHit Current free free

key_reader_beside : Beside key_gone key_reader free
key_reader_beside = move FetchHit Current free free free start start refl tt refl

-- With that it deletes the key, and has W there.
abbrev deleter : LockState
deleter = after key_gone Delete Current key_reader free

deleter_beside : Beside key_gone deleter free
deleter_beside = move Delete Current key_reader free free key_reader_beside start (refl, refl) tt refl

-- Beside that lock another's D is granted.
gone_unsafe : IsSafe key_gone → ⊥
gone_unsafe safe = true≢false (sym (safe Delete Current free deleter free (turn deleter free deleter_beside) start (refl, refl) refl))

-- S held and D requested make W, beside which D is granted; and D isn't granted beside S.
gone_unordered : IsOrdered key_gone → ⊥
gone_unordered ordered =
    let up = (ordered.convert S D (omega arith) (omega arith)).0 in
    true≢false (sym (up.held D (omega arith) refl))

pub gone : IsUnsafeUnordered key_gone
gone = (lawful_by_test key_gone refl, gone_unsafe, gone_unordered)

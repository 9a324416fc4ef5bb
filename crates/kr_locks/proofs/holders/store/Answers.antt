use Rattle.std.proofs.Common.{◌∙◌, ap, ◌≡◌, ℕ, List, length, set, arith}
use Rattle.std.proofs.lemmas.Grind.{common_steps}
use Rattle.std.specs.List.{refill}
use Rattle.kr_locks.proofs.HolderPlaces.{put_at, put_into, none_at}
use Rattle.kr_locks.proofs.holders.store.Goals as goal

refilled : (xs : List (ℕ × ℕ)) (i : ℕ) (x : ℕ × ℕ) → refill (length xs) xs (set xs i x) ≡ set xs i x
refilled xs i x = grind (arith, common_steps)

pub returns-in_err-insert-in-Err-clause-there : goal.returns-in_err-insert-in-Err-clause-there
returns-in_err-insert-in-Err-clause-there c some = absurd (some (none_at c.args.holders.now.items c.requires c.args.txn c.in-Err.place (rw (← c.as_slice.ensures) c.in-Err.ensures)))

pub returns-in-Ok-clause-ok : goal.returns-in-Ok-clause-ok
returns-in-Ok-clause-ok c =
    let hs = c.args.holders.now.items in
    ap (λ l. refill (length hs) hs (set l c.in-Ok.place (c.args.txn, c.args.mode))) c.as_mut_slice.ensures.value
    ∙ refilled hs c.in-Ok.place (c.args.txn, c.args.mode)
    ∙ put_at hs c.requires c.args.txn c.in-Ok.place (rw (← c.as_slice.ensures) c.in-Ok.ensures) c.args.mode

pub returns-in_ok-insert-in-Err-clause-ok : goal.returns-in_ok-insert-in-Err-clause-ok
returns-in_ok-insert-in-Err-clause-ok c = c.in_ok-insert-in-Err.ensures.ok ∙ put_into c.args.holders.now.items c.requires c.args.txn c.in-Err.place (rw (← c.as_slice.ensures) c.in-Err.ensures) c.args.mode

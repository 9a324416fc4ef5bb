use Rattle.std.proofs.Common.{subst, sym, ◌+◌}
use Rattle.kr_locks.proofs.Masks.{HasFirst, one_more, one_past}
use Rattle.std.proofs.lemmas.List.{get_or_default}
use Rattle.std.specs.Prelude.{slice_index_or}
use Rattle.kr_locks.proofs.holders.mask_of.Goals as goal
use Rattle.kr_locks.proofs.holders.mask_of.Goals.{then-mode-lt16, else-mode-lt16}

pub loop-mode-preserved : goal.loop-mode-preserved
loop-mode-preserved c =
    let hs = c.args.holders.now in
    let n = c.loop-mode.mode-index in
    elim c.if-mode-lt16.branch [
      | then-mode-lt16 w ↦ subst (λ m. HasFirst m hs (n + 1)) (sym w.mask-is) (one_more c.loop-mode.mask hs n (slice_index_or hs n (0, 0)) c.loop-mode.invariant (λ d. get_or_default hs n d (0, 0) c.loop-mode-test.true) w.if-mode-lt16.true)
      | else-mode-lt16 w ↦ subst (λ m. HasFirst m hs (n + 1)) (sym w.mask-is) (one_past c.loop-mode.mask hs n (slice_index_or hs n (0, 0)) c.loop-mode.invariant (λ d. get_or_default hs n d (0, 0) c.loop-mode-test.true) w.if-mode-lt16.false)
    ]

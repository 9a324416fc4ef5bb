use Rattle.std.proofs.Common.{◌≡◌, ap, subst, sym, ◌∙◌, arith, ℕ}
use Rattle.std.specs.Prelude.{filter}
use Rattle.kr_model.specs.Covers.{count_up}
use Rattle.kr_explain_text.specs.Edits.{modes_in}
use Rattle.kr_explain_text.proofs.Sets.{has, kept_modes, put_mode}
use Rattle.kr_explain_text.proofs.edits.modes_in.Goals as goal
use Rattle.kr_explain_text.proofs.edits.modes_in.Goals.{then-has_mode+in_ok-push, else-has_mode}

pub loop-mode-preserved : goal.loop-mode-preserved
loop-mode-preserved c =
    let l = c.loop-mode in
    let after = c.if-has_mode in
    elim c.if-has_mode.branch [
      | then-has_mode+in_ok-push w ↦ put_mode c.args.set l.mode l.modes.items after.modes.items l.invariant (sym c.has_mode.ensures ∙ w.if-has_mode.true) (ap (λ v. v.items) w.modes-is ∙ w.in_ok-push.ensures.items)
      | else-has_mode w ↦ kept_modes c.args.set l.mode l.modes.items after.modes.items l.invariant (sym c.has_mode.ensures ∙ w.if-has_mode.false) (ap (λ v. v.items) w.modes-is)
    ]

pub returns : goal.returns
unfolding modes_in
returns c =
    let all : c.loop-mode.mode ≡ 16 = omega arith in
    subst (λ (n : ℕ). c.loop-mode.modes.items ≡ filter (has c.args.set) (count_up 0 n)) all c.loop-mode.invariant

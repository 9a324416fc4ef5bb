use Rattle.std.proofs.Common.{◌≡◌, ℕ, List, [], ◌∙◌, sym, subst}
use Rattle.std.specs.Prelude.{All}
use Rattle.kr_workers.specs.Dealt.{hand_in}
use Rattle.kr_workers.proofs.Whole.{all_left, none_left, following, put_once}
use Rattle.kr_workers.proofs.following.follows.Goals as goal

pub returns-then-not-undo : goal.returns-then-not-undo
returns-then-not-undo c = λ steps dealt.
    let before = c.into_parts-txns.result.1 in
    let after = c.want_all.new.hands in
    let put = put_once steps c.args.faults.now c.args.events.now c.args.script dealt before after c.as_slice.result.now (c.as_slice.ensures.value ∙ c.into_parts-txns.ensures.txns) c.in_ok-want_all.ensures in (
      λ is. absurd (cc),
      λ h. absurd (c.undo.ensures.not_all c.if-not-undo.true (all_left steps c.args.faults.now c.args.events.now c.args.script dealt before after c.into_parts-txns.ensures.hands put h)),
    )

pub returns : goal.returns
returns c = λ steps dealt.
    let faults = c.args.faults.now in
    let events = c.args.events.now in
    let script = c.args.script in
    let before = c.into_parts-txns.result.1 in
    let after = c.want_all.new.hands in
    let last = c.undo.new.hands in
    let put = put_once steps faults events script dealt before after c.as_slice.result.now (c.as_slice.ensures.value ∙ c.into_parts-txns.ensures.txns) c.in_ok-want_all.ensures in
    let undone = c.undo.ensures.all c.if-not-undo.false in
    let same = c.as_slice-2.ensures.value ∙ c.into_parts-txns.ensures.txns in (
      λ yes. following steps faults events script dealt before after c.into_parts-txns.ensures.hands put last undone (c.are_rising.ensures.0 c.if-not-are_rising.false) (c.are_asked.ensures.0 c.if-not-are_asked.false)
          (subst (λ (ts : List ℕ). All (λ t. hand_in last t ≡ []) ts) same (c.are_empty.ensures.0 yes)),
      λ h. c.are_empty.ensures.1 (subst (λ (ts : List ℕ). All (λ t. hand_in last t ≡ []) ts) (sym same) (none_left steps faults events script dealt before after c.into_parts-txns.ensures.hands put last undone h)),
    )

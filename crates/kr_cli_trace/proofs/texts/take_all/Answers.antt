use Rattle.std.proofs.Common.{◌≡◌, ◌∷◌, [], ◌++◌, List, length, map, sym, ap, subst, ◌∙◌, append_assoc, append-nil, arith}
use Rattle.std.proofs.lemmas.List.{map-append}
use Rattle.std.specs.Vec.Iter.{into_iter_items}
use Rattle.kr_trace_follow.specs.Lines.{Line}
use Rattle.kr_trace_text.specs.declared.steps.LoggedStep.{LoggedStep}
use Rattle.kr_trace_parts.specs.Judged.{AreJudged}
use Rattle.kr_cli_trace.specs.OnePart.{line_of}
use Rattle.kr_cli_trace.proofs.OnePartLaws.{nothing_left}
use Rattle.kr_cli_trace.proofs.texts.take_all.Goals as goal

pub loop-step-preserved : goal.loop-step-preserved
loop-step-preserved c =
    let at = c.loop-step in
    let x = c.in-Some.step in
    let steps : into_iter_items at.step-iterator ≡ x ∷ into_iter_items c.next.new.self = c.in-Some.ensures.steps.0 in
    record {
      split = append_assoc at.yielded (x ∷ []) (into_iter_items c.next.new.self) ∙ ap (λ (ls : List LoggedStep). at.yielded ++ ls) (sym steps) ∙ at.invariant.split;
      count = (let was = at.invariant.count in
          let gone = c.in-Some.ensures.steps.1 in
          let short = ap length steps in
          omega (arith, was, gone, short));
      judged = λ opening none. subst (λ (ls : List Line). AreJudged opening ls c.take.new.self.tales c.take.new.self.judge.map c.take.new.self.found) (sym (map-append line_of at.yielded (x ∷ [])))
          (c.in_ok-take.ensures opening (map line_of at.yielded) x.number (at.invariant.judged opening none));
    }

pub returns : goal.returns
returns c opening judged =
    let at = c.loop-step in
    let none = c.in-None.ensures.steps in
    let empty : into_iter_items at.step-iterator ≡ [] = nothing_left _ (sym at.invariant.count ∙ none.0) in
    let all : at.yielded ≡ c.args.steps.items =
    sym (append-nil at.yielded) ∙ ap (λ (ls : List LoggedStep). at.yielded ++ ls) (sym empty) ∙ at.invariant.split ∙ c.into_iter-step-iterator.ensures.into_iter_gives.0 in
    subst (λ (ls : List LoggedStep). AreJudged opening (map line_of ls) at.judging.tales at.judging.judge.map at.judging.found) all (at.invariant.judged opening judged)

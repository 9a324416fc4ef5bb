use Rattle.std.proofs.Common.{[], ap, ◌∙◌, sym, Option}
use Rattle.std.specs.Prelude.{unwrap_or, option_map}
use Rattle.kr_workers.specs.Dealt.{Dealing, ops_in}
use Rattle.kr_workers.proofs.Hands.{Hand, hand_there}
use Rattle.kr_workers.proofs.dealt.Dealt.ops.Goals as goal

pub returns-in-Some : goal.returns-in-Some
returns-in-Some c =
    c.as_slice.ensures.value ∙ ap (λ (o : Option Hand). unwrap_or (option_map (λ (v : Hand). v.items) o) []) c.in-Some.ensures.value
    ∙ sym (hand_there c.self.inside.hands.entries c.args.txn) ∙ ap (λ (d : Dealing). ops_in d c.args.txn) c.self.view_is

pub returns-in-None : goal.returns-in-None
returns-in-None c =
    ap (λ (o : Option Hand). unwrap_or (option_map (λ (v : Hand). v.items) o) []) c.in-None.ensures.value
    ∙ sym (hand_there c.self.inside.hands.entries c.args.txn) ∙ ap (λ (d : Dealing). ops_in d c.args.txn) c.self.view_is

use Rattle.std.proofs.Common.{◌≡◌, List, Some, None, true, refl, ap, ◌∙◌, sym, subst, rules}
use Rattle.std.specs.Prelude.{slice_set, slice_index_or}
use Rattle.std.proofs.lemmas.List.{get_or-set_same, set-set}
use Rattle.kr_model.specs.declared.Reply.{Reply}
use Rattle.kr_model.specs.State.{State}
use Rattle.kr_model.specs.Step.{step}
use Rattle.kr_model.specs.Run.{is_granted}
use Rattle.kr_records.specs.declared.numbers.Number.{Number}
use Rattle.kr_records.specs.Histories.{entry, event}
use Rattle.kr_records.specs.Numbers.{HaveEnds, number_at, nobody}
use Rattle.kr_engine.proofs.EndReplies.{end_granted}
use Rattle.kr_records.proofs.Ended.{ends_taken, ends_back, ends_stay, works}
use Rattle.kr_engine.proofs.writes.write_end.Goals as goal

pub returns-in-Ok-set_as-clause-ends : goal.returns-in-Ok-set_as-clause-ends
returns-in-Ok-set_as-clause-ends g c =
    let p = g.P.Protocol.table c.args.machine.now.protocol in
    let s = c.args.machine.now.state in
    let ns = c.args.numbers.now in
    let at = c.place-at.result in
    let n : Number = record { txn = (number_at ns at).txn; seat = (number_at ns at).seat; end = None } in
    let granted : is_granted (step p s c.args.txn c.args.op).0 ≡ true = sym (ap is_granted c.in-Ok.ensures.reply) ∙ c.in-Ok.ensures.granted in
    let state : c.finish.new.self.state ≡ (step p s c.args.txn c.args.op).1 = search rules in
    subst (HaveEnds c.finish.new.self.state) (sym c.take_end-made.ensures.list)
    (ends_taken p s c.finish.new.self.state c.args.txn c.args.op ns at n c.requires.is_end granted state c.place-at.ensures c.place-at.ensures.here refl c.requires.ends)

pub returns-clause-ends : goal.returns-clause-ends
returns-clause-ends g c =
    let p = g.P.Protocol.table c.args.machine.now.protocol in
    let s = c.args.machine.now.state in
    let ns = c.args.numbers.now in
    let at = c.place-at.result in
    let mid = c.take_end-made.new.self in
    let n : Number = record { txn = (number_at ns at).txn; seat = (number_at ns at).seat; end = None } in
    let back : Number = record { txn = (number_at mid at).txn; seat = (number_at mid at).seat; end = Some c.in-Err-set_as.made } in
    let granted : is_granted (step p s c.args.txn c.args.op).0 ≡ true = sym (ap is_granted c.in-Ok.ensures.reply) ∙ c.in-Ok.ensures.granted in
    let state : c.cancel.new.self.state ≡ s = search rules in
    let same : back.txn ≡ c.args.txn = ap (λ (v : List Number). (number_at v at).txn) c.take_end-made.ensures.list ∙ ap (λ (x : Number). x.txn) (get_or-set_same ns at n nobody c.place-at.ensures.within) ∙ c.place-at.ensures.here in
    let list : c.put_end.new.self ≡ slice_set ns at back = c.put_end.ensures.list ∙ ap (λ (v : List Number). slice_set v at back) c.take_end-made.ensures.list ∙ set-set ns at n back in
    subst (HaveEnds c.cancel.new.self.state) (sym list)
    (ends_stay s c.cancel.new.self.state (slice_set ns at back) (ap (λ (x : State). x.ended) state) (ends_back s ns c.args.txn at back c.place-at.ensures same refl (works p s c.args.txn c.args.op granted) c.requires.ends))

pub returns-in-Ok-set_as-clause-note : goal.returns-in-Ok-set_as-clause-note
returns-in-Ok-set_as-clause-note g c =
    let p = g.P.Protocol.table c.args.machine.now.protocol in
    let s = c.args.machine.now.state in
    let granted : is_granted (step p s c.args.txn c.args.op).0 ≡ true = sym (ap is_granted c.in-Ok.ensures.reply) ∙ c.in-Ok.ensures.granted in
    let reply : c.finish.result ≡ (step p s c.args.txn c.args.op).0 = search rules in
    let same : c.end_reply.result ≡ c.finish.result = c.end_reply.ensures ∙ sym (reply ∙ end_granted p s c.args.txn c.args.op c.requires.is_end granted) in
    let cell : c.of.result.cell ≡ slice_index_or c.args.row.now c.args.place 0 = search rules in
    let written : c.of.result.known ≡ Some (entry c.args.seat (event c.args.txn c.args.op) c.end_reply.result) = search rules in
    (cell, written ∙ ap (λ (r : Reply). Some (entry c.args.seat (event c.args.txn c.args.op) r)) same)

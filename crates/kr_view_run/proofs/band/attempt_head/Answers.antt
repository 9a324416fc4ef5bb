use Rattle.std.specs.Prelude.{◌++◌, codes, decimal}
use Rattle.std.proofs.Common.{◌∙◌}
use Rattle.kr_view_scenes.specs.declared.act.Act.TheVariants as act
use Rattle.kr_view_scenes.specs.Words.{op_words, reply_words, kind_word}
use Rattle.kr_view_run.specs.Page.{band_head}
use Rattle.kr_view_run.proofs.Shown.{same_text, headed}
use Rattle.kr_view_run.proofs.band.attempt_head.Goals as goal

pub returns : goal.returns
returns c =
    let given = c.args.reply.now in
    let ids = c.args.ids.now in
    let n = decimal c.args.number in
    let kind = c.kind_of-kind.result.now in
    let asked = c.as_str-asked.result.now in
    let reply = c.as_str-reply.result.now in
    let a = codes "<section id=\"" in
    let b = codes "\" class=\"" in
    let d = codes "\">\n<h3><span>" in
    let g = codes "</span> <span class=\"reply\">" in
    let h = codes "</span></h3>\n" in
    same_text c.format.result (a ++ (ids ++ (n ++ (b ++ (kind ++ (d ++ (asked ++ (g ++ (reply ++ h))))))))) (band_head ids (c.args.number, act.Attempt c.args.event given))
    (headed a ids n b kind (kind_word given) (codes "Step ") asked (codes ": transaction ") (decimal c.args.event.txn) (codes ", ") c.as_str.result.now (op_words c.args.event.op) g reply (reply_words given) h
    c.kind_of-kind.ensures (c.as_str-asked.ensures.value ∙ c.in_ok-asked.ensures) (c.as_str.ensures.written ∙ c.in_ok-op.ensures) (c.as_str-reply.ensures.written ∙ c.in_ok-told.ensures) d)
    c.format.ensures.ok

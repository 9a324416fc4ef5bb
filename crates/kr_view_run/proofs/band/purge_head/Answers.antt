use Rattle.std.specs.Prelude.{◌++◌, codes, decimal}
use Rattle.kr_view_scenes.specs.declared.act.Act.TheVariants as act
use Rattle.kr_view_run.specs.Page.{band_head, purge_kind, purge_words}
use Rattle.kr_view_run.proofs.Shown.{same_text, purge_headed}
use Rattle.kr_view_run.proofs.band.purge_head.Goals as goal

pub returns : goal.returns
returns c =
    let ids = c.args.ids.now in
    let n = decimal c.args.number in
    let key = decimal c.args.key in
    let kind = c.purge_kind-kind.result.now in
    let reply = c.purge_words-reply.result.now in
    let a = codes "<section id=\"" in
    let b = codes "\" class=\"" in
    let d = codes "\">\n<h3><span>Step " in
    let e = codes ": purge " in
    let g = codes "</span> <span class=\"reply\">" in
    let h = codes "</span></h3>\n" in
    same_text c.format.result (a ++ (ids ++ (n ++ (b ++ (kind ++ (d ++ (n ++ (e ++ (key ++ (g ++ (reply ++ h))))))))))) (band_head ids (c.args.number, act.Purge c.args.key c.args.is_purged))
    (purge_headed a ids n b kind (purge_kind c.args.is_purged) d e key g reply (purge_words c.args.is_purged) h c.purge_kind-kind.ensures c.purge_words-reply.ensures)
    c.format.ensures.ok

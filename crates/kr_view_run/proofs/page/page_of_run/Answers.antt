use Rattle.std.specs.Prelude.{map, string_bytes}
use Rattle.kr_view_scenes.specs.Scenes.{step_of}
use Rattle.kr_view_run.proofs.Shown.{if_framed}
use Rattle.kr_view_run.proofs.page.page_of_run.Goals as goal

pub returns : goal.returns
returns g c =
    let body = c.in_ok-body.body in
    if_framed c.framed.result c.args.table.now (string_bytes c.in_ok-name.name) c.as_str.result.now body.before (string_bytes body.bands) body.behind (map step_of c.args.drawn.now.scenes.items) c.args.is_serial c.as_str.ensures.value c.in_ok-name.ensures.written c.in_ok-name.ensures.reads_back c.framed.ensures.before c.in_ok-body.ensures c.framed.ensures.behind c.framed.ensures.page

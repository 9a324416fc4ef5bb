use Rattle.std.specs.Prelude.{[], ◌++◌}
use Rattle.kr_view_run.specs.declared.frame.TheConstants.{HEAD, STYLE, LOOK, BODY, NAME, BEHIND_NAME}
use Rattle.kr_view_run.specs.Page.{page_head}
use Rattle.kr_view_run.proofs.Shown.{same_text, begun}
use Rattle.kr_view_run.proofs.frame.page_head.Goals as goal

pub returns : goal.returns
returns c =
    let kind = c.args.kind.now in
    let look = c.args.look.now in
    let name = c.args.name.now in
    same_text c.concat.result (HEAD.now ++ (kind ++ (name ++ (STYLE.now ++ (LOOK.now ++ (look ++ (BODY.now ++ (kind ++ (NAME.now ++ (name ++ (BEHIND_NAME.now ++ [])))))))))))
    (page_head kind look name) (begun HEAD.now kind name STYLE.now LOOK.now look BODY.now NAME.now BEHIND_NAME.now) c.concat.ensures.ok

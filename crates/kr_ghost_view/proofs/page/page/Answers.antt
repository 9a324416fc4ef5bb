use Rattle.std.specs.Prelude.{List, IfOk, string_bytes}
use Rattle.std.proofs.Common.{subst}
use Rattle.kr_view_scenes.specs.Scenes.{NumberedStep}
use Rattle.kr_view_run.specs.Page.{IsPage}
use Rattle.kr_ghost_view.proofs.page.page.Goals as goal

pub returns : goal.returns
returns g c =
    let P : List NumberedStep → Type 0 = λ steps. IfOk c.page_of_run.result (λ page. IsPage c.args.table.now steps c.args.is_serial (string_bytes page)) in
    subst P (rw (c.opening.ensures.pairs, c.moves.ensures.moves) at c.in_ok-drawn.ensures) c.page_of_run.ensures

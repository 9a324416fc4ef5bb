use Rattle.std.specs.Prelude.{List, IfOk, string_bytes}
use Rattle.std.proofs.Common.{subst}
use Rattle.kr_view_scenes.specs.Scenes.{NumberedStep}
use Rattle.kr_view_run.specs.Page.{AreBands}
use Rattle.kr_view_run.proofs.bands.bands_of_judged.Goals as goal

pub returns : goal.returns
returns g c =
    let P : List NumberedStep → Type 0 = λ steps. IfOk c.drawn_bands.result (λ bands. AreBands c.args.ids.now steps (string_bytes bands)) in
    subst P c.in_ok-drawn.ensures c.drawn_bands.ensures

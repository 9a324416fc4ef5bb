use Rattle.std.proofs.Common.{◌≡◌, ◌++◌, take}
use Rattle.kr_view_scenes.specs.Parts.{parts_bytes}
use Rattle.kr_view_scenes.proofs.html.Html.put.Given as goal

-- the parts so far are written
abbrev pub invariant-loop-part : goal.invariant-loop-part
invariant-loop-part l = l.self ≡ l.fn.self ++ parts_bytes (take l.part-index l.parts)

-- What is looked at of replies: whether each is granted, or blocked.
use Rattle.std.specs.Prelude.{Bool, true, false, ◌&&◌, ◌||◌, List, [], ◌∷◌, if◌then◌else◌}
use Rattle.kr_model.specs.declared.Reply.{Reply}
use Rattle.kr_model.specs.Run.{is_granted}
use Rattle.kr_apart.specs.Apart.{is_blocked}

-- whether one of the two replies is granted, and the other blocked
abbrev pub differ : Reply → Reply → Bool
differ r s = (is_granted r && is_blocked s) || (is_blocked r && is_granted s)

-- whether the replies are granted up to the last, which differ; over: whether two that differ came before
abbrev pub part : Bool → List Reply → List Reply → Bool
part over [] [] = over
part over [] (s ∷ ss) = false
part over (r ∷ rs) [] = false
part over (r ∷ rs) (s ∷ ss) =
    if over then false
    else if is_granted r && is_granted s then part false rs ss
    else if differ r s then part true rs ss
    else false

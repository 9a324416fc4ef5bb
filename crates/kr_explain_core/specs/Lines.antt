-- Lines that read as scripts.
use Rattle.std.specs.Prelude.{◌≡◌, ◌≢◌, ℕ, List, All, Ok}
use Rattle.kr_model.specs.declared.Event.{Event}
use Rattle.kr_model.specs.Map.{Map}
use Rattle.kr_script.specs.Reading.{reading}

-- A text reads as the script of this opening map and these steps, and has no line feed.
pub record IsLineOf (opening : Map) (steps : List Event) (text : List ℕ) : Type 0 where
  pub reads : reading text ≡ Ok (record { opening = opening; steps = steps })
  pub one_line : All (λ b. b ≢ 10) text

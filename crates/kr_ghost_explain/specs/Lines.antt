-- Lines that read as scripts with purges.
use Rattle.std.specs.Prelude.{◌≡◌, ◌≢◌, ℕ, List, All, Ok}
use Rattle.kr_script.specs.GhostScript.{GhostScript}
use Rattle.kr_script.specs.GhostReading.{reading}

-- A text reads as the script, and has no line feed.
pub record IsGhostLineOf (script : GhostScript) (text : List ℕ) : Type 0 where
  pub reads : reading text ≡ Ok script
  pub one_line : All (λ b. b ≢ 10) text

-- Which locks let a transaction delete their key.
use Rattle.std.specs.Prelude.{◌≡◌, ℕ, ◌≤◌, false}
use Rattle.kr_model.specs.declared.Row.TheVariants.{Delete}
use Rattle.kr_model.specs.declared.Side.TheVariants.{Current}
use Rattle.kr_model.specs.Protocol.{Protocol}
use Rattle.kr_model.specs.Covers.{conflicts_with}

-- A lock of mode m lets in a delete of its key, by a transaction with this own mode on the key and some own mode on the next name.
pub record LetsDeleteOf (p : Protocol) (m own : ℕ) : Type 0 where
  pub next : ℕ
  pub within : next ≤ p.count
  pub granted : conflicts_with p m own (p.ask Delete Current next) ≡ false

-- Which deletes a lock lets in.
use Rattle.std.specs.Prelude.{◌≡◌, ℕ, false}
use Rattle.kr_model.specs.declared.Row.TheVariants.{Delete}
use Rattle.kr_model.specs.declared.Side.TheVariants.{Current}
use Rattle.kr_model.specs.declared.LockState.{LockState}
use Rattle.kr_model.specs.Protocol.{Protocol}
use Rattle.kr_model.specs.Covers.{conflicts_with}
use Rattle.kr_model.specs.Safe.{free, MayAsk, Beside}

-- A lock of mode m lets in a delete of its key, by one that has x on it and z on the next name.
abbrev pub LetsIn : Protocol → ℕ → LockState → LockState → Type 0
LetsIn p m x z = MayAsk p Delete Current x z × (conflicts_with p m x.mode (p.ask Delete Current z.mode) ≡ false)

-- It lets in one that has x on it and something on the next name.
pub record LetsInOf (p : Protocol) (m : ℕ) (x : LockState) : Type 0 where
  pub next : LockState
  pub reached : Beside p next free
  pub lets_in : LetsIn p m x next

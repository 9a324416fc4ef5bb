-- A part whose committed programs are kept.
use Rattle.std.specs.Prelude.{◌≡◌, ℕ, List, Option, map}
use Rattle.std.specs.BTreeMap.{BTreeMap}
use Rattle.kr_model.specs.Map.{Map}
use Rattle.kr_trace_follow.specs.Programs.{no_tale}
use Rattle.kr_trace_parts.specs.Committed.{Committed}
use Rattle.kr_trace_parts.specs.Parts.{Part}
use Rattle.kr_trace_parts.specs.Tales.{committed_in, noted, told_after}
use Rattle.kr_trace_parts.specs.declared.programs.Committed.{Committed as Noted}
use Rattle.kr_trace_parts.specs.declared.tales.Tale.{Tale}

-- A committed transaction, as the definitions have it.
abbrev pub shown : Noted → Committed
shown c = record { txn = c.txn; program = c.program.items }

-- What is kept of a part: its opening; what the transactions that haven't ended have done; those that have committed; and the order that ends it.
pub record IsKept (s : Part) (opening : Map) (tales : BTreeMap ℕ Tale) (committed : List Noted) (order : Option (List ℕ)) : Type 0 where
  pub opened : opening ≡ s.opening
  pub told : (u : ℕ) → noted tales u ≡ told_after (λ t. no_tale) s.steps u
  pub commits : map shown committed ≡ committed_in s.steps
  pub ordered : order ≡ s.order

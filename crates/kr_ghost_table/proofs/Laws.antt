-- A table with ghosts keeps the laws of a protocol.
use Rattle.std.proofs.Common.{◌≡◌, ◌==◌, ℕ, length, List, true, Option, Some, None, nat_lt, nat_le, subst, arith}
use Rattle.std.specs.Prelude.{unwrap_or}
use Rattle.std.specs.List.{list_all}
use Rattle.std.proofs.lemmas.Bool.{and_parts}
use Rattle.std.proofs.lemmas.Bool.Decides.{nat_tests}
use Rattle.kr_model.specs.declared.Span.{Span}
use Rattle.kr_model.specs.Protocol.{Protocol, IsMode}
use Rattle.kr_table.specs.Tables.{Request, TableData, protocol_of, in_range, asks_mode}
use Rattle.kr_ghost.specs.Protocol.{AsksMode}
use Rattle.kr_ghost_table.specs.Tables.{GhostData, IsGhostTable, is_heir, are_heirs, next_of, vain_row}
use Rattle.kr_ghost_table.specs.Lawful.{AsksModes, LeavesModes}
use Rattle.kr_ghost_table.proofs.Bounds.{heir_within}

mode_of_request : (p : Protocol) (r : Request) (q : ℕ) (s : Span) → asks_mode p.count r ≡ true → r ≡ Some (q, s) → IsMode p q
mode_of_request p r q s h e =
    let t : in_range p.count q ≡ true = subst (λ x. asks_mode p.count x ≡ true) e h in
    let a : nat_lt 0 q ≡ true = (and_parts (nat_lt 0 q) (nat_le q p.count) t).0 in
    let b : nat_le q p.count ≡ true = (and_parts (nat_lt 0 q) (nat_le q p.count) t).1 in
    record { some = grind (arith, nat_tests); in_range = grind (arith, nat_tests) }

-- what a row requests, if it is given
mode_of_given : (p : Protocol) (o : Option Request) (r : Request) → asks_mode p.count (unwrap_or o None) ≡ true → o ≡ Some r → AsksMode p r
mode_of_given p o r h e q s f = mode_of_request p r q s (subst (λ y. asks_mode p.count (unwrap_or y None) ≡ true) e h) f

-- what an insert of a ghost and each vain step request is a mode
pub asks_of : (x : GhostData) → IsGhostTable x → AsksModes x
asks_of x t = record {
  revive = λ q span e. mode_of_request (protocol_of x.table) x.revive q span t.revive e;
  revive_next = λ q span e. mode_of_request (protocol_of x.table) x.revive_next q span t.revive_next e;
  vain = λ v r e. mode_of_given (protocol_of x.table) (vain_row x.vain v) r (t.vain v) e;
  insert_hit_next = λ q span e. mode_of_request (protocol_of x.table) (next_of x.vain.insert_hit) q span t.insert_hit_next e;
}

leaves_at : (x : TableData) (o : Option (List ℕ)) → are_heirs (length x.modes.names) o ≡ true → LeavesModes (protocol_of x) o
leaves_at x None h k low = omega arith
leaves_at x (Some hs) h k low = heir_within (length x.modes.names) hs k (and_parts (length hs == length x.modes.names) (list_all (is_heir (length x.modes.names)) hs) h).1

-- each heir is a mode or none
pub leaves_of : (x : GhostData) → IsGhostTable x → LeavesModes (protocol_of x.table) x.purge
leaves_of x t = leaves_at x.table x.purge t.heirs

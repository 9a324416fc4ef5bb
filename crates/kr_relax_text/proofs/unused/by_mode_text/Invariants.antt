-- the lines of the modes so far are written
use Rattle.std.proofs.Common.{◌≡◌, ◌-◌, string_bytes}
use Rattle.std.specs.List.{flat_map}
use Rattle.kr_model.specs.Covers.{count_up}
use Rattle.kr_relax_text.specs.Unused.{group_line, group_of}
use Rattle.kr_relax_text.proofs.unused.by_mode_text.Given as goal

abbrev pub invariant-loop-mode : goal.invariant-loop-mode
invariant-loop-mode g l =
    string_bytes l.out ≡ flat_map (λ m. group_line (g.P.Protocol.table l.protocol) (g.P.Protocol.names l.protocol) l.entries (group_of l.are_pairs m)) (count_up 1 (l.mode - 1))

-- the heads of the covers so far
use Rattle.std.proofs.Common.{◌≡◌, take, string_bytes}
use Rattle.std.specs.List.{flat_map}
use Rattle.kr_model.specs.Covers.{all_covers}
use Rattle.kr_view_table.specs.Covers.{cover_head}
use Rattle.kr_view_table.proofs.covers.cover_heads.Given as goal

abbrev pub invariant-loop-cover : goal.invariant-loop-cover
invariant-loop-cover g l = string_bytes l.out ≡ flat_map (cover_head) (take l.cover-index (all_covers (g.P.Protocol.table l.protocol)))

-- A protocol is ordered exactly where each of the parts is so.
use Rattle.kr_model.specs.declared.Row.{Row}
use Rattle.kr_model.specs.declared.Row.TheVariants.{Insert, Delete}
use Rattle.kr_model.specs.declared.Side.{Side}
use Rattle.kr_model.specs.declared.Side.TheVariants.{Current, Next}
use Rattle.kr_model.specs.Protocol.{Protocol, IsLawful}
use Rattle.kr_theorem.specs.Ordered.{IsOrdered}
use Rattle.kr_theorem.proofs.Order as order
use Rattle.kr_decide.specs.Rising.{AllGoUp, Rises, AllKeepNone}

pub ordered_by_parts : (p : Protocol) → IsLawful p → AllGoUp p → AllKeepNone p → Rises p Insert Current → Rises p Insert Next → Rises p Delete Current → Rises p Delete Next → IsOrdered p
ordered_by_parts p laws up none insert insert_next delete delete_next = order.ordered_by_moves p laws (λ h q hh qq. up h hh q qq) (λ own q span le e. none own le q span e) inserts deletes
  where
    inserts : (side : Side) → order.Rises p Insert side
    inserts Current m n mm nn least = insert m mm n nn least
    inserts Next m n mm nn least = insert_next m mm n nn least

    deletes : (side : Side) → order.Rises p Delete side
    deletes Current m n mm nn least = delete m mm n nn least
    deletes Next m n mm nn least = delete_next m mm n nn least

pub part_up : (p : Protocol) → IsOrdered p → AllGoUp p
part_up p ordered h hh q qq = ordered.convert h q hh qq

pub part_none : (p : Protocol) → IsOrdered p → AllKeepNone p
part_none p ordered own le q span e = ordered.insert_next own q span le e

pub part_rises : (p : Protocol) → IsOrdered p → (row : Row) (side : Side) → Rises p row side
part_rises p ordered row side m mm n nn least = ordered.ask row side m n mm nn least

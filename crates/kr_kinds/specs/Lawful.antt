-- A protocol without ghosts, read as one with ghosts, keeps the laws.
use Rattle.kr_model.specs.Protocol.{Protocol, IsLawful}
use Rattle.kr_ghost.specs.Protocol.{IsLawfulGhost}
use Rattle.kr_ghost.proofs.Bundled.{asks_nothing, no_rows}
use Rattle.kr_kinds.specs.Kinds.{plain_ghosts}

pub plain_lawful : (p : Protocol) → IsLawful p → IsLawfulGhost (plain_ghosts p)
plain_lawful p laws = record {
  table = laws;
  revive = asks_nothing p;
  revive_next = asks_nothing p;
  vain = no_rows p;
  insert_hit_next = asks_nothing p;
  purges = tt;
}

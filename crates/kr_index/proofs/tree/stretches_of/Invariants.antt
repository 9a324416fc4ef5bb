use Rattle.kr_model.specs.Map.{Map}
use Rattle.kr_index.specs.Stretches.{IsRising, AreMarked}
use Rattle.kr_index.proofs.tree.stretches_of.Given as goal

abbrev pub invariant-loop-part : goal.invariant-loop-part
invariant-loop-part l = record { rising : IsRising l.stretches.items; marked : (m : Map) → AreMarked l.stretches.items m }

-- Two more lawful tables that are neither safe nor ordered. That no schedule goes wrong under them is argued in docs/HEADLINE.md, and isn't proved.
use Rattle.std.specs.Prelude.{ℕ, false, ◌==◌, [], ◌∷◌, Option, if◌then◌else◌}
use Rattle.kr_model.specs.declared.Row.{Row}
use Rattle.kr_model.specs.declared.Row.TheVariants.{Insert, Delete}
use Rattle.kr_model.specs.declared.Side.{Side}
use Rattle.kr_model.specs.declared.Side.TheVariants.{Current}
use Rattle.kr_model.specs.declared.Span.{Span}
use Rattle.kr_model.specs.Protocol.{Protocol, IsLawful}
use Rattle.kr_model.specs.Matrices.{ok_by, convert_by, for_commit, at_once}
use Rattle.kr_model.specs.Im.{S, X, im_ask}
use Rattle.kr_model.specs.Safe.{IsSafe}
use Rattle.kr_theorem.specs.Ordered.{IsOrdered}

-- A lawful table that is neither safe nor ordered.
abbrev pub IsUnsafeUnordered : Protocol → Type 0
IsUnsafeUnordered p = IsLawful p × (IsSafe p → ⊥) × (IsOrdered p → ⊥)

-- What a delete requests on its key.
abbrev pub D : ℕ
D = 3

-- A weak lock, which lets in a delete.
abbrev pub W : ℕ
W = 4

-- The delete is blocked on the next name --

-- Index-specific locking in which an insert keeps W on its key where its transaction holds S, X or W on the next name, and a delete requests D on its key for an instant.
abbrev pub next_ask : Row → Side → ℕ → Option (ℕ × Span)
next_ask Insert Current own = if own == 0 then for_commit X else if own == D then for_commit X else for_commit W
next_ask Delete Current own = at_once D
next_ask r s own = im_ask r s own

-- A held W lets in a D, so it doesn't keep out a delete of the inserted key. But that delete also requests X on the next name, where whoever holds W has the lock for which it took W.
abbrev pub next_blocks : Protocol
next_blocks = record {
  count = 4;
  ok = ok_by ((S ∷ []) ∷ [] ∷ (W ∷ []) ∷ [] ∷ []);
  convert = convert_by ((S ∷ X ∷ X ∷ X ∷ []) ∷ (X ∷ X ∷ X ∷ X ∷ []) ∷ (X ∷ X ∷ X ∷ X ∷ []) ∷ (W ∷ W ∷ W ∷ W ∷ []) ∷ []);
  ask = next_ask;
  updates = false;
}

-- The key is gone --

-- Index-specific locking in which a delete keeps D on its key.
abbrev pub gone_ask : Row → Side → ℕ → Option (ℕ × Span)
gone_ask Delete Current own = for_commit D
gone_ask r s own = im_ask r s own

-- Who has read a key and deletes it has W there, and W lets in another's D, though a key that was read keeps out a delete. But the key is gone: nobody can delete it until the transaction ends, or undoes its delete and can't commit any more.
abbrev pub key_gone : Protocol
key_gone = record {
  count = 4;
  ok = ok_by ((S ∷ []) ∷ [] ∷ (W ∷ []) ∷ (D ∷ []) ∷ []);
  convert = convert_by ((S ∷ X ∷ W ∷ X ∷ []) ∷ (X ∷ X ∷ X ∷ X ∷ []) ∷ (X ∷ X ∷ D ∷ X ∷ []) ∷ (X ∷ X ∷ X ∷ X ∷ []) ∷ []);
  ask = gone_ask;
  updates = false;
}

-- Lines that are printed of parts, and one more.
use Rattle.std.specs.Prelude.{◌≡◌, ℕ, suc, ◌+◌, Bool, true, false, ◌&&◌, List, [], ◌∷◌, ◌++◌, Option, Some, None, length, refl}
use Rattle.std.specs.Io.KnownBytes.{Appends}
use Rattle.std.proofs.Common.{sym, ◌∙◌, ap, subst, arith, append_assoc, append-nil}
use Rattle.kr_sink.proofs.Grows.{appends_more}
use Rattle.kr_trace_parts.specs.Parts.{Part}
use Rattle.kr_trace_parts.specs.Printed.{ArePrinted, AreWritten}

and_true : (b : Bool) → b ≡ (b && true)
and_true true = refl
and_true false = refl

and_all : (a b c : Bool) → ((a && b) && c) ≡ (a && (b && c))
and_all true b c = refl
and_all false b c = refl

printed_more : (P : ℕ → Part → List ℕ → Bool → Type 0) (n k : ℕ) (ss : List Part) (s : Part) (out : List ℕ) (well : Bool) (text : List ℕ) (is_well : Bool)
    → ArePrinted P n ss out well → k ≡ n + length ss → P k s text is_well → ArePrinted P n (ss ++ s ∷ []) (out ++ text) (well && is_well)
printed_more P n k [] s out well text is_well h at p = (
  text,
  is_well,
  [],
  true,
  subst (λ (i : ℕ). P i s text is_well) (omega (arith, at)) p,
  (refl, refl),
  ap (λ (z : List ℕ). z ++ text) h.0 ∙ sym (append-nil text),
  ap (λ (z : Bool). z && is_well) h.1 ∙ and_true is_well,
)
printed_more P n k (r ∷ rs) s out well text is_well h at p = (
  h.0,
  h.1,
  h.2 ++ text,
  h.3 && is_well,
  h.4,
  printed_more P (suc n) k rs s h.2 h.3 text is_well h.5 (omega (arith, at)) p,
  ap (λ (z : List ℕ). z ++ text) h.6 ∙ append_assoc h.0 h.2 text,
  ap (λ (z : Bool). z && is_well) h.7 ∙ and_all h.1 h.3 is_well,
)

-- One part more is written.
pub written_more : (P : ℕ → Part → List ℕ → Bool → Type 0) (ss : List Part) (s : Part) (first old new : Option (List ℕ)) (well : Bool) (text : List ℕ) (is_well : Bool) (k : ℕ)
    → AreWritten P ss first old well → k ≡ length ss → P (k + 1) s text is_well → Appends old new text → AreWritten P (ss ++ s ∷ []) first new (well && is_well)
written_more P ss s first old new well text is_well k h at p more = (
  h.0 ++ text,
  (
    printed_more P 1 (k + 1) ss s h.0 well text is_well h.1.0 (omega (arith, at)) p,
    appends_more first old new h.0 text h.1.1 more,
  ),
)

pub nothing_appended : (o : Option (List ℕ)) → Appends o o []
nothing_appended None = tt
nothing_appended (Some bytes) = sym (append-nil bytes)

-- No part is written.
pub none_written : (P : ℕ → Part → List ℕ → Bool → Type 0) (o : Option (List ℕ)) → AreWritten P [] o o true
none_written P o = ([], ((refl, refl), nothing_appended o))

-- Whether one of the requests that schedules bring comes to an entry.
use Rattle.std.proofs.Common.{ℕ, ◌≡◌, ◌<◌, ◌+◌, ◌∙◌, ◌⊎◌, inl, inr, List, length, get_or, ap, sym, subst, arith}
use Rattle.std.proofs.lemmas.List.{get_or_default}
use Rattle.kr_kinds.specs.Kinds.{IndexProtocol}
use Rattle.kr_relax_core.specs.declared.place.Spot.{Spot}
use Rattle.kr_relax_core.specs.declared.unused.Entry.{Entry}
use Rattle.kr_relax_core.specs.Met.{IsMetBy}
use Rattle.kr_relax_core.specs.Unused.{ComesTo, IsUsed}

-- None of the first n does.
abbrev pub NoneComes : IndexProtocol → Entry → List Spot → ℕ → Type 0
NoneComes p e spots n = (k : ℕ) (d : Spot) → k < n → ComesTo p e (get_or spots k d) → ⊥

below_or_last : (k n : ℕ) → k < n + 1 → (k < n) ⊎ (k ≡ n)
below_or_last k n h = grind arith

-- One spot more, that doesn't.
pub none_more : (p : IndexProtocol) (e : Entry) (spots : List Spot) (n : ℕ) (x : Spot) → n < length spots → (ComesTo p e (get_or spots n x) → ⊥) → NoneComes p e spots n → NoneComes p e spots (n + 1)
none_more p e spots n x low isnt none k d below here = split (below_or_last k n below)
  where
    split : (k < n) ⊎ (k ≡ n) → ⊥
    split (inl h) = none k d h here
    split (inr same) = isnt (subst (ComesTo p e) (ap (λ (i : ℕ). get_or spots i d) same ∙ get_or_default spots n d x low) here)

-- Where one does, the entry is used;
pub used_by : (p : IndexProtocol) (e : Entry) (spots : List Spot) (n : ℕ) (x : Spot) → IsMetBy p spots → n < length spots → ComesTo p e (get_or spots n x) → IsUsed p e
used_by p e spots n x met low comes = record { spot = get_or spots n x; met = met.sound n x low; comes = comes }

-- where none does, it isn't.
pub not_used : (p : IndexProtocol) (e : Entry) (spots : List Spot) (n : ℕ) → IsMetBy p spots → length spots ≡ n → NoneComes p e spots n → IsUsed p e → ⊥
not_used p e spots n met end none is =
    let x : Spot = is.spot in
    let there = met.listed x.request.place x.request.own x.request.next x.held is.met in
    let low : there.0 < n = (let l = there.1 in omega (arith, l)) in
    none there.0 x low (subst (ComesTo p e) (sym there.2) is.comes)

-- Codes of modes: a loop over all codes has gone through all modes of two tables.
use Rattle.std.proofs.Common.{ℕ, ◌<◌, ◌≤◌, ◌≡◌, ◌⊎◌, inl, inr, subst, arith, Bool, List, IsTrue}
use Rattle.std.proofs.lemmas.Bool.{and_parts}
use Rattle.std.specs.Prelude.{◌+◌, ◌*◌, ◌/◌, ◌%◌, nat_le}
use Rattle.kr_model.specs.Protocol.{Protocol, IsLawful}
use Rattle.kr_model.proofs.Tested.{le_of_test}
use Rattle.kr_alike.specs.declared.modes.Modes.{Modes}
use Rattle.kr_alike.specs.Marks.{modes_of, is_within, has}
use Rattle.kr_alike.proofs.Held.{same_modes}

-- What holds of each code below the last, and of the last, holds of all.
pub all_codes : (P : ℕ → Type 0) (last : ℕ) → 255 ≤ last → ((c : ℕ) → c < last → P c) → P last → (c : ℕ) → c < 256 → P c
all_codes P last most below here c lt = by (below_or_last c last (omega arith))
  where
    below_or_last : (c last : ℕ) → c ≤ last → (c < last) ⊎ (last ≡ c)
    below_or_last c last le = grind arith

    by : (c < last) ⊎ (last ≡ c) → P c
    by (inl b) = below c b
    by (inr e) = subst P e here

-- Modes of at most 15 have a code.
abbrev pub code_of : Modes → ℕ
code_of x = x.first * 16 + x.second

pub modes_of_code : (x : Modes) → x.first ≤ 15 → x.second ≤ 15 → modes_of (code_of x) ≡ x
modes_of_code x one two = same_modes _ _ _ _ (whole x.first x.second two) (rest x.first x.second two)
  where
    whole : (a b : ℕ) → b ≤ 15 → (a * 16 + b) / 16 ≡ a
    whole a b le = omega arith

    rest : (a b : ℕ) → b ≤ 15 → (a * 16 + b) % 16 ≡ b
    rest a b le = omega arith

-- So do all that the set of some marks has.
pub has_within : (p q : Protocol) (marks : List Bool) (x y : Modes) → IsTrue (has p q marks x y) → IsTrue (is_within p q x) × IsTrue (is_within p q y)
has_within p q marks x y h = (let z = and_parts (is_within p q x) _ h in z.0, let z = and_parts (is_within p q x) _ h in let w = and_parts (is_within p q y) _ z.1 in w.0)

-- What holds of each code holds of all modes of the tables.
pub all_modes : (p q : Protocol) → IsLawful p → IsLawful q → (P : Modes → Type 0) → ((c : ℕ) → c < 256 → P (modes_of c)) → (x : Modes) → IsTrue (is_within p q x) → P x
all_modes p q lawful lawful_too P each x within =
    let w = and_parts (nat_le x.first p.count) (nat_le x.second q.count) within in
    let one = le_of_test x.first p.count w.0 in
    let two = le_of_test x.second q.count w.1 in
    let few = lawful.few in
    let few_too = lawful_too.few in
    subst P (modes_of_code x (omega arith) (omega arith)) (each (code_of x) (below x.first x.second (omega arith) (omega arith)))
  where
    below : (a b : ℕ) → a ≤ 15 → b ≤ 15 → a * 16 + b < 256
    below a b le le_too = omega arith

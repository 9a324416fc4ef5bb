use Rattle.std.proofs.Common.{◌≡◌, ℕ, suc, Bool, true, false, List, [], ◌∷◌, All, IsTrue, map, length, string_bytes, rules, tests, arith}
use Rattle.std.specs.Prelude.{zip, MatchBool}
use Rattle.std.proofs.lemmas.Iterator.{YieldsList-from_slice, YieldsList-from_zip, cases_from_all}
use Rattle.std.proofs.lemmas.List.Elements.{All-from_all_within}
use Rattle.kr_cli_tasks.proofs.words.are_same.Goals as goal

-- where all was answered true
if_all : (P Q : Type 0) (r : Bool) → MatchBool r P Q → IsTrue r → P
if_all P Q true cases t = cases
if_all P Q false cases t = absurd cc

-- each of one list is what stands in its place in the other
same_texts : {X Y : Type 0} (f : X → List ℕ) (g : Y → List ℕ) (xs : List X) (ys : List Y) → length xs ≡ length ys → All (λ p. f p.0 ≡ g p.1) (zip xs ys) → map f xs ≡ map g ys
same_texts f g [] [] long each = cc
same_texts f g [] (y ∷ ys) long each = absurd (omega (arith, long))
same_texts f g (x ∷ xs) [] long each = absurd (omega (arith, long))
same_texts f g (x ∷ xs) (y ∷ ys) long each =
    let each_behind : All (λ p. f p.0 ≡ g p.1) (zip xs ys) = λ k d within. each (suc k) d (omega (arith, within)) in
    let behind = same_texts f g xs ys (omega (arith, long)) each_behind in
    let first : f x ≡ g y = each 0 (x, y) (omega arith) in
    cc

pub returns-then-words-names : goal.returns-then-words-names
returns-then-words-names c t =
    let cases = cases_from_all c.all.new.self _ _ (λ p. string_bytes p.0 ≡ p.1.now) (λ p. Unit {0}) c.all.ensures.ran (YieldsList-from_zip (YieldsList-from_slice c.args.words.now cc) (YieldsList-from_slice c.args.names.now cc)) (λ x q k. search (rules, tests)) (λ x q k. tt) in
    same_texts string_bytes (λ n. n.now) c.args.words.now c.args.names.now (search rules) (All-from_all_within (λ p. string_bytes p.0 ≡ p.1.now) _ (if_all _ _ c.all.result cases t))

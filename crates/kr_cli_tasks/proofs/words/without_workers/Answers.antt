use Rattle.std.proofs.lemmas.Grind.{common_steps}
use Rattle.std.proofs.Common.{◌≡◌, ℕ, List, [], ◌∷◌, ◌++◌, Some, map, length, get_or, take, string_bytes, sym, inl, arith, rules}
use Rattle.std.specs.Prelude.{codes, slice_get}
use Rattle.std.specs.Fmt.{decimal}
use Rattle.std.proofs.lemmas.Slice.Eq.{bytes_eq-Decides}
use Rattle.kr_cli_tasks.specs.Words.{count_of}
use Rattle.kr_cli_tasks.proofs.words.without_workers.Goals as goal

-- three words, and two behind them
split_five : {X : Type 0} (f : X → List ℕ) (ws : List X) (a b d : X) (x y z : List ℕ) → length ws ≡ 5 → a ≡ get_or ws 0 a → b ≡ get_or ws 3 b → d ≡ get_or ws 4 d → f a ≡ x → f b ≡ y → f d ≡ z → (map f ws ≡ map f (take 3 ws) ++ y ∷ z ∷ []) × (slice_get (map f (take 3 ws)) 0 ≡ Some x)
split_five f [] a b d x y z five first option number is_first is_option is_number = absurd (omega (arith, five))
split_five f (w ∷ []) a b d x y z five first option number is_first is_option is_number = absurd (omega (arith, five))
split_five f (w ∷ v ∷ []) a b d x y z five first option number is_first is_option is_number = absurd (omega (arith, five))
split_five f (w ∷ v ∷ u ∷ []) a b d x y z five first option number is_first is_option is_number = absurd (omega (arith, five))
split_five f (w ∷ v ∷ u ∷ t ∷ []) a b d x y z five first option number is_first is_option is_number = absurd (omega (arith, five))
split_five f (w ∷ v ∷ u ∷ t ∷ s ∷ []) a b d x y z five first option number is_first is_option is_number = (cc, cc)
split_five f (w ∷ v ∷ u ∷ t ∷ s ∷ r ∷ ws) a b d x y z five first option number is_first is_option is_number = absurd (omega (arith, five))

-- what both are is the same
across : {x y z : List ℕ} → x ≡ y → x ≡ z → y ≡ z
across first second = cc

pub returns-then-eq-2 : goal.returns-then-eq-2
returns-then-eq-2 c =
    let threads = (bytes_eq-Decides c.as_str.result.now (codes "threads")).0 (sym c.if-eq.ensures) in
    let option = (bytes_eq-Decides c.as_str-then-eq.result.now (codes "--workers")).0 (sym c.if-eq-2.ensures) in
    inl (split_five string_bytes c.args.words.now c.index-words-0.result c.index-words-3.result c.index-words-4.result (codes "threads") (codes "--workers") (decimal (count_of c.in_ok-workers.workers)) (search rules) c.index-words-0.is c.index-words-3.is c.index-words-4.is (across c.as_str.ensures.value threads) (across c.as_str-then-eq.ensures.value option) (across c.as_str-then-eq-2.ensures.value (c.in_ok-workers.ensures)))

pub returns : goal.returns
returns c = grind (arith, common_steps)

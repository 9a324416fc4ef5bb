use Rattle.std.proofs.Common.{◌≡◌, ◌≤◌, ℕ, ◌+◌, ◌-◌, List, [], ◌∷◌, map, length, get_or, take, drop, string_bytes, sym, arith}
use Rattle.std.proofs.lemmas.List.{take_all}
use Rattle.std.proofs.lemmas.Slice.Eq.{bytes_eq-Decides}
use Rattle.kr_cli_tasks.proofs.words.is_form.Goals as goal

-- two words, and those behind them
front_two : {X : Type 0} (f : X → List ℕ) (ws : List X) (a b : X) (x y : List ℕ) (rest : List (List ℕ)) (n : ℕ) → 2 ≤ length ws → length ws ≤ n + 2 → a ≡ get_or ws 0 a → b ≡ get_or ws 1 b → f a ≡ x → f b ≡ y → map f (take n (drop 2 ws)) ≡ rest → map f ws ≡ x ∷ y ∷ rest
front_two f [] a b x y rest n least all first second is_first is_second behind = absurd (omega (arith, least))
front_two f (w ∷ []) a b x y rest n least all first second is_first is_second behind = absurd (omega (arith, least))
front_two f (v ∷ w ∷ ws) a b x y rest n least all first second is_first is_second behind =
    let whole : take n ws ≡ ws = take_all n ws (omega (arith, all)) in
    cc

-- what both are is the same
across : {x y z : List ℕ} → x ≡ y → x ≡ z → y ≡ z
across first second = cc

pub returns-in-len2-up : goal.returns-in-len2-up
returns-in-len2-up c t =
    let name = (bytes_eq-Decides c.as_str.result.now c.args.first.now).0 (sym c.if-eq.ensures) in
    let word = (bytes_eq-Decides c.as_str-then-eq.result.now c.args.table.now).0 (sym c.if-eq-2.ensures) in
    front_two string_bytes c.args.words.now c.name-item.result c.word-item.result c.args.first.now c.args.table.now _ (length c.args.words.now - 2) c.in-len2-up.len_at_least (omega arith) c.name-item.is c.word-item.is (across c.as_str.ensures.value name) (across c.as_str-then-eq.ensures.value word) (c.are_same.ensures t)

-- Badges, one behind another.
use Rattle.std.proofs.Common.{◌≡◌, ◌++◌, [], ◌∷◌, ℕ, ◌+◌, ◌<◌, ◌≤◌, List, length, take, get_or, sym, ap, ◌∙◌, append_assoc, arith}
use Rattle.std.proofs.lemmas.List.{append-nil, take_more, take_all, length-take-le}
use Rattle.kr_explain_core.specs.declared.explanation.Explained.{Explained}
use Rattle.kr_view_table.specs.declared.badges.Entry.{Entry}
use Rattle.kr_view_table.specs.Badges.{badge_at, badges}

-- the badges of causes, and of one more, whose number is m
badge_more : (entry : Entry) (n m : ℕ) (es : List Explained) (e : Explained) → m ≡ n + length es → badges entry n (es ++ e ∷ []) ≡ badges entry n es ++ badge_at entry m e.cause.blame
badge_more entry n m [] e at =
    let number : n ≡ m = omega arith in
    append-nil (badge_at entry n e.cause.blame) ∙ ap (λ k. badge_at entry k e.cause.blame) number
badge_more entry n m (d ∷ es) e at =
    let number : m ≡ (n + 1) + length es = omega arith in
    ap (λ (z : List ℕ). badge_at entry n d.cause.blame ++ z) (badge_more entry (n + 1) m es e number) ∙ sym (append_assoc (badge_at entry n d.cause.blame) (badges entry (n + 1) es) (badge_at entry m e.cause.blame))

-- the badge of the cause at a place, behind those of the causes before it
pub badges_at : (entry : Entry) (es : List Explained) (i : ℕ) (e : Explained) (out piece shown new : List ℕ) → i < length es → e ≡ get_or es i e → out ≡ badges entry 1 (take i es) → shown ≡ piece → piece ≡ badge_at entry (i + 1) e.cause.blame → new ≡ out ++ shown → new ≡ badges entry 1 (take (i + 1) es)
badges_at entry es i e out piece shown new low is_item so_far is_shown is_piece is_new =
    let here : take (i + 1) es ≡ take i es ++ e ∷ [] = take_more es i e low ∙ ap (λ x. take i es ++ x ∷ []) (sym is_item) in
    let number : i + 1 ≡ 1 + length (take i es) = omega (arith, length-take-le i es (omega arith)) in
    is_new ∙ (ap (λ (z : List ℕ). z ++ shown) so_far ∙ (ap (λ (z : List ℕ). badges entry 1 (take i es) ++ z) (is_shown ∙ is_piece) ∙ (sym (badge_more entry 1 (i + 1) (take i es) e number) ∙ ap (badges entry 1) (sym here))))

-- the badges of all causes
pub badges_all : (entry : Entry) (es : List Explained) (i : ℕ) (out : List ℕ) → length es ≤ i → out ≡ badges entry 1 (take i es) → out ≡ badges entry 1 es
badges_all entry es i out low so_far = so_far ∙ ap (badges entry 1) (take_all i es low)

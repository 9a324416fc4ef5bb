-- Texts that are written one behind another.
use Rattle.std.proofs.Common.{◌≡◌, ◌++◌, ◌∷◌, [], ℕ, List, append_assoc, ap, ◌∙◌}

-- two writes are one write of both texts
both : (s t u x y : List ℕ) → t ≡ s ++ x → u ≡ t ++ y → u ≡ s ++ (x ++ y)
both s t u x y e f = f ∙ ap (λ l. l ++ y) e ∙ append_assoc s x y

-- what eleven writes leave
pub laid : (s1 s2 s3 s4 s5 s6 s7 s8 s9 s10 s11 x1 x2 x3 x4 x5 x6 x7 x8 x9 x10 x11 : List ℕ)
    → s1 ≡ x1 → s2 ≡ s1 ++ x2 → s3 ≡ s2 ++ x3 → s4 ≡ s3 ++ x4 → s5 ≡ s4 ++ x5 → s6 ≡ s5 ++ x6 → s7 ≡ s6 ++ x7 → s8 ≡ s7 ++ x8 → s9 ≡ s8 ++ x9 → s10 ≡ s9 ++ x10 → s11 ≡ s10 ++ x11
    → s11 ≡ x1 ++ (x2 ++ (x3 ++ (x4 ++ (x5 ++ (x6 ++ (x7 ++ (x8 ++ (x9 ++ (x10 ++ (x11))))))))))
laid s1 s2 s3 s4 s5 s6 s7 s8 s9 s10 s11 x1 x2 x3 x4 x5 x6 x7 x8 x9 x10 x11 e1 e2 e3 e4 e5 e6 e7 e8 e9 e10 e11 =
    let f10 : s11 ≡ s9 ++ (x10 ++ x11) = both s9 s10 s11 x10 x11 e10 e11 in
    let f9 : s11 ≡ s8 ++ (x9 ++ (x10 ++ (x11))) = both s8 s9 s11 x9 (x10 ++ (x11)) e9 f10 in
    let f8 : s11 ≡ s7 ++ (x8 ++ (x9 ++ (x10 ++ (x11)))) = both s7 s8 s11 x8 (x9 ++ (x10 ++ (x11))) e8 f9 in
    let f7 : s11 ≡ s6 ++ (x7 ++ (x8 ++ (x9 ++ (x10 ++ (x11))))) = both s6 s7 s11 x7 (x8 ++ (x9 ++ (x10 ++ (x11)))) e7 f8 in
    let f6 : s11 ≡ s5 ++ (x6 ++ (x7 ++ (x8 ++ (x9 ++ (x10 ++ (x11)))))) = both s5 s6 s11 x6 (x7 ++ (x8 ++ (x9 ++ (x10 ++ (x11))))) e6 f7 in
    let f5 : s11 ≡ s4 ++ (x5 ++ (x6 ++ (x7 ++ (x8 ++ (x9 ++ (x10 ++ (x11))))))) = both s4 s5 s11 x5 (x6 ++ (x7 ++ (x8 ++ (x9 ++ (x10 ++ (x11)))))) e5 f6 in
    let f4 : s11 ≡ s3 ++ (x4 ++ (x5 ++ (x6 ++ (x7 ++ (x8 ++ (x9 ++ (x10 ++ (x11)))))))) = both s3 s4 s11 x4 (x5 ++ (x6 ++ (x7 ++ (x8 ++ (x9 ++ (x10 ++ (x11))))))) e4 f5 in
    let f3 : s11 ≡ s2 ++ (x3 ++ (x4 ++ (x5 ++ (x6 ++ (x7 ++ (x8 ++ (x9 ++ (x10 ++ (x11))))))))) = both s2 s3 s11 x3 (x4 ++ (x5 ++ (x6 ++ (x7 ++ (x8 ++ (x9 ++ (x10 ++ (x11)))))))) e3 f4 in
    let f2 : s11 ≡ s1 ++ (x2 ++ (x3 ++ (x4 ++ (x5 ++ (x6 ++ (x7 ++ (x8 ++ (x9 ++ (x10 ++ (x11)))))))))) = both s1 s2 s11 x2 (x3 ++ (x4 ++ (x5 ++ (x6 ++ (x7 ++ (x8 ++ (x9 ++ (x10 ++ (x11))))))))) e2 f3 in
    f2 ∙ ap (λ l. l ++ (x2 ++ (x3 ++ (x4 ++ (x5 ++ (x6 ++ (x7 ++ (x8 ++ (x9 ++ (x10 ++ (x11))))))))))) e1

-- what five writes leave
pub laid_by_five : (s1 s2 s3 s4 s5 x1 x2 x3 x4 x5 : List ℕ)
    → s1 ≡ x1 → s2 ≡ s1 ++ x2 → s3 ≡ s2 ++ x3 → s4 ≡ s3 ++ x4 → s5 ≡ s4 ++ x5
    → s5 ≡ x1 ++ (x2 ++ (x3 ++ (x4 ++ x5)))
laid_by_five s1 s2 s3 s4 s5 x1 x2 x3 x4 x5 e1 e2 e3 e4 e5 =
    let f4 : s5 ≡ s3 ++ (x4 ++ x5) = both s3 s4 s5 x4 x5 e4 e5 in
    let f3 : s5 ≡ s2 ++ (x3 ++ (x4 ++ x5)) = both s2 s3 s5 x3 (x4 ++ x5) e3 f4 in
    let f2 : s5 ≡ s1 ++ (x2 ++ (x3 ++ (x4 ++ x5))) = both s1 s2 s5 x2 (x3 ++ (x4 ++ x5)) e2 f3 in
    f2 ∙ ap (λ l. l ++ (x2 ++ (x3 ++ (x4 ++ x5)))) e1

-- what a beginning with two numbers, and what is written behind it, leave
pub after_place : (old new s lit t o rest : List ℕ)
    → s ≡ old ++ (lit ++ (t ++ 44 ∷ (o ++ 44 ∷ []))) → new ≡ s ++ rest
    → new ≡ old ++ (lit ++ (t ++ 44 ∷ (o ++ 44 ∷ rest)))
after_place old new s lit t o rest e f =
    both old s new (lit ++ (t ++ 44 ∷ (o ++ 44 ∷ []))) rest e f
    ∙ ap (λ l. old ++ l) (append_assoc lit (t ++ 44 ∷ (o ++ 44 ∷ [])) rest ∙ ap (λ l. lit ++ l) (append_assoc t (44 ∷ (o ++ 44 ∷ [])) rest ∙ ap (λ l. t ++ 44 ∷ l) (append_assoc o (44 ∷ []) rest)))

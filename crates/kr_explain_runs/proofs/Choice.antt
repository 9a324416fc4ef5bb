-- Choices of steps of which some may be absent.
use Rattle.std.proofs.Common.{◌≡◌, ◌∙◌, ap, Bool, true, false, ◌&&◌, ◌||◌, refl}

and_true : (x : Bool) → (x && true) ≡ x
and_true true = refl
and_true false = refl

or_false : (x : Bool) → (x || false) ≡ x
or_false true = refl
or_false false = refl

-- a step that can always be taken is found where it is wanted
pub asked : (found asks is : Bool) → found ≡ (asks && true) → asks ≡ is → found ≡ is
asked found asks is e same = e ∙ and_true asks ∙ same

-- a step is found where it is wanted and can be taken
pub asked_if : (found asks is can may : Bool) → found ≡ (asks && can) → asks ≡ is → can ≡ may → found ≡ (is && may)
asked_if found asks is can may e same_asks same_can = e ∙ ap (λ x. x && can) same_asks ∙ ap (λ x. is && x) same_can

-- one of two, if the others are alike
pub or_both : (a b c d : Bool) → a ≡ c → b ≡ d → (a || b) ≡ (c || d)
or_both a b c d e f = ap (λ x. x || b) e ∙ ap (λ x. c || x) f

-- the last, behind which none is found
pub last : (a b : Bool) → a ≡ b → (a || false) ≡ b
last a b e = or_false a ∙ e

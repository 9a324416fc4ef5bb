-- The commands by their words.
use Rattle.std.specs.Prelude.{◌≡◌, ◌≢◌, ◌⊎◌, ◌-◌, ◌≤◌, ℕ, List, [], ◌∷◌, Option, Some, None, bytes_eq, codes, if◌then◌else◌, drop, get_or, length, map, take, refl}
use Rattle.std.proofs.Common.{arith, ap, inl, inr, subst, sym, ◌∙◌}
use Rattle.std.proofs.lemmas.Grind.{common_steps}
use Rattle.kr_program.specs.declared.commands.Command.{Command}
use Rattle.kr_program.specs.declared.commands.Command.TheVariants.{Check, Run, Judge, Threads, Explain, View, Trace, Suite, Relax, Help, Version}
use Rattle.kr_program.specs.Commands.{word_of}
use Rattle.kr_program.proofs.Serial.{first, rest_of}

-- the words behind the first
all_behind : {A : Type 0} (w : A) (ws : List A) → take (length (w ∷ ws) - 1) (drop 1 (w ∷ ws)) ≡ ws
all_behind w ws = grind (arith, common_steps)

-- the words are the first and those behind it
pub in_front : {A : Type 0} (f : A → List ℕ) (words : List A) (item : A) (x : List ℕ) → 1 ≤ length words → item ≡ get_or words 0 item → f item ≡ x → map f words ≡ x ∷ map f (take (length words - 1) (drop 1 words))
in_front f [] item x some is named = absurd (omega (arith, some))
in_front f (w ∷ ws) item x some is named = let same : item ≡ w = is in ap (λ y. y ∷ map f ws) (ap f (sym same) ∙ named) ∙ ap (λ zs. x ∷ map f zs) (sym (all_behind w ws))

-- no words begin with no command
pub no_words : (words : List (List ℕ)) → words ≡ [] → (c : Command) (rest : List (List ℕ)) → words ≡ word_of c ∷ rest → ⊥
no_words words none c rest is = let k : [] ≡ word_of c ∷ rest = sym none ∙ is in absurd (cc)

-- A word is that of one command --

-- the command of a word, if it is that of one
abbrev of_word : List ℕ → Option Command
of_word w =
    if bytes_eq w (codes "check") then Some Check else
    if bytes_eq w (codes "run") then Some Run else
    if bytes_eq w (codes "judge") then Some Judge else
    if bytes_eq w (codes "threads") then Some Threads else
    if bytes_eq w (codes "explain") then Some Explain else
    if bytes_eq w (codes "view") then Some View else
    if bytes_eq w (codes "trace") then Some Trace else
    if bytes_eq w (codes "suite") then Some Suite else
    if bytes_eq w (codes "relax") then Some Relax else
    if bytes_eq w (codes "help") then Some Help else
    if bytes_eq w (codes "version") then Some Version else None

of_its_word : (c : Command) → of_word (word_of c) ≡ Some c
of_its_word Check = refl
of_its_word Run = refl
of_its_word Judge = refl
of_its_word Threads = refl
of_its_word Explain = refl
of_its_word View = refl
of_its_word Trace = refl
of_its_word Suite = refl
of_its_word Relax = refl
of_its_word Help = refl
of_its_word Version = refl

pub same_command : (c d : Command) → word_of c ≡ word_of d → c ≡ d
same_command c d e = let k : Some c ≡ Some d = sym (of_its_word c) ∙ (ap of_word e ∙ of_its_word d) in cc

-- what holds of a command and the words behind its word, where words are both
pub as_command : (P : Command → List (List ℕ) → Type 0) (c d : Command) (words rest behind : List (List ℕ)) → words ≡ word_of c ∷ rest → words ≡ word_of d ∷ behind → P c rest → P d behind
as_command P c d words rest behind are begin h =
    let same : c ≡ d = same_command c d (first _ _ _ _ (sym are ∙ begin)) in
    let all : rest ≡ behind = rest_of _ _ _ _ (sym are ∙ begin) in
    subst (λ (ws : List (List ℕ)). P d ws) all (subst (λ (x : Command). P x rest) same h)

-- a command is `view`, or another
pub view_or_not : (c : Command) → (c ≡ View) ⊎ (c ≢ View)
view_or_not Check = inr (λ is. absurd (cc))
view_or_not Run = inr (λ is. absurd (cc))
view_or_not Judge = inr (λ is. absurd (cc))
view_or_not Threads = inr (λ is. absurd (cc))
view_or_not Explain = inr (λ is. absurd (cc))
view_or_not View = inl refl
view_or_not Trace = inr (λ is. absurd (cc))
view_or_not Suite = inr (λ is. absurd (cc))
view_or_not Relax = inr (λ is. absurd (cc))
view_or_not Help = inr (λ is. absurd (cc))
view_or_not Version = inr (λ is. absurd (cc))

-- a command is `trace`, or not, and then something else holds
pub trace_words : (X : Type 0) (c : Command) (words rest : List (List ℕ)) → words ≡ word_of c ∷ rest → (c ≡ Trace) ⊎ X → ((behind : List (List ℕ)) × (words ≡ codes "trace" ∷ behind)) ⊎ X
trace_words X c words rest are (inl is) = inl (rest, are ∙ ap (λ (x : Command). word_of x ∷ rest) is)
trace_words X c words rest are (inr other) = inr other

-- Failed cases that are shared out to causes.
use Rattle.std.specs.Prelude.{◌≡◌, ℕ, ◌+◌, ◌<◌, List, [], ◌∷◌, ◌++◌, All, length, take, get_or, refl}
use Rattle.std.specs.List.Sorted.{IsPermutation}
use Rattle.std.proofs.Common.{sym, ap, subst, ◌∙◌, arith}
use Rattle.std.proofs.lemmas.List.{append-nil, length-map, map-append, take_more}
use Rattle.std.proofs.lemmas.List.Elements.{All-push}
use Rattle.std.proofs.lemmas.List.Sorted.{IsPermutation-refl}
use Rattle.std.proofs.lemmas.Grind.{flat_map-append}
use Rattle.kr_explain_causes.proofs.Sharing.{more_kept, more_taken, parted, fewer, some_more}
use Rattle.kr_ghost.specs.declared.cases.FailedCase.{FailedCase}
use Rattle.kr_ghost.specs.Protocol.{GhostProtocol}
use Rattle.kr_ghost_explain.specs.declared.blame.GhostBlame.{GhostBlame}
use Rattle.kr_ghost_explain.specs.declared.causes.Blamed.{Blamed}
use Rattle.kr_ghost_explain.specs.declared.causes.GhostCause.{GhostCause}
use Rattle.kr_ghost_explain.specs.Blamed.{IsBlamed, cases_of}
use Rattle.kr_ghost_explain.specs.Blames.{IsAbout, IsCauseOf, all_cases}

-- the cases of one more
cases_of-push : (xs : List Blamed) (x : Blamed) → cases_of (xs ++ x ∷ []) ≡ cases_of xs ++ x.case ∷ []
cases_of-push xs x = map-append (λ b. b.case) xs (x ∷ [])

cases_of-take : (xs : List Blamed) (i : ℕ) (d : Blamed) → i < length xs → cases_of (take (i + 1) xs) ≡ cases_of (take i xs) ++ (get_or xs i d).case ∷ []
cases_of-take xs i d low = ap cases_of (take_more xs i d low) ∙ cases_of-push (take i xs) (get_or xs i d)

-- one more with what is to blame for it
pub blamed_next : (failed : List FailedCase) (i : ℕ) (d : FailedCase) (xs xs2 : List Blamed) (x : Blamed) → i < length failed → cases_of xs ≡ take i failed → xs2 ≡ xs ++ x ∷ [] → x.case ≡ get_or failed i d → cases_of xs2 ≡ take (i + 1) failed
blamed_next failed i d xs xs2 x low before more is =
    ap cases_of more ∙ cases_of-push xs x ∙ ap (λ ys. ys ++ x.case ∷ []) before ∙ ap (λ y. take i failed ++ y ∷ []) is ∙ sym (take_more failed i d low)

pub about_next : (p : GhostProtocol) (xs xs2 : List Blamed) (x : Blamed) → All (IsBlamed p) xs → xs2 ≡ xs ++ x ∷ [] → IsAbout p x.blame x.case → All (IsBlamed p) xs2
about_next p xs xs2 x all more about = subst (All (IsBlamed p)) (sym more) (All-push (IsBlamed p) xs x all about)

-- the cases of one cause more
all_cases-more : (causes : List GhostCause) (c : GhostCause) → all_cases (causes ++ c ∷ []) ≡ all_cases causes ++ c.cases.items
all_cases-more causes c = flat_map-append (λ c. c.cases.items) causes (c ∷ []) ∙ ap (λ xs. all_cases causes ++ xs) (append-nil c.cases.items)

-- What is parted --

-- what a cause has so far, of the first i cases of the list, which blames b
pub record ArePartedAt (xs : List Blamed) (b : GhostBlame) (i : ℕ) (cases : List FailedCase) (rest : List Blamed) : Type 0 where
  pub same : IsPermutation (cases_of (take i xs)) (cases ++ cases_of rest)
  pub some : 0 < length cases
  pub about : (p : GhostProtocol) → All (IsBlamed p) xs → All (IsAbout p b) cases × All (IsBlamed p) rest

one : (P : FailedCase → Type 0) (x : FailedCase) → P x → All P (x ∷ [])
one P x is = All-push P [] x (λ k d low. absurd (omega (arith, low))) is

none : {A : Type 0} (P : A → Type 0) → All P []
none P k d low = absurd (omega (arith, low))

at_first : (xs : List Blamed) (x : Blamed) → 0 < length xs → x ≡ get_or xs 0 x → ArePartedAt xs x.blame 1 (x.case ∷ []) []
at_first [] x low is = absurd (omega (arith, low))
at_first (y ∷ xs) x low is = record {
  same = subst (λ (z : Blamed). IsPermutation (cases_of (take 1 (y ∷ xs))) (z.case ∷ [])) (sym is) (IsPermutation-refl (y.case ∷ []));
  some = omega arith;
  about = λ p all. (one (IsAbout p x.blame) x.case (subst (IsBlamed p) (sym is) (all 0 y (omega arith))), none (IsBlamed p));
}

-- at first there is the first alone
pub parted_first : (xs : List Blamed) (x : Blamed) (cases : List FailedCase) (rest : List Blamed) → 0 < length xs → x ≡ get_or xs 0 x → cases ≡ x.case ∷ [] → rest ≡ [] → ArePartedAt xs x.blame 1 cases rest
parted_first xs x cases rest low is taken left =
    subst (λ (ys : List Blamed). ArePartedAt xs x.blame 1 cases ys) (sym left)
    (subst (λ (ys : List FailedCase). ArePartedAt xs x.blame 1 ys []) (sym taken) (at_first xs x low is))

-- one case more of the cause
pub parted_taken : (xs : List Blamed) (b : GhostBlame) (i : ℕ) (d : Blamed) (cases cases2 : List FailedCase) (rest rest2 : List Blamed) → i < length xs → (get_or xs i d).blame ≡ b → ArePartedAt xs b i cases rest → cases2 ≡ cases ++ (get_or xs i d).case ∷ [] → rest2 ≡ rest → ArePartedAt xs b (i + 1) cases2 rest2
parted_taken xs b i d cases cases2 rest rest2 low blames are more same =
    let x = get_or xs i d in
    let here : ArePartedAt xs b (i + 1) (cases ++ x.case ∷ []) rest = record {
      same = subst (λ (ys : List FailedCase). IsPermutation ys ((cases ++ x.case ∷ []) ++ cases_of rest)) (sym (cases_of-take xs i d low)) (more_taken (cases_of (take i xs)) cases (cases_of rest) x.case are.same);
      some = some_more cases (cases ++ x.case ∷ []) x.case refl;
      about = λ p all. (All-push (IsAbout p b) cases x.case (are.about p all).0 (subst (λ (z : GhostBlame). IsAbout p z x.case) blames (all i d low)), (are.about p all).1);
    } in
    subst (λ (ys : List Blamed). ArePartedAt xs b (i + 1) cases2 ys) (sym same) (subst (λ (ys : List FailedCase). ArePartedAt xs b (i + 1) ys rest) (sym more) here)

-- one more that is left
pub parted_kept : (xs : List Blamed) (b : GhostBlame) (i : ℕ) (d : Blamed) (cases cases2 : List FailedCase) (rest rest2 : List Blamed) → i < length xs → ArePartedAt xs b i cases rest → cases2 ≡ cases → rest2 ≡ rest ++ get_or xs i d ∷ [] → ArePartedAt xs b (i + 1) cases2 rest2
parted_kept xs b i d cases cases2 rest rest2 low are same more =
    let x = get_or xs i d in
    let here : ArePartedAt xs b (i + 1) cases (rest ++ x ∷ []) = record {
      same = subst (λ (ys : List FailedCase). IsPermutation ys (cases ++ cases_of (rest ++ x ∷ []))) (sym (cases_of-take xs i d low))
          (subst (λ (ys : List FailedCase). IsPermutation (cases_of (take i xs) ++ x.case ∷ []) (cases ++ ys)) (sym (cases_of-push rest x)) (more_kept (cases_of (take i xs)) cases (cases_of rest) x.case are.same));
      some = are.some;
      about = λ p all. ((are.about p all).0, All-push (IsBlamed p) rest x (are.about p all).1 (all i d low));
    } in
    subst (λ (ys : List Blamed). ArePartedAt xs b (i + 1) cases2 ys) (sym more) (subst (λ (ys : List FailedCase). ArePartedAt xs b (i + 1) ys (rest ++ x ∷ [])) (sym same) here)

-- What is shared out --

-- the causes so far, and what is left
pub record AreSharedSoFar (p : GhostProtocol) (failed : List FailedCase) (causes : List GhostCause) (left : List Blamed) : Type 0 where
  pub all : IsPermutation failed (all_cases causes ++ cases_of left)
  pub some : All (λ c. 0 < length c.cases.items) causes
  pub about : All (IsCauseOf p) causes
  pub blamed : All (IsBlamed p) left

-- at first all are left
pub shared_first : (p : GhostProtocol) (failed : List FailedCase) (causes : List GhostCause) (left : List Blamed) → causes ≡ [] → cases_of left ≡ failed → All (IsBlamed p) left → AreSharedSoFar p failed causes left
shared_first p failed causes left is_none is blamed =
    let here : AreSharedSoFar p failed [] left = record {
      all = subst (IsPermutation failed) (sym is) (IsPermutation-refl failed);
      some = none (λ c. 0 < length c.cases.items);
      about = none (IsCauseOf p);
      blamed = blamed;
    } in
    subst (λ (cs : List GhostCause). AreSharedSoFar p failed cs left) (sym is_none) here

-- one cause more
pub shared_next : (p : GhostProtocol) (failed : List FailedCase) (causes causes2 : List GhostCause) (c : GhostCause) (left now rest : List Blamed) → now ≡ left → AreSharedSoFar p failed causes left
    → IsPermutation (cases_of now) (c.cases.items ++ cases_of rest) → 0 < length c.cases.items → ((q : GhostProtocol) → All (IsBlamed q) now → All (IsAbout q c.blame) c.cases.items × All (IsBlamed q) rest)
    → causes2 ≡ causes ++ c ∷ [] → AreSharedSoFar p failed causes2 rest
shared_next p failed causes causes2 c left now rest is so part some about more =
    let told = about p (subst (All (IsBlamed p)) (sym is) so.blamed) in
    let here : AreSharedSoFar p failed (causes ++ c ∷ []) rest = record {
      all = subst (λ (xs : List FailedCase). IsPermutation failed (xs ++ cases_of rest)) (sym (all_cases-more causes c))
          (parted failed (all_cases causes) (cases_of left) c.cases.items (cases_of rest) so.all (subst (λ (xs : List Blamed). IsPermutation (cases_of xs) (c.cases.items ++ cases_of rest)) is part));
      some = All-push (λ c. 0 < length c.cases.items) causes c so.some some;
      about = All-push (IsCauseOf p) causes c so.about told.0;
      blamed = told.1;
    } in
    subst (λ (cs : List GhostCause). AreSharedSoFar p failed cs rest) (sym more) here

-- fewer are left
pub fewer_left : (left now rest : List Blamed) (taken : List FailedCase) → now ≡ left → IsPermutation (cases_of now) (taken ++ cases_of rest) → 0 < length taken → length rest < length left
fewer_left left now rest taken is part some =
    let less : length (cases_of rest) < length (cases_of now) = fewer (cases_of now) taken (cases_of rest) part some in
    let before : length (cases_of now) ≡ length now = length-map now (λ b. b.case) in
    let after : length (cases_of rest) ≡ length rest = length-map rest (λ b. b.case) in
    omega (arith, less, before, after, ap length is)

-- in the end all are shared out
pub shared_last : (p : GhostProtocol) (failed : List FailedCase) (causes : List GhostCause) (left : List Blamed) → AreSharedSoFar p failed causes left → length left ≡ 0 → IsPermutation failed (all_cases causes)
shared_last p failed causes [] so is_none = subst (IsPermutation failed) (append-nil (all_cases causes)) so.all
shared_last p failed causes (x ∷ left) so is_none = absurd (omega (arith, is_none))

-- Bands, one behind the other, and the page around them.
use Rattle.std.specs.Prelude.{ℕ, List, [], ◌∷◌, ◌++◌, ◌≡◌, Bool, Some, Result, Ok, Err, String, IfOk, OnOk, string_bytes, refl}
use Rattle.std.specs.Str.{chars}
use Rattle.std.proofs.Common.{ap, sym, subst, ◌∙◌, append_assoc, Global}
use Rattle.std.proofs.lemmas.List.{append-nil}
use Rattle.kr_view_scenes.specs.Escape.{escaped, unescaped}
use Rattle.kr_view_scenes.specs.Parts.{IsMadeOfParts}
use Rattle.kr_view_scenes.specs.Scenes.{NumberedStep}
use Rattle.kr_view_run.specs.declared.frame.TheConstants.{BAND_END, STEP_IDS}
use Rattle.kr_view_run.specs.Page.{AreBands, band_head, band_of, IsPage, page_of}

-- a text that is made is another where the two are equal
pub same_text : {E : Type 0} (r : Result (String Global) E) (a b : List ℕ) → a ≡ b → IfOk r (λ t. string_bytes t ≡ a) → IfOk r (λ t. string_bytes t ≡ b)
same_text (Ok t) a b same is = is ∙ same
same_text (Err e) a b same is = tt

-- the head of a band as it is written, by what its words are
pub headed : (a ids n b kind was_kind d asked e txn f op was_op g reply was_reply h : List ℕ) → kind ≡ was_kind → asked ≡ d ++ (n ++ (e ++ (txn ++ (f ++ op)))) → op ≡ was_op → reply ≡ was_reply → (before : List ℕ)
    → a ++ (ids ++ (n ++ (b ++ (kind ++ (before ++ (asked ++ (g ++ (reply ++ h)))))))) ≡ a ++ ids ++ n ++ b ++ was_kind ++ (before ++ d) ++ n ++ e ++ txn ++ f ++ was_op ++ g ++ was_reply ++ h
headed a ids n b kind was_kind d asked e txn f op was_op g reply was_reply h p s q r before = rw (p, s, q, r) (simp append_assoc)

-- the same of a purge
pub purge_headed : (a ids n b kind was_kind d e key g reply was_reply h : List ℕ) → kind ≡ was_kind → reply ≡ was_reply
    → a ++ (ids ++ (n ++ (b ++ (kind ++ (d ++ (n ++ (e ++ (key ++ (g ++ (reply ++ h)))))))))) ≡ a ++ ids ++ n ++ b ++ was_kind ++ d ++ n ++ e ++ key ++ g ++ was_reply ++ h
purge_headed a ids n b kind was_kind d e key g reply was_reply h p s = rw (p, s) (simp append_assoc)

-- the beginning of a page as it is written
pub begun : (a kind name b d look e n h : List ℕ) → a ++ (kind ++ (name ++ (b ++ (d ++ (look ++ (e ++ (kind ++ (n ++ (name ++ (h ++ [])))))))))) ≡ a ++ kind ++ name ++ b ++ d ++ look ++ e ++ kind ++ n ++ name ++ h
begun a kind name b d look e n h = simp (append_assoc, append-nil)

-- a band behind others
one_more : (ids : List ℕ) (steps : List NumberedStep) (step : NumberedStep) (bytes telling new : List ℕ) → AreBands ids steps bytes → IsMadeOfParts telling → new ≡ bytes ++ band_of ids step telling → AreBands ids (steps ++ step ∷ []) new
one_more ids [] step bytes telling new none made is =
    (telling, [], (made, (refl, is ∙ ap (λ (b : List ℕ). b ++ band_of ids step telling) none ∙ sym (append-nil (band_of ids step telling)))))
one_more ids (first ∷ steps) step bytes telling new (told, more, (told_made, (are, e))) made is =
    (told, more ++ band_of ids step telling, (told_made, (one_more ids steps step more telling (more ++ band_of ids step telling) are made refl, is ∙ ap (λ (b : List ℕ). b ++ band_of ids step telling) e ∙ append_assoc (band_of ids first told) more (band_of ids step telling))))

-- a head, what is told and an end, put one after the other behind the bands of steps, are the band of one more
pub pushed_band : (ids : List ℕ) (steps : List NumberedStep) (step : NumberedStep) (old head first telling second new : List ℕ) → AreBands ids steps old → head ≡ band_head ids step → IsMadeOfParts telling
    → first ≡ old ++ head → second ≡ first ++ telling → new ≡ second ++ BAND_END.now → AreBands ids (steps ++ step ∷ []) new
pushed_band ids steps step old head first telling second new are is_head made is_first is_second is_new =
    let up_to : second ≡ old ++ (band_head ids step ++ telling) = is_second ∙ (ap (λ (x : List ℕ). x ++ telling) (is_first ∙ ap (λ (x : List ℕ). old ++ x) is_head) ∙ append_assoc old (band_head ids step) telling) in
    one_more ids steps step old telling new are made (is_new ∙ (ap (λ (x : List ℕ). x ++ BAND_END.now) up_to ∙ append_assoc old (band_head ids step ++ telling) BAND_END.now))

-- a framed page is a page of the name that was escaped
framed_page : (table name shown before bands behind page : List ℕ) (steps : List NumberedStep) (serial : Bool) → shown ≡ name → name ≡ escaped table → unescaped (chars name) ≡ Some (chars table) → IsMadeOfParts before → AreBands STEP_IDS.now steps bands → IsMadeOfParts behind → page ≡ page_of shown serial before bands behind → IsPage table steps serial page
framed_page table name shown before bands behind page steps serial same is_name reads before_made are behind_made is_framed =
    let Reads : List ℕ → Type 0 = λ n. unescaped (chars n) ≡ Some (chars table) in
    (before, bands, behind, (subst Reads is_name reads, (before_made, (are, (behind_made, is_framed ∙ ap (λ (n : List ℕ). page_of n serial before bands behind) (same ∙ is_name))))))

-- the same where the page may not have been made
pub if_framed : {E : Type 0} (r : Result (String Global) E) (table name shown before bands behind : List ℕ) (steps : List NumberedStep) (serial : Bool) → shown ≡ name → name ≡ escaped table → unescaped (chars name) ≡ Some (chars table) → OnOk r (IsMadeOfParts before) → AreBands STEP_IDS.now steps bands → OnOk r (IsMadeOfParts behind)
    → IfOk r (λ page. string_bytes page ≡ page_of shown serial before bands behind) → IfOk r (λ page. IsPage table steps serial (string_bytes page))
if_framed (Ok page) table name shown before bands behind steps serial same is_name reads before_made are behind_made is_framed = framed_page table name shown before bands behind (string_bytes page) steps serial same is_name reads before_made are behind_made is_framed
if_framed (Err e) table name shown before bands behind steps serial same is_name reads before_made are behind_made is_framed = tt

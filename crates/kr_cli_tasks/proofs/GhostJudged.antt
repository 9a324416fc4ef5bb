-- Scripts judged one after another.
use Rattle.std.specs.Prelude.{◌≡◌, ◌↔◌, ◌<◌, ◌&&◌, ℕ, zero, suc, Bool, true, false, List, [], ◌∷◌, ◌++◌, Option, IsTrue, All, map, take, length, get_or, refl, string_bytes}
use Rattle.std.proofs.Common.{ap, sym, subst, ◌∙◌, append_assoc, arith, inl, inr}
use Rattle.std.proofs.lemmas.List.Elements.{All-append, All-nil, All-cons}
use Rattle.kr_report.specs.Report.{verdict_text}
use Rattle.kr_cli.specs.declared.endings.Ending.{Ending}
use Rattle.kr_cli.specs.declared.endings.Ending.TheVariants.{NotUnderstood, Memory, Place, Output, Told}
use Rattle.kr_cli.specs.Endings.{MemoryOrTold}
use Rattle.kr_ghost.specs.Protocol.{GhostProtocol}
use Rattle.kr_script.specs.GhostScript.{GhostScript}
use Rattle.kr_ghost_run.specs.Ran.{verdict_of_moves}
use Rattle.kr_cli.specs.GhostScripts.{IsSerialGhosts, NamesGhostScript, NameGhostScripts, TellsNoGhostScript, TellsFirstGhost}
use Rattle.kr_cli_tasks.specs.GhostRuns.{ghost_judge_lines, AreJudged}

-- what each of some and one more has
all_more : {X : Type 0} (P : X → Type 0) (xs : List X) (x : X) → All P (xs ++ x ∷ []) → All P xs × P x
all_more P [] x h = (All-nil P, h 0 x (omega arith))
all_more P (y ∷ xs) x h =
    let rest = all_more P xs x (λ k d low. h (suc k) d (omega (arith, low))) in
    (All-cons P y xs (h 0 y (omega arith)) rest.0, rest.1)

-- what the answers on some and on one more tell together
both_answers : {X : Type 0} (P : X → Type 0) (xs : List X) (x : X) (a b : Bool) → (IsTrue a ↔ All P xs) → (IsTrue b ↔ P x) → IsTrue (a && b) ↔ All P (xs ++ x ∷ [])
both_answers P xs x true b all one =
    (λ t. All-append P xs (x ∷ []) (all.0 refl) (All-cons P x [] (one.0 t) (All-nil P)), λ h. one.1 (all_more P xs x h).1)
both_answers P xs x false b all one = (λ t. absurd (cc), λ h. all.1 (all_more P xs x h).0)

-- Words one after another --

module _ (may_give : List ℕ → Option (List ℕ) → Type 0) (p : GhostProtocol) where
  names_more : (ws : List (List ℕ)) (ss : List GhostScript) (w : List ℕ) (s : GhostScript) → NameGhostScripts may_give ws ss → NamesGhostScript may_give w s → NameGhostScripts may_give (ws ++ w ∷ []) (ss ++ s ∷ [])
  names_more [] [] w s names named = (named, tt)
  names_more [] (t ∷ ss) w s names named = absurd names
  names_more (v ∷ ws) [] w s names named = absurd names
  names_more (v ∷ ws) (t ∷ ss) w s names named = (names.0, names_more ws ss w s names.1 named)

  lines_more : (ws : List (List ℕ)) (ss : List GhostScript) (w : List ℕ) (s : GhostScript) → NameGhostScripts may_give ws ss
      → ghost_judge_lines p ws ss ++ (verdict_text w (verdict_of_moves p s.opening s.moves) ++ 10 ∷ []) ≡ ghost_judge_lines p (ws ++ w ∷ []) (ss ++ s ∷ [])
  lines_more [] [] w s names = refl
  lines_more [] (t ∷ ss) w s names = absurd names
  lines_more (v ∷ ws) [] w s names = absurd names
  lines_more (v ∷ ws) (t ∷ ss) w s names =
      let line = verdict_text v (verdict_of_moves p t.opening t.moves) in
      append_assoc line (10 ∷ ghost_judge_lines p ws ss) _ ∙ ap (λ (ls : List ℕ). line ++ (10 ∷ ls)) (lines_more ws ss w s names.1)

  -- no words have no lines
  pub none_judged : AreJudged may_give p [] [] true
  none_judged = record { scripts = []; names = tt; lines = refl; answer = (λ t. All-nil (IsSerialGhosts p), λ h. refl) }

  -- the words up to one are judged, and that one
  pub judged_more : (before words : List (List ℕ)) (w old new : List ℕ) (a b : Bool) → words ≡ before ++ w ∷ [] → AreJudged may_give p before old a
      → (s : GhostScript) × (NamesGhostScript may_give w s × ((new ≡ old ++ (verdict_text w (verdict_of_moves p s.opening s.moves) ++ 10 ∷ [])) × (IsTrue b ↔ IsSerialGhosts p s)))
      → AreJudged may_give p words new (a && b)
  judged_more before words w old new a b split so_far (s, (named, (line, answer))) =
      let are : AreJudged may_give p (before ++ w ∷ []) new (a && b) = record {
        scripts = so_far.scripts ++ s ∷ [];
        names = names_more before so_far.scripts w s so_far.names named;
        lines = line ∙ ap (λ (ls : List ℕ). ls ++ (verdict_text w (verdict_of_moves p s.opening s.moves) ++ 10 ∷ [])) so_far.lines ∙ lines_more before so_far.scripts w s so_far.names;
        answer = both_answers (IsSerialGhosts p) so_far.scripts s a b so_far.answer answer;
      } in
      subst (λ (ws : List (List ℕ)). AreJudged may_give p ws new (a && b)) (sym split) are

-- the words before one name scripts, and that one names none
first_told : {N : Type 0} (may_give : List ℕ → Option (List ℕ) → Type 0) (f : N → List ℕ) (words : List N) (i : ℕ) (w : N) (ss : List GhostScript) (line : List ℕ) → i < length words
    → NameGhostScripts may_give (map f (take i words)) ss → TellsNoGhostScript may_give (f (get_or words i w)) line → TellsFirstGhost may_give (map f words) line
first_told may_give f [] i w ss line low names tells = absurd (omega (arith, low))
first_told may_give f (v ∷ words) zero w ss line low names tells = inl tells
first_told may_give f (v ∷ words) (suc i) w [] line low names tells = absurd names
first_told may_give f (v ∷ words) (suc i) w (s ∷ ss) line low names tells = inr ((s, names.0), first_told may_give f words i w ss line (omega (arith, low)) names.1 tells)

pub first_none : {N : Type 0} (may_give : List ℕ → Option (List ℕ) → Type 0) (f : N → List ℕ) (words : List N) (i : ℕ) (w : N) (ss : List GhostScript) (e : Ending) → i < length words
    → NameGhostScripts may_give (map f (take i words)) ss → MemoryOrTold e (TellsNoGhostScript may_give (f (get_or words i w))) → MemoryOrTold e (TellsFirstGhost may_give (map f words))
first_none may_give f words i w ss NotUnderstood low names told = absurd told
first_none may_give f words i w ss Memory low names told = tt
first_none may_give f words i w ss Place low names told = absurd told
first_none may_give f words i w ss Output low names told = absurd told
first_none may_give f words i w ss (Told line) low names told = first_told may_give f words i w ss (string_bytes line) low names told

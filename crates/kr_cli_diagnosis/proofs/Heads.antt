-- What is said of a file or a place, with hints behind it.
use Rattle.std.proofs.Common.{ℕ, List, [], ◌∷◌, ◌++◌, ◌≡◌, ◌≤◌, inl, inr, length, refl, sym, ◌∙◌, ap}
use Rattle.std.proofs.lemmas.Grind.{flat_map-append, common_steps}
use Rattle.std.proofs.Common.{arith}
use Rattle.std.proofs.lemmas.List.Concat.{flat_map-cons}
use Rattle.kr_cli_diagnosis.specs.declared.place.Place.{Place}
use Rattle.kr_cli_diagnosis.specs.Lines.{line, lines}
use Rattle.kr_cli_diagnosis.specs.Place.{IsPlace}
use Rattle.kr_cli_diagnosis.specs.Help.{IsHelp, PutsHead, PutsPlace, Quotes, of_file, of_place, quote_of}

-- what stands behind nothing, and lines behind it
behind : (before mid after head hints : List ℕ) → before ≡ [] → mid ≡ before ++ head → after ≡ mid ++ hints → after ≡ head ++ hints
behind before mid after head hints e f g = g ∙ ap (λ (m : List ℕ). m ++ hints) (f ∙ ap (λ (b : List ℕ). b ++ head) e)

-- a head behind nothing, and hints behind it, are help
pub head_and_hints : (word bytes what before mid after : List ℕ) (hints : List (List ℕ)) → before ≡ []
    → PutsHead word bytes what before mid → after ≡ mid ++ lines hints → IsHelp word bytes after
head_and_hints word bytes what before mid after hints e h g =
    elim h [
      | inl f ↦ inr (inl (what, (hints, behind before mid after (line (of_file word what)) (lines hints) e f g ∙ sym (flat_map-cons line (of_file word what) hints))))
      | inr p ↦ inr (inr (what, (p.0, (hints, (p.1.0, behind before mid after (lines p.0) (lines hints) e p.1.1 g ∙ sym (flat_map-append line p.0 hints))))))
    ]

-- three texts behind one, one after another
three : (old a b c l1 l2 new : List ℕ) → l1 ≡ old ++ a → l2 ≡ l1 ++ b → new ≡ l2 ++ c → new ≡ old ++ (a ++ (b ++ (c ++ [])))
three old a b c l1 l2 new e f g = grind (arith, common_steps)

-- a place, its line and a caret
pub placed_lines : (word bytes what old l1 l2 new before after shown_before shown_after caret : List ℕ) (offset : ℕ) (place : Place)
    → offset ≤ length bytes → IsPlace bytes offset place → Quotes bytes offset before after → shown_before ≡ before → shown_after ≡ after
    → l1 ≡ old ++ line (of_place word place what) → l2 ≡ l1 ++ line (quote_of place (shown_before ++ shown_after))
    → new ≡ l2 ++ line caret → PutsPlace word bytes what old new
placed_lines word bytes what old l1 l2 new before after shown_before shown_after caret offset place within is quotes b a e f g =
    let same : shown_before ++ shown_after ≡ before ++ after =
    ap (λ (t : List ℕ). t ++ shown_after) b ∙ ap (λ (t : List ℕ). before ++ t) a in (
      of_place word place what ∷ quote_of place (before ++ after) ∷ caret ∷ [],
      (
        (offset, (within, (place, (is, (before, (after, (quotes, (caret, refl)))))))),
        three old (line (of_place word place what)) (line (quote_of place (before ++ after))) (line caret) l1 l2 new e
            (f ∙ ap (λ (t : List ℕ). l1 ++ line (quote_of place t)) same) g,
      ),
    )

-- The text of a script that was played.
use Rattle.std.proofs.Common.{◌≡◌, ◌∙◌, ℕ, List, [], ◌∷◌, String, Global, ap, string_bytes}
use Rattle.std.specs.Prelude.{Result, Ok, Err, IfOk}
use Rattle.kr_model.specs.declared.Event.{Event}
use Rattle.kr_model.specs.declared.Reply.{Reply}
use Rattle.kr_model.specs.Map.{Map}
use Rattle.kr_kinds.specs.Kinds.{IndexProtocol}
use Rattle.kr_apart.specs.Apart.{replies_under}
use Rattle.kr_suite_text.specs.declared.habits.Habit.{Habit}
use Rattle.kr_suite_text.specs.Habits.{habit_steps, habit_words, opening}
use Rattle.kr_suite_text.specs.Parts.{part_text}
use Rattle.kr_suite_text.specs.Whole.{habit_text}

module _ (p : IndexProtocol) (h : Habit) (o o2 : Map) (tests : List (List ℕ)) (steps : List Event) (replies : List Reply)
    (is_opening : o ≡ opening) (is_opening2 : o2 ≡ opening) (is_tests : tests ≡ habit_words h ∷ []) (is_steps : steps ≡ habit_steps h)
    (is_replies : replies ≡ replies_under p o steps) where
  -- its replies are those of the script
  same_replies : replies ≡ replies_under p opening (habit_steps h)
  same_replies =
      is_replies
      ∙ ap (λ (m : Map). replies_under p m steps) is_opening
      ∙ ap (λ (es : List Event). replies_under p opening es) is_steps

  same_text : part_text o2 tests steps replies ≡ habit_text p h
  same_text =
      ap (λ (m : Map). part_text m tests steps replies) is_opening2
      ∙ ap (λ (ts : List (List ℕ)). part_text opening ts steps replies) is_tests
      ∙ ap (λ (es : List Event). part_text opening (habit_words h ∷ []) es replies) is_steps
      ∙ ap (λ (rs : List Reply). part_text opening (habit_words h ∷ []) (habit_steps h) rs) same_replies

  -- where there is a text it is the script's
  pub played_is : {E : Type 0} (r : Result (String Global) E) → IfOk r (λ text. string_bytes text ≡ part_text o2 tests steps replies) → IfOk r (λ text. string_bytes text ≡ habit_text p h)
  played_is (Ok text) is = is ∙ same_text
  played_is (Err e) is = tt

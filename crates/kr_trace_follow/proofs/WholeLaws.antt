-- Programs of which each answer was given whole.
use Rattle.std.specs.Prelude.{◌≡◌, ℕ, List, [], ◌∷◌, Some, refl}
use Rattle.std.proofs.Common.{sym, ◌∙◌, ap, subst}
use Rattle.kr_model.specs.declared.Reply.{Reply}
use Rattle.kr_model.specs.declared.Reply.TheVariants as reply
use Rattle.kr_model.specs.Map.{Map}
use Rattle.kr_model.specs.Run.{Answered}
use Rattle.kr_model.specs.Serial.{whole, AreAnswered}
use Rattle.kr_model.specs.Difference.{same_reply}
use Rattle.kr_model.proofs.SerialLaws.{reply_of_test, reply_same}
use Rattle.kr_trace_lines.specs.declared.observed.Observed.{Observed}
use Rattle.kr_trace_lines.specs.declared.observed.Observed.TheVariants as observed
use Rattle.kr_trace_lines.specs.Fits.{fits}
use Rattle.kr_trace_follow.specs.Given.{Given, AreAnsweredWhereGiven}
use Rattle.kr_trace_follow.specs.Whole.{IsGivenWhole, AreGivenWhole}

found_fits : (v : ℕ) (w : Reply) → fits w (observed.Found v) ≡ same_reply w (reply.Found v)
found_fits v (reply.Found w) = refl
found_fits v _ = refl

none_fits : (w : Reply) → fits w observed.None ≡ same_reply w reply.None
none_fits reply.None = refl
none_fits _ = refl

going_fits : (k : ℕ) (w : Reply) → fits w (observed.Going k) ≡ same_reply w (reply.Going k)
going_fits k (reply.Going l) = refl
going_fits k _ = refl

rows_fit : (rows : Map) (w : Reply) → fits w (observed.Rows rows) ≡ same_reply w (reply.Rows rows)
rows_fit rows (reply.Rows x) = refl
rows_fit rows _ = refl

done_fits : (w : Reply) → fits w observed.Done ≡ same_reply w reply.Done
done_fits reply.Done = refl
done_fits _ = refl

duplicate_fits : (w : Reply) → fits w observed.Duplicate ≡ same_reply w reply.Duplicate
duplicate_fits reply.Duplicate = refl
duplicate_fits _ = refl

deleted_fits : (v : ℕ) (w : Reply) → fits w (observed.Deleted (Some v)) ≡ same_reply w (reply.Deleted v)
deleted_fits v (reply.Deleted x) = refl
deleted_fits v _ = refl

absent_fits : (w : Reply) → fits w observed.Absent ≡ same_reply w reply.Absent
absent_fits reply.Absent = refl
absent_fits _ = refl

updated_fits : (v : ℕ) (w : Reply) → fits w (observed.Updated (Some v)) ≡ same_reply w (reply.Updated v)
updated_fits v (reply.Updated x) = refl
updated_fits v _ = refl

undone_fits : (n : ℕ) (w : Reply) → fits w (observed.Undone (Some n)) ≡ same_reply w (reply.Undone n)
undone_fits n (reply.Undone x) = refl
undone_fits n _ = refl

committed_fits : (w : Reply) → fits w observed.Committed ≡ same_reply w reply.Committed
committed_fits reply.Committed = refl
committed_fits _ = refl

aborted_fits : (w : Reply) → fits w observed.Aborted ≡ same_reply w reply.Aborted
aborted_fits reply.Aborted = refl
aborted_fits _ = refl

-- What was given whole fits exactly the reply that it is.
whole_fits : (a : Reply) (o : Observed) (w : Reply) → IsGivenWhole a o → fits w o ≡ same_reply w a
whole_fits (reply.Found v) o w h = ap (λ x. fits w x) h ∙ found_fits v w
whole_fits reply.None o w h = ap (λ x. fits w x) h ∙ none_fits w
whole_fits (reply.Going k) o w h = ap (λ x. fits w x) h ∙ going_fits k w
whole_fits (reply.Rows rows) o w h = ap (λ x. fits w x) h ∙ rows_fit rows w
whole_fits reply.Done o w h = ap (λ x. fits w x) h ∙ done_fits w
whole_fits reply.Duplicate o w h = ap (λ x. fits w x) h ∙ duplicate_fits w
whole_fits (reply.Deleted v) o w h = ap (λ x. fits w x) h ∙ deleted_fits v w
whole_fits reply.Absent o w h = ap (λ x. fits w x) h ∙ absent_fits w
whole_fits (reply.Updated v) o w h = ap (λ x. fits w x) h ∙ updated_fits v w
whole_fits (reply.Undone n) o w h = ap (λ x. fits w x) h ∙ undone_fits n w
whole_fits reply.Committed o w h = ap (λ x. fits w x) h ∙ committed_fits w
whole_fits reply.Aborted o w h = ap (λ x. fits w x) h ∙ aborted_fits w
whole_fits (reply.Blocked us) o w h = absurd h
whole_fits (reply.Refused r) o w h = absurd h

pub given_whole : (m : Map) (os : List Answered) (ts : List Given) → AreGivenWhole os ts → AreAnswered m os → AreAnsweredWhereGiven m ts
given_whole m [] [] same h = tt
given_whole m [] (t ∷ ts) same h = absurd same
given_whole m (x ∷ os) [] same h = absurd same
given_whole m ((o, a) ∷ os) ((p, b) ∷ ts) same h = (
  ap (λ q. fits (whole m q).0 b) same.0 ∙ ap (λ w. fits w b) (sym h.0) ∙ whole_fits a b a same.1.0 ∙ reply_same a,
  subst (λ q. AreAnsweredWhereGiven (whole m q).1 ts) (sym same.0) (given_whole (whole m o).1 os ts same.1.1 h.1),
)

pub whole_given : (m : Map) (os : List Answered) (ts : List Given) → AreGivenWhole os ts → AreAnsweredWhereGiven m ts → AreAnswered m os
whole_given m [] [] same h = tt
whole_given m [] (t ∷ ts) same h = absurd same
whole_given m (x ∷ os) [] same h = absurd same
whole_given m ((o, a) ∷ os) ((p, b) ∷ ts) same h = (
  sym (reply_of_test (whole m o).0 a (sym (whole_fits a b (whole m o).0 same.1.0) ∙ ap (λ q. fits (whole m q).0 b) (sym same.0) ∙ h.0)),
  whole_given (whole m o).1 os ts same.1.1 (subst (λ q. AreAnsweredWhereGiven (whole m q).1 ts) same.0 h.1),
)

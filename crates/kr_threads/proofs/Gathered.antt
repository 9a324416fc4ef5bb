-- What is told of the steps that weren't done, put together.
use Rattle.std.proofs.Common.{◌≡◌, List, [], ◌∷◌, ◌++◌, Option, None, Some, refl, ap, sym, ◌∙◌, map, reverse, append_assoc, append-nil, length, ◌==◌, true, All, ℕ, arith}
use Rattle.std.specs.Prelude.{is_some, if◌then◌else◌}
use Rattle.kr_threads.specs.declared.fault.RunFault.{RunFault}
use Rattle.std.proofs.lemmas.Bool.{eqb-true}
use Rattle.std.specs.List.{flat_map}
use Rattle.std.proofs.lemmas.List.{map-append, reverse-append}
use Rattle.std.proofs.lemmas.List.Concat.{flat_map-append}
use Rattle.std.proofs.lemmas.List.Elements.{All-weaker, All-append, All-contains, Contains-append_left, Contains-push}
use Rattle.kr_model.specs.Protocol.{Protocol}
use Rattle.kr_model.specs.Map.{Map}
use Rattle.kr_records.specs.declared.name.Entry.{Entry}
use Rattle.kr_records.specs.declared.notes.SeatNote.{SeatNote}
use Rattle.kr_records.specs.Histories.{events_with_replies}
use Rattle.kr_records.specs.Closed.{Lent, StandsIn}
use Rattle.kr_script.specs.declared.not_done.StepFault.{StepFault}
use Rattle.kr_workers.specs.declared.left_out.LeftOut.{LeftOut}
use Rattle.kr_threads.specs.Told.{IsLeftOut, AreTold, IsToldToOne, Reported, first_failure, left_between}
use Rattle.kr_threads.proofs.Told.{told_more}

-- What is told to one of the shares is told to one of more.
told_to_more : (p : Protocol) (opening : Map) (shares : List Lent) (s : Lent) (l : LeftOut) → IsToldToOne p opening shares l → IsToldToOne p opening (shares ++ s ∷ []) l
told_to_more p opening shares s l t = record { share = t.share; among = Contains-append_left shares (s ∷ []) t.share t.among; told = t.told }

-- What is told to the last is told to one.
told_to_last : (p : Protocol) (opening : Map) (shares : List Lent) (s : Lent) (l : LeftOut) → IsLeftOut p opening (events_with_replies s.view) l → IsToldToOne p opening (shares ++ s ∷ []) l
told_to_last p opening shares s l t = record { share = s; among = Contains-push shares s; told = t }

-- A share more, and what was told to it.
pub all_told_both : (p : Protocol) (opening : Map) (shares : List Lent) (s : Lent) (ls more : List LeftOut) → All (IsToldToOne p opening shares) ls → AreTold p opening s.view more → All (IsToldToOne p opening (shares ++ s ∷ [])) (ls ++ more)
all_told_both p opening shares s ls more h t =
    let to_one = IsToldToOne p opening (shares ++ s ∷ []) in
    let old : All to_one ls = All-weaker (IsToldToOne p opening shares) to_one (told_to_more p opening shares s) ls h in
    let new : All to_one more = All-weaker (IsLeftOut p opening (events_with_replies s.view)) to_one (told_to_last p opening shares s) more t in
    All-append to_one ls more old new

-- What is told to one of the shares that stand in the history is told at the end of a prefix of it.
pub all_told_whole : (p : Protocol) (opening : Map) (seats : List SeatNote) (es : List Entry) (shares : List Lent) (ls : List LeftOut) → All (StandsIn seats es) shares → All (IsToldToOne p opening shares) ls → AreTold p opening es ls
all_told_whole p opening seats es shares ls stand h =
    let told : (l : LeftOut) → IsToldToOne p opening shares l → IsLeftOut p opening (events_with_replies es) l = λ l t. told_more p opening t.share.view es l.last l.next l.fault ((All-contains (StandsIn seats es) shares t.share stand t.among).begins) t.told in
    All-weaker (IsToldToOne p opening shares) (IsLeftOut p opening (events_with_replies es)) told ls h

-- A list whose image is empty is empty.
pub none_mapped : {A B : Type 0} (f : A → B) (xs : List A) → map f xs ≡ [] → xs ≡ []
none_mapped f [] is = refl
none_mapped f (x ∷ xs) is = absurd (cc (is))

-- A list with no length is empty.
pub none_listed : {A : Type 0} (xs : List A) → (length xs == 0) ≡ true → xs ≡ []
none_listed [] is = refl
none_listed (x ∷ xs) is = let none : length (x ∷ xs) ≡ 0 = eqb-true _ _ is in absurd (omega arith)

-- Where none of the first workers gave up, the first that did is among the others.
pub failure_after : (ws rest : List Reported) → first_failure ws ≡ None → first_failure (ws ++ rest) ≡ first_failure rest
failure_after [] rest none = refl
failure_after (w ∷ ws) rest none = by w.failed none (failure_after ws rest)
  where
    by : (o : Option RunFault) → (if is_some o then o else first_failure ws) ≡ None → (first_failure ws ≡ None → first_failure (ws ++ rest) ≡ first_failure rest) → (if is_some o then o else first_failure (ws ++ rest)) ≡ first_failure rest
    by None none more = more none
    by (Some f) is more = absurd (cc (is))

-- The reports, where one more is taken from those that are left.
pub whole_before : (all front left : List Reported) (w : Reported) (rest : List Reported) → all ≡ front ++ left → left ≡ w ∷ rest → all ≡ front ++ w ∷ rest
whole_before all front left w rest whole is = whole ∙ ap (λ l. front ++ l) is

pub whole_after : (all front left : List Reported) (w : Reported) (rest : List Reported) → all ≡ front ++ left → left ≡ w ∷ rest → all ≡ (front ++ w ∷ []) ++ rest
whole_after all front left w rest whole is = whole_before all front left w rest whole is ∙ sym (append_assoc front (w ∷ []) rest)

-- One report more gives one share more, and the steps that its worker left out.
pub shares_of_more : (ws : List Reported) (w : Reported) (was now : List Lent) → was ≡ map (λ v. v.share) ws → now ≡ was ++ w.share ∷ [] → now ≡ map (λ v. v.share) (ws ++ w ∷ [])
shares_of_more ws w was now so_far one = one ∙ ap (λ l. l ++ w.share ∷ []) so_far ∙ sym (map-append (λ v. v.share) ws (w ∷ []))

pub left_out_of_more : (ws : List Reported) (w : Reported) (was now : List LeftOut) → was ≡ flat_map (λ v. v.left_out) ws → now ≡ was ++ w.left_out → now ≡ flat_map (λ v. v.left_out) (ws ++ w ∷ [])
left_out_of_more ws w was now so_far one =
    let left = λ (v : Reported). v.left_out in
    one ∙ ap (λ l. l ++ w.left_out) so_far ∙ sym (flat_map-append left ws (w ∷ []) ∙ ap (λ l. flat_map left ws ++ l) (append-nil w.left_out))

-- One that is settled goes from the end of those that are left to the end of the others.
pub settled_one : (last next : Option ℕ) (old new : List StepFault) (f : StepFault) (was now : List LeftOut) → old ≡ new ++ f ∷ [] → now ≡ was ++ left_between last next f ∷ []
    → now ++ map (left_between last next) (reverse new) ≡ was ++ map (left_between last next) (reverse old)
settled_one last next old new f was now cut pushed =
    let settled = left_between last next in
    ap (λ l. l ++ map settled (reverse new)) pushed ∙ append_assoc was (settled f ∷ []) (map settled (reverse new)) ∙ ap (λ l. was ++ map settled l) (sym (ap reverse cut ∙ reverse-append new (f ∷ [])))

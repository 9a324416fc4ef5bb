-- A trace read so far, and one more line.
use Rattle.std.specs.Prelude.{◌≡◌, ◌≤◌, ℕ, suc, ◌+◌, Bool, true, false, cond, List, [], ◌∷◌, ◌++◌, Option, Some, None, Result, Ok, Err, length, refl}
use Rattle.std.specs.Option.{option_map, option_to_list}
use Rattle.std.proofs.Common.{sym, ◌∙◌, ap, subst, arith, append-nil}
use Rattle.std.proofs.lemmas.List.{length-append}
use Rattle.kr_model.specs.declared.Event.{Event}
use Rattle.kr_model.specs.Map.{Map}
use Rattle.kr_trace_lines.specs.declared.observed.Observed.{Observed}
use Rattle.kr_trace_lines.specs.declared.faults.LineFault.{LineFault}
use Rattle.kr_trace_lines.specs.Lines.{TraceLine, head, step, order}
use Rattle.kr_trace_lines.specs.Parts.{PartLines, after_line, fault_behind}
use Rattle.kr_trace_lines.specs.Reading.{reading_line}
use Rattle.kr_trace_parts.specs.Lines.{is_blank}
use Rattle.kr_trace_parts.specs.Parts.{Led, Part, HaveNoFault, after, after_all, at_start, begun, fault_at, fault_in, led_by, with_order, with_step}
use Rattle.kr_trace_parts.specs.Printed.{AreWritten}
use Rattle.kr_trace_parts.specs.Reading.{HasEnded, IsAsked, IsRead, StandsFor, StillAsks}
use Rattle.kr_trace_parts.proofs.PrintedLaws.{written_more}

-- Lines --

pub after_more : (r : Led) (front : List (List ℕ)) (line : List ℕ) → after_all r (front ++ line ∷ []) ≡ after (after_all r front) line
after_more r [] line = refl
after_more r (l ∷ ls) line = after_more (after r l) ls line

pub faultless_more : (r : Led) (front : List (List ℕ)) (line : List ℕ) → HaveNoFault r front → fault_at (after_all r front) line ≡ None → HaveNoFault r (front ++ line ∷ [])
faultless_more r [] line h is = (is, tt)
faultless_more r (l ∷ ls) line h is = (h.0, faultless_more (after r l) ls line h.1 is)

count_read : (r : Led) (read : Result TraceLine LineFault) → (let s = led_by r read in s.count) ≡ suc r.count
count_read r (Ok l) = refl
count_read r (Err f) = refl

blank_or_read : (r : Led) (line : List ℕ) (blank : Bool) → (let s = cond blank (record { count = suc r.count; ended = r.ended; current = r.current; kept = r.kept }) (led_by r (reading_line line)) in s.count) ≡ suc r.count
blank_or_read r line true = refl
blank_or_read r line false = count_read r (reading_line line)

-- each line is counted
counted_from : (r : Led) (front : List (List ℕ)) → (let s = after_all r front in s.count) ≡ r.count + length front
counted_from r [] = omega arith
counted_from r (l ∷ ls) =
    let here : (let s = after r l in s.count) ≡ suc r.count = blank_or_read r l (is_blank l) in
    let rest : (let s = after_all (after r l) ls in s.count) ≡ (let s = after r l in s.count) + length ls = counted_from (after r l) ls in
    omega (arith, here, rest)

pub counted : (front : List (List ℕ)) → (let s = after_all at_start front in s.count) ≡ length front
counted front = let h = counted_from at_start front in omega (arith, h)

-- A line of blanks.
pub after_blank : (r : Led) (line : List ℕ) → is_blank line ≡ true → after r line ≡ record { count = suc r.count; ended = r.ended; current = r.current; kept = r.kept }
after_blank r line h = ap (λ b. cond b (record { count = suc r.count; ended = r.ended; current = r.current; kept = r.kept }) (led_by r (reading_line line))) h

-- A line that says something.
pub after_read : (r : Led) (line : List ℕ) (l : TraceLine) → is_blank line ≡ false → reading_line line ≡ Ok l → after r line ≡ led_by r (Ok l)
after_read r line l h is = ap (λ b. cond b (record { count = suc r.count; ended = r.ended; current = r.current; kept = r.kept }) (led_by r (reading_line line))) h ∙ ap (led_by r) is

-- A line of blanks has no fault.
pub blank_faultless : (r : Led) (line : List ℕ) → is_blank line ≡ true → fault_at r line ≡ None
blank_faultless r line h = ap (λ b. cond b None (fault_in r.kept (reading_line line))) h

-- A line that may stand behind others has none.
pub read_faultless : (r : Led) (line : List ℕ) (l : TraceLine) → is_blank line ≡ false → reading_line line ≡ Ok l → fault_behind r.kept l ≡ None → fault_at r line ≡ None
read_faultless r line l h is none = ap (λ b. cond b None (fault_in r.kept (reading_line line))) h ∙ ap (fault_in r.kept) is ∙ none

-- What is kept behind one more line.
pub kept_after : (front : List (List ℕ)) (line : List ℕ) (l : TraceLine) (old new : PartLines) → is_blank line ≡ false → reading_line line ≡ Ok l → old ≡ (let r = after_all at_start front in r.kept)
    → new ≡ after_line old l → new ≡ (let r = after_all at_start (front ++ line ∷ []) in r.kept)
kept_after front line l old new h is same next =
    next ∙ ap (λ (p : PartLines). after_line p l) same
    ∙ sym (ap (λ (r : Led). r.kept) (after_more at_start front line ∙ after_read (after_all at_start front) line l h is))

one_at_most : (s : Option Part) → length (option_to_list s) ≤ 1
one_at_most None = omega arith
one_at_most (Some s) = omega arith

-- The part in progress --

module _ {T : Type 0} (stands : T → ℕ → Part → Type 0) (asked : T → ℕ → Part → List ℕ → Bool → Type 0) (P : ℕ → Part → List ℕ → Bool → Type 0) where
  pub none_after : (n : ℕ) (f : Part → Part) (s : Option Part) → StandsFor stands n None s → StandsFor stands n None (option_map f s)
  none_after n f None h = tt
  none_after n f (Some s) h = h

  -- The parts written where the one in progress has ended too.
  pub ended_written : (ss : List Part) (part : Option T) (s : Option Part) (first old new : Option (List ℕ)) (was well : Bool) (k : ℕ)
      → AreWritten P ss first old was → k ≡ length ss → StandsFor stands (k + 1) part s → IsAsked asked P part → HasEnded asked part s (k + 1) old new was well
      → AreWritten P (ss ++ option_to_list s) first new well
  ended_written ss None None first old new was well k h at st ask e =
      subst (λ (z : List Part). AreWritten P z first new well) (sym (append-nil ss)) (subst (λ (w : Bool). AreWritten P ss first new w) (sym e.1) (subst (λ (o : Option (List ℕ)). AreWritten P ss first o was) (sym e.0) h))
  ended_written ss None (Some s) first old new was well k h at st ask e = absurd st
  ended_written ss (Some x) None first old new was well k h at st ask e = absurd st
  ended_written ss (Some x) (Some s) first old new was well k h at st ask e =
      subst (λ (w : Bool). AreWritten P (ss ++ s ∷ []) first new w) (sym e.4)
      (written_more P ss s first old new was e.0 e.1 k h at (ask (k + 1) s e.0 e.1 e.2) e.3)

  still_asked : (part other : Option T) → IsAsked asked P part → StillAsks asked part other → IsAsked asked P other
  still_asked None None h g = tt
  still_asked None (Some y) h g = absurd g
  still_asked (Some x) None h g = tt
  still_asked (Some x) (Some y) h g = λ n s text well a. h n s text well (g n s text well a)

  -- One more line --

  module _ (front : List (List ℕ)) (line : List ℕ) (first : Option (List ℕ)) (faultless : HaveNoFault at_start front) (fault : fault_at (after_all at_start front) line ≡ None) where
    -- One more line, where this is what it leads to.
    pub read_more : (to : Led) → after (after_all at_start front) line ≡ to → (new : Option (List ℕ)) (ended : ℕ) (well : Bool) (kept : PartLines) (part : Option T)
        → AreWritten P to.ended first new well → ended ≡ length to.ended → ended ≤ suc (length front) → StandsFor stands (ended + 1) part to.current → IsAsked asked P part → kept ≡ to.kept
        → IsRead stands asked P (front ++ line ∷ []) first new ended well kept part
    read_more to is new ended well kept part w c f st ask k =
        let led : to ≡ after_all at_start (front ++ line ∷ []) = sym is ∙ sym (after_more at_start front line) in
        record {
          faultless = faultless_more at_start front line faultless fault;
          written = subst (λ (r : Led). AreWritten P r.ended first new well) led w;
          count = subst (λ (r : Led). ended ≡ length r.ended) led c;
          few = subst (λ (n : ℕ). ended ≤ n) (sym (length-append front (line ∷ []) ∙ omega arith)) f;
          in_progress = subst (λ (r : Led). StandsFor stands (ended + 1) part r.current) led st;
          is_asked = ask;
          keeps = subst (λ (r : Led). kept ≡ r.kept) led k;
        }

    -- what is kept after the line
    kept_now : (to : Led) → after (after_all at_start front) line ≡ to → (kept : PartLines) → kept ≡ (let r = after_all at_start (front ++ line ∷ []) in r.kept) → kept ≡ to.kept
    kept_now to is kept k = k ∙ ap (λ (r : Led). r.kept) (after_more at_start front line ∙ is)

    -- A head, which ends the part in progress and begins another.
    pub head_read : (opening : Map) (tests : List (List ℕ)) → is_blank line ≡ false → reading_line line ≡ Ok (head opening tests)
        → (old new : Option (List ℕ)) (ended now : ℕ) (was well : Bool) (kept : PartLines) (part other : Option T)
        → IsRead stands asked P front first old ended was (let r = after_all at_start front in r.kept) part
        → HasEnded asked part (let r = after_all at_start front in r.current) (ended + 1) old new was well
        → now ≡ ended + length (option_to_list (let r = after_all at_start front in r.current))
        → StandsFor stands (now + 1) other (Some (begun opening tests)) → IsAsked asked P other
        → kept ≡ (let r = after_all at_start (front ++ line ∷ []) in r.kept)
        → IsRead stands asked P (front ++ line ∷ []) first new now well kept other
    head_read opening tests blank reads old new ended now was well kept part other h e count st ask k =
        let r : Led = after_all at_start front in
        let is : after r line ≡ led_by r (Ok (head opening tests)) = after_read r line (head opening tests) blank reads in
        let many : length (r.ended ++ option_to_list r.current) ≡ length r.ended + length (option_to_list r.current) = length-append r.ended (option_to_list r.current) in
        let one : length (option_to_list r.current) ≤ 1 = one_at_most r.current in
        let before : ended ≡ length r.ended = h.count in
        let few : ended ≤ length front = h.few in
        read_more (led_by r (Ok (head opening tests))) is new now well kept other
        (ended_written r.ended part r.current first old new was well ended h.written h.count h.in_progress h.is_asked e)
        (omega (arith, many, before, count)) (omega (arith, one, few, count)) st ask (kept_now (led_by r (Ok (head opening tests))) is kept k)

    -- A step of the part in progress.
    pub step_read : (n : ℕ) (e : Event) (o : Observed) → n ≡ suc (length front) → is_blank line ≡ false → reading_line line ≡ Ok (step e o)
        → (now : Option (List ℕ)) (ended : ℕ) (well : Bool) (kept : PartLines) (part other : Option T)
        → IsRead stands asked P front first now ended well (let r = after_all at_start front in r.kept) part
        → ((m : ℕ) (s : Option Part) → StandsFor stands m part s → StandsFor stands m other (option_map (with_step n e o) s)) → StillAsks asked part other
        → kept ≡ (let r = after_all at_start (front ++ line ∷ []) in r.kept)
        → IsRead stands asked P (front ++ line ∷ []) first now ended well kept other
    step_read n e o number blank reads now ended well kept part other h st ask k =
        let r : Led = after_all at_start front in
        let is : after r line ≡ led_by r (Ok (step e o)) = after_read r line (step e o) blank reads in
        let own : n ≡ suc r.count = number ∙ ap suc (sym (counted front)) in
        let few : ended ≤ length front = h.few in
        read_more (led_by r (Ok (step e o))) is now ended well kept other h.written h.count (omega (arith, few))
        (subst (λ (i : ℕ). StandsFor stands (ended + 1) other (option_map (with_step i e o) r.current)) own (st (ended + 1) r.current h.in_progress))
        (still_asked part other h.is_asked ask) (kept_now (led_by r (Ok (step e o))) is kept k)

    -- The order that ends the part in progress.
    pub order_read : (ts : List ℕ) → is_blank line ≡ false → reading_line line ≡ Ok (order ts)
        → (now : Option (List ℕ)) (ended : ℕ) (well : Bool) (kept : PartLines) (part other : Option T)
        → IsRead stands asked P front first now ended well (let r = after_all at_start front in r.kept) part
        → ((m : ℕ) (s : Option Part) → StandsFor stands m part s → StandsFor stands m other (option_map (with_order ts) s)) → StillAsks asked part other
        → kept ≡ (let r = after_all at_start (front ++ line ∷ []) in r.kept)
        → IsRead stands asked P (front ++ line ∷ []) first now ended well kept other
    order_read ts blank reads now ended well kept part other h st ask k =
        let r : Led = after_all at_start front in
        let is : after r line ≡ led_by r (Ok (order ts)) = after_read r line (order ts) blank reads in
        let few : ended ≤ length front = h.few in
        read_more (led_by r (Ok (order ts))) is now ended well kept other h.written h.count (omega (arith, few)) (st (ended + 1) r.current h.in_progress)
        (still_asked part other h.is_asked ask) (kept_now (led_by r (Ok (order ts))) is kept k)

    -- A line of blanks.
    pub blank_read : is_blank line ≡ true → (now : Option (List ℕ)) (ended : ℕ) (well : Bool) (kept : PartLines) (part : Option T)
        → IsRead stands asked P front first now ended well kept part → IsRead stands asked P (front ++ line ∷ []) first now ended well kept part
    blank_read blank now ended well kept part h =
        let r : Led = after_all at_start front in
        let few : ended ≤ length front = h.few in
        read_more (record { count = suc r.count; ended = r.ended; current = r.current; kept = r.kept }) (after_blank r line blank) now ended well kept part
        h.written h.count (omega (arith, few)) h.in_progress h.is_asked h.keeps

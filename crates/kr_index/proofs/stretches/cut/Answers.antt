use Rattle.std.proofs.Common.{ℕ, refl, arith, ◌∙◌, ◌+◌, ◌<◌, ◌≤◌, false, sym, subst, get_or, length}
use Rattle.std.proofs.lemmas.List.{get_or_default}
use Rattle.kr_index.specs.declared.stretches.Stretch.{Stretch}
use Rattle.kr_index.specs.Stretches.{IsIn, IsRising, AreMarked}
use Rattle.kr_index.proofs.StretchLaws.{rising-insert, marked-insert, above_cut, below_cut}
use Rattle.kr_index.proofs.stretches.cut.Goals as goal

pub returns-in_ok-insert-in-None-clause-marked : goal.returns-in_ok-insert-in-None-clause-marked
returns-in_ok-insert-in-None-clause-marked c m marked =
    let ss = c.args.stretches.now.items in
    let s : Stretch = record { from = c.args.key; is_bare = false; slots = 0; present = 0 } in
    let none = subst (λ l. (i : ℕ) (d : Stretch) → i < length l → c.args.key < (get_or l i d).from) c.deref.ensures.value c.in-None.ensures.none in
    subst (λ l. AreMarked l m) (sym c.in_ok-insert-in-None.ensures.items) (marked-insert ss 0 s (omega arith) (λ j d lt. absurd (omega arith)) (λ j d le lt. none j d lt) refl m marked)

-- the stretch that the key is in begins below it
lower : (c : goal.In_ok-insert-in-Some) (d : Stretch) → (get_or c.args.stretches.now.items c.in-Some.place d).from < c.args.key
lower c d =
    let w = subst (λ l. IsIn l c.args.key c.in-Some.place) c.deref.ensures.value c.in-Some.ensures.place in
    let is = c.index.ensures ∙ get_or_default c.args.stretches.now.items c.in-Some.place _ d w.in_range in
    subst (λ (x : Stretch). x.from < c.args.key) is c.if-index-key.true

pub returns-in_ok-insert-in-Some-clause-rising : goal.returns-in_ok-insert-in-Some-clause-rising
returns-in_ok-insert-in-Some-clause-rising c =
    let ss = c.args.stretches.now.items in
    let k = c.args.key in
    let i = c.in-Some.place in
    let s : Stretch = record { from = k; is_bare = false; slots = 0; present = 0 } in
    let w = subst (λ l. IsIn l k i) c.deref.ensures.value c.in-Some.ensures.place in
    let fits : i + 1 ≤ length ss = omega (arith, w.in_range) in
    subst IsRising (sym c.in_ok-insert-in-Some.ensures.items) (rising-insert ss (i + 1) s fits (above_cut ss c.requires k i w (lower c)) (below_cut ss c.requires k i w) c.requires)

pub returns-in_ok-insert-in-Some-clause-marked : goal.returns-in_ok-insert-in-Some-clause-marked
returns-in_ok-insert-in-Some-clause-marked c m marked =
    let ss = c.args.stretches.now.items in
    let k = c.args.key in
    let i = c.in-Some.place in
    let s : Stretch = record { from = k; is_bare = false; slots = 0; present = 0 } in
    let w = subst (λ l. IsIn l k i) c.deref.ensures.value c.in-Some.ensures.place in
    let fits : i + 1 ≤ length ss = omega (arith, w.in_range) in
    subst (λ l. AreMarked l m) (sym c.in_ok-insert-in-Some.ensures.items) (marked-insert ss (i + 1) s fits (above_cut ss c.requires k i w (lower c)) (below_cut ss c.requires k i w) refl m marked)

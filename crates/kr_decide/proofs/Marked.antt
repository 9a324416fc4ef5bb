-- What is marked of the pairs of modes that schedules bring together: each mark is of such a pair, and each such pair is marked.
use Rattle.std.proofs.Common.{ℕ, zero, suc, Bool, true, false, ◌≡◌, ◌<◌, ◌≤◌, ◌+◌, ◌*◌, ◌∙◌, ◌↔◌, ◌⊎◌, inl, inr, List, length, get_or, set, replicate, ap, refl, sym, subst, arith}
use Rattle.std.proofs.lemmas.List.{length-set, length-replicate}
use Rattle.kr_model.specs.declared.Row.{Row}
use Rattle.kr_model.specs.declared.Row.TheVariants as row
use Rattle.kr_model.specs.declared.Side.{Side}
use Rattle.kr_model.specs.declared.Side.TheVariants.{Current, Next}
use Rattle.kr_model.specs.declared.LockState.{LockState}
use Rattle.kr_model.specs.Protocol.{Protocol, IsLawful}
use Rattle.kr_model.specs.Safe.{free, Beside}
use Rattle.kr_decide.specs.declared.pair.Pair.{Pair}
use Rattle.kr_decide.specs.declared.finding.Above.{Above}
use Rattle.kr_decide.specs.declared.finding.Found.{Found}
use Rattle.kr_decide.specs.declared.met.Met.{Met}
use Rattle.kr_decide.specs.Pairs.{pair_at}
use Rattle.kr_decide.specs.Findings.{goes_by_next, above_at, IsAlike, IsGoing}
use Rattle.kr_decide.specs.Met.{marked, Requests, IsTested, IsAsked, IsSound, Adds, IsMarked, MarksAt, MarksPlainly, MarksByNexts, MarksMost, MarksAll, MarksBelow, AreDone}
use Rattle.kr_decide.proofs.Marks.{of_parts, one_mark, mark_kept, mark_new, none_marked}
use Rattle.kr_decide.proofs.Complete.{plainly, same_parts, not_deleted, next_of, listed}

-- The converted mode is one of the protocol, or no lock.
convert_within : (p : Protocol) → IsLawful p → (h q : ℕ) → h ≤ p.count → q ≤ p.count → p.convert h q ≤ p.count
convert_within p laws zero q wh wq = let e = laws.convert-none_held q wq in omega arith
convert_within p laws (suc h) zero wh wq = let e = laws.convert-none_asked (suc h) wh in omega arith
convert_within p laws (suc h) (suc q) wh wq = let c = laws.convert-modes (suc h) (suc q) (record { some = omega arith; in_range = wh }) (record { some = omega arith; in_range = wq }) in c.in_range

-- What is marked grows --

-- At first nothing is.
pub sound_none : (p : Protocol) (met : Met) → met.tested.items ≡ replicate 256 false → met.asked.items ≡ replicate 256 false → IsSound p met
sound_none p met tested asked = record {
  tested_size = ap length tested ∙ length-replicate 256 false;
  asked_size = ap length asked ∙ length-replicate 256 false;
  tested = λ c h e. absurd (none_marked 256 c h (subst (λ (l : List Bool). marked l c h ≡ true) tested e));
  asked = λ h m e. absurd (none_marked 256 h m (subst (λ (l : List Bool). marked l h m ≡ true) asked e));
}

-- A request that may come about is marked.
pub adds_one : (p : Protocol) (met met' : Met) (x y : LockState) (m : ℕ) → IsLawful p → IsSound p met → x.mode ≤ p.count → y.mode ≤ p.count → m ≤ p.count → Requests p x y m
    → met'.tested.items ≡ set met.tested.items (p.convert x.mode m * 16 + y.mode) true → met'.asked.items ≡ set met.asked.items (x.mode * 16 + m) true → Adds p met met'
adds_one p met met' x y m laws sound mx my mm requests tested asked = record {
  sound = record {
    tested_size = ap length tested ∙ length-set met.tested.items (p.convert x.mode m * 16 + y.mode) true ∙ sound.tested_size;
    asked_size = ap length asked ∙ length-set met.asked.items (x.mode * 16 + m) true ∙ sound.asked_size;
    tested = λ c h e. test c h (one_mark met.tested.items (p.convert x.mode m) y.mode c h converted_few (omega (arith, few)) (subst (λ (l : List Bool). marked l c h ≡ true) tested e));
    asked = λ h q e. ask h q (one_mark met.asked.items x.mode m h q (omega (arith, few)) (omega (arith, few)) (subst (λ (l : List Bool). marked l h q ≡ true) asked e));
  };
  tested = λ c h e. subst (λ (l : List Bool). marked l c h ≡ true) (sym tested) (mark_kept met.tested.items (p.convert x.mode m * 16 + y.mode) c h sound.tested_size e);
  asked = λ h q e. subst (λ (l : List Bool). marked l h q ≡ true) (sym asked) (mark_kept met.asked.items (x.mode * 16 + m) h q sound.asked_size e);
}
  where
    few : p.count ≤ 15
    few = laws.few

    converted_few : p.convert x.mode m < 16
    converted_few = omega (arith, few, convert_within p laws x.mode m mx mm)

    test : (c h : ℕ) → (marked met.tested.items c h ≡ true) ⊎ ((p.convert x.mode m ≡ c) × (y.mode ≡ h)) → IsTested p c h
    test c h (inl e) = sound.tested c h e
    test c h (inr e) = record { own = x; other = y; mode = m; requests = requests; converted = e.0; held = e.1 }

    ask : (h q : ℕ) → (marked met.asked.items h q ≡ true) ⊎ ((x.mode ≡ h) × (m ≡ q)) → IsAsked p h q
    ask h q (inl e) = sound.asked h q e
    ask h q (inr e) = record { own = x; other = y; requests = subst (Requests p x y) e.1 requests; held = e.0 }

pub marks_one : (p : Protocol) (met met' : Met) (x y : LockState) (m : ℕ) → IsLawful p → IsSound p met → x.mode ≤ p.count → y.mode ≤ p.count → m ≤ p.count
    → met'.tested.items ≡ set met.tested.items (p.convert x.mode m * 16 + y.mode) true → met'.asked.items ≡ set met.asked.items (x.mode * 16 + m) true → IsMarked p met' x y m
marks_one p met met' x y m laws sound mx my mm tested asked =
    let few = laws.few in
    let within = convert_within p laws x.mode m mx mm in
    record {
      tested = subst (λ (l : List Bool). marked l (p.convert x.mode m) y.mode ≡ true) (sym tested) (mark_new met.tested.items (p.convert x.mode m) y.mode sound.tested_size (omega arith) (omega arith));
      asked = subst (λ (l : List Bool). marked l x.mode m ≡ true) (sym asked) (mark_new met.asked.items x.mode m sound.asked_size (omega arith) (omega arith));
    }

pub adds_none : (p : Protocol) (met : Met) → IsSound p met → Adds p met met
adds_none p met sound = record { sound = sound; tested = λ c h e. e; asked = λ h m e. e }

pub adds_on : (p : Protocol) (a b c : Met) → Adds p a b → Adds p b c → Adds p a c
adds_on p a b c ab bc = record { sound = bc.sound; tested = λ k h e. bc.tested k h (ab.tested k h e); asked = λ h m e. bc.asked h m (ab.asked h m e) }

marked_on : (p : Protocol) (a b : Met) (x y : LockState) (m : ℕ) → Adds p a b → IsMarked p a x y m → IsMarked p b x y m
marked_on p a b x y m g i = record { tested = g.tested (p.convert x.mode m) y.mode i.tested; asked = g.asked x.mode m i.asked }

pub at_on : (p : Protocol) (a b : Met) (r : Row) (s : Side) (x y n : LockState) → Adds p a b → MarksAt p a r s x y n → MarksAt p b r s x y n
at_on p a b r s x y n g i asks beside m span e = marked_on p a b x y m g (i asks beside m span e)

pub nexts_on : (p : Protocol) (a b : Met) (nexts : List Above) (n : ℕ) (r : Row) (x y : LockState) → Adds p a b → MarksByNexts p a nexts n r x y → MarksByNexts p b nexts n r x y
nexts_on p a b nexts n r x y g i j below = at_on p a b r Current x y (above_at nexts j).state g (i j below)

pub plainly_on : (p : Protocol) (a b : Met) (x y : LockState) → Adds p a b → MarksPlainly p a x y → MarksPlainly p b x y
plainly_on p a b x y g i r s e = at_on p a b r s x y free g (i r s e)

most_on : (p : Protocol) (a b : Met) (nexts : List Above) (x y : LockState) → Adds p a b → MarksMost p a nexts x y → MarksMost p b nexts x y
most_on p a b nexts x y g i = record { plain = plainly_on p a b x y g i.plain; deletes = nexts_on p a b nexts (length nexts) row.Delete x y g i.deletes }

all_on : (p : Protocol) (a b : Met) (nexts : List Above) (x y : LockState) → Adds p a b → MarksAll p a nexts x y → MarksAll p b nexts x y
all_on p a b nexts x y g i = record { most = most_on p a b nexts x y g i.most; inserts = nexts_on p a b nexts (length nexts) row.Insert x y g i.inserts }

-- The seven requests that don't go by the next name.
pub plain_marks : (p : Protocol) (met : Met) (x y : LockState) → MarksAt p met row.FetchHit Current x y free → MarksAt p met row.FetchMiss Next x y free → MarksAt p met row.ScanKey Current x y free
    → MarksAt p met row.ScanStop Next x y free → MarksAt p met row.Insert Next x y free → MarksAt p met row.Delete Next x y free → MarksAt p met row.Update Current x y free → MarksPlainly p met x y
plain_marks p met x y a b c d e f g row.FetchHit Current h = a
plain_marks p met x y a b c d e f g row.FetchHit Next h = λ asks. absurd asks
plain_marks p met x y a b c d e f g row.FetchMiss Current h = λ asks. absurd asks
plain_marks p met x y a b c d e f g row.FetchMiss Next h = b
plain_marks p met x y a b c d e f g row.ScanKey Current h = c
plain_marks p met x y a b c d e f g row.ScanKey Next h = λ asks. absurd asks
plain_marks p met x y a b c d e f g row.ScanStop Current h = λ asks. absurd asks
plain_marks p met x y a b c d e f g row.ScanStop Next h = d
plain_marks p met x y a b c d e f g row.Insert Current h = cc
plain_marks p met x y a b c d e f g row.Insert Next h = e
plain_marks p met x y a b c d e f g row.Delete Current h = cc
plain_marks p met x y a b c d e f g row.Delete Next h = f
plain_marks p met x y a b c d e f g row.Update Current h = g
plain_marks p met x y a b c d e f g row.Update Next h = λ asks. absurd asks

below_or_last : (k n : ℕ) → k < n + 1 → (k < n) ⊎ (k ≡ n)
below_or_last k n h = grind arith

-- With one lock state on the next name more, and with one pair more.
pub one_next_more : (p : Protocol) (a b : Met) (nexts : List Above) (n : ℕ) (r : Row) (x y : LockState) → Adds p a b
    → MarksByNexts p a nexts n r x y → MarksAt p b r Current x y (above_at nexts n).state → MarksByNexts p b nexts (n + 1) r x y
one_next_more p a b nexts n r x y g old new j below = split (below_or_last j n below)
  where
    split : (j < n) ⊎ (j ≡ n) → MarksAt p b r Current x y (above_at nexts j).state
    split (inl h) = at_on p a b r Current x y (above_at nexts j).state g (old j h)
    split (inr e) = subst (λ (i : ℕ). MarksAt p b r Current x y (above_at nexts i).state) (sym e) new

pub one_pair_more : (p : Protocol) (a b : Met) (pairs : List Pair) (nexts : List Above) (n : ℕ) → Adds p a b
    → MarksBelow p a pairs nexts n → MarksAll p b nexts (pair_at pairs n).own (pair_at pairs n).other → MarksBelow p b pairs nexts (n + 1)
one_pair_more p a b pairs nexts n g old new k below = split (below_or_last k n below)
  where
    split : (k < n) ⊎ (k ≡ n) → MarksAll p b nexts (pair_at pairs k).own (pair_at pairs k).other
    split (inl h) = all_on p a b nexts (pair_at pairs k).own (pair_at pairs k).other g (old k h)
    split (inr e) = subst (λ (i : ℕ). MarksAll p b nexts (pair_at pairs i).own (pair_at pairs i).other) (sym e) new

-- What goes by the two modes alone --

-- Lock states of the same modes bring the same together.
like : (p : Protocol) (met : Met) (x y x' y' : LockState) (m : ℕ) → x'.mode ≡ x.mode → y'.mode ≡ y.mode → IsMarked p met x y m → IsMarked p met x' y' m
like p met x y x' y' m mx my i = record {
  tested = subst (λ (a : ℕ). marked met.tested.items (p.convert a m) y'.mode ≡ true) (sym mx) (subst (λ (b : ℕ). marked met.tested.items (p.convert x.mode m) b ≡ true) (sym my) i.tested);
  asked = subst (λ (a : ℕ). marked met.asked.items a m ≡ true) (sym mx) i.asked;
}

module _ (p : Protocol) (met : Met) (x y x' y' : LockState) (there : x.deleted ≡ false) (mx : x'.mode ≡ x.mode) (my : y'.mode ≡ y.mode) where
  same_request : (r : Row) (s : Side) → goes_by_next r s ≡ false → MarksAt p met r s x y free → MarksAt p met r s x' y' free
  same_request row.FetchHit Current h i asks beside m span e = like p met x y x' y' m mx my (i there tt m span e)
  same_request row.FetchHit Next h i asks beside m span e = absurd asks
  same_request row.FetchMiss Current h i asks beside m span e = absurd asks
  same_request row.FetchMiss Next h i asks beside m span e = like p met x y x' y' m mx my (i there tt m span e)
  same_request row.ScanKey Current h i asks beside m span e = like p met x y x' y' m mx my (i there tt m span e)
  same_request row.ScanKey Next h i asks beside m span e = absurd asks
  same_request row.ScanStop Current h i asks beside m span e = absurd asks
  same_request row.ScanStop Next h i asks beside m span e = like p met x y x' y' m mx my (i there tt m span e)
  same_request row.Insert Current h i asks beside m span e = cc
  same_request row.Insert Next h i asks beside m span e = like p met x y x' y' m mx my (i there tt m span (ap (λ (a : ℕ). p.ask row.Insert Next a) (sym mx) ∙ e))
  same_request row.Delete Current h i asks beside m span e = cc
  same_request row.Delete Next h i asks beside m span e = like p met x y x' y' m mx my (i there tt m span (ap (λ (a : ℕ). p.ask row.Delete Next a) (sym mx) ∙ e))
  same_request row.Update Current h i asks beside m span e = like p met x y x' y' m mx my (i (there, asks.1) tt m span e)
  same_request row.Update Next h i asks beside m span e = absurd asks

  same_delete : (n : LockState) → MarksAt p met row.Delete Current x y n → MarksAt p met row.Delete Current x' y' n
  same_delete n i asks beside m span e = like p met x y x' y' m mx my (i (there, asks.1) tt m span e)

  most_same : (nexts : List Above) → MarksMost p met nexts x y → MarksMost p met nexts x' y'
  most_same nexts i = record { plain = λ r s h. same_request r s h (i.plain r s h); deletes = λ j h. same_delete (above_at nexts j).state (i.deletes j h) }

-- On a key that it has deleted, a transaction requests none of them.
pub most_gone : (p : Protocol) (met : Met) (nexts : List Above) (x y : LockState) → x.deleted ≡ true → MarksMost p met nexts x y
most_gone p met nexts x y gone = record { plain = plain; deletes = λ j h asks. absurd (let e = asks.0 in cc) }
  where
    plain : MarksPlainly p met x y
    plain row.FetchHit Current h asks = absurd cc
    plain row.FetchHit Next h asks = absurd asks
    plain row.FetchMiss Current h asks = absurd asks
    plain row.FetchMiss Next h asks = absurd cc
    plain row.ScanKey Current h asks = absurd cc
    plain row.ScanKey Next h asks = absurd asks
    plain row.ScanStop Current h asks = absurd asks
    plain row.ScanStop Next h asks = absurd cc
    plain row.Insert Current h asks = absurd cc
    plain row.Insert Next h asks = absurd cc
    plain row.Delete Current h asks = absurd cc
    plain row.Delete Next h asks = absurd cc
    plain row.Update Current h asks = absurd (let e = asks.0 in cc)
    plain row.Update Next h asks = absurd asks

pub done_none : (p : Protocol) (met : Met) (nexts : List Above) (done : List Bool) → done ≡ replicate 256 false → AreDone p met nexts done
done_none p met nexts done none = record {
  size = ap length none ∙ length-replicate 256 false;
  each = λ x y e. absurd (none_marked 256 x.mode y.mode (subst (λ (l : List Bool). marked l x.mode y.mode ≡ true) none e));
}

pub done_on : (p : Protocol) (a b : Met) (nexts : List Above) (done : List Bool) → Adds p a b → AreDone p a nexts done → AreDone p b nexts done
done_on p a b nexts done g d = record { size = d.size; each = λ x y e. most_on p a b nexts x y g (d.each x y e) }

pub done_one : (p : Protocol) (a b : Met) (nexts : List Above) (done done' : List Bool) (x y : LockState) → p.count ≤ 15 → x.mode ≤ p.count → y.mode ≤ p.count → x.deleted ≡ false → Adds p a b → AreDone p a nexts done
    → MarksMost p b nexts x y → done' ≡ set done (x.mode * 16 + y.mode) true → AreDone p b nexts done'
done_one p a b nexts done done' x y few mx my there g d new is = record {
  size = ap length is ∙ length-set done (x.mode * 16 + y.mode) true ∙ d.size;
  each = λ u v e. split u v (one_mark done x.mode y.mode u.mode v.mode (omega arith) (omega arith) (subst (λ (l : List Bool). marked l u.mode v.mode ≡ true) is e));
}
  where
    split : (u v : LockState) → (marked done u.mode v.mode ≡ true) ⊎ ((x.mode ≡ u.mode) × (y.mode ≡ v.mode)) → MarksMost p b nexts u v
    split u v (inl e) = most_on p a b nexts u v g (d.each u v e)
    split u v (inr e) = most_same p b x y u v there (sym e.0) (sym e.1) nexts new

-- What is done was so.
pub most_done : (p : Protocol) (met : Met) (nexts : List Above) (done : List Bool) (x y : LockState) → p.count ≤ 15 → x.mode ≤ p.count → y.mode ≤ p.count → AreDone p met nexts done
    → get_or done (x.mode * 16 + y.mode) false ≡ true → MarksMost p met nexts x y
most_done p met nexts done x y few mx my d e = d.each x y (of_parts done x.mode y.mode (omega arith) (omega arith) e)

-- What comes about is marked --

-- The two requests that go by the next name are the same above a lock state like it.
by_alike : (p : Protocol) (met : Met) (nexts : List Above) (r : Row) (s : Side) (x y n : LockState) (j : ℕ) → goes_by_next r s ≡ true → j < length nexts → IsAlike (above_at nexts j).state n → MarksAll p met nexts x y → MarksAt p met r s x y n
by_alike p met nexts row.Insert Current x y n j e within h all = subst (λ (z : LockState). MarksAt p met row.Insert Current x y z) (same_parts (above_at nexts j).state n h) (all.inserts j within)
by_alike p met nexts row.Delete Current x y n j e within h all = subst (λ (z : LockState). MarksAt p met row.Delete Current x y z) (same_parts (above_at nexts j).state n h) (let most = all.most in most.deletes j within)
by_alike p met nexts row.Insert Next x y n j e within h all = cc
by_alike p met nexts row.Delete Next x y n j e within h all = cc
by_alike p met nexts row.FetchHit s x y n j e within h all = cc
by_alike p met nexts row.FetchMiss s x y n j e within h all = cc
by_alike p met nexts row.ScanKey s x y n j e within h all = cc
by_alike p met nexts row.ScanStop s x y n j e within h all = cc
by_alike p met nexts row.Update s x y n j e within h all = cc

module _ (p : Protocol) (f : Found) (going : IsGoing p f (length f.pairs.items)) (met : Met) (marks : MarksBelow p met f.pairs.items f.nexts.items (length f.pairs.items)) where
  all_marked : (x y : LockState) → Beside p x y → MarksAll p met f.nexts.items x y
  all_marked x y beside =
      let l = listed p f going x y beside in
      subst (λ (z : LockState). MarksAll p met f.nexts.items z y) l.own
      (subst (λ (z : LockState). MarksAll p met f.nexts.items (pair_at f.pairs.items l.place).own z) l.other (marks l.place l.within))

  -- Each request that may come about is marked.
  request_marked : (x y : LockState) (m : ℕ) → Requests p x y m → IsMarked p met x y m
  request_marked x y m q = by_row (goes_by_next q.row q.side) refl
    where
      by_row : (b : Bool) → goes_by_next q.row q.side ≡ b → IsMarked p met x y m
      by_row true e =
          let k = next_of p f going q.next (listed p f going q.next free q.alone) (not_deleted p q.row q.side x q.next e q.asks) in
          by_alike p met f.nexts.items q.row q.side x y q.next k.place e k.within k.alike (all_marked x y q.beside) q.asks q.may_beside m q.span q.asked
      by_row false e =
          let all = all_marked x y q.beside in
          let u = plainly p q.row q.side x y q.next e in
          let most = all.most in
          most.plain q.row q.side e (u.asks q.asks) q.may_beside m q.span (sym u.asked ∙ q.asked)

  pub tested_both : IsSound p met → (c h : ℕ) → marked met.tested.items c h ≡ true ↔ IsTested p c h
  tested_both sound c h = (sound.tested c h, back)
    where
      back : IsTested p c h → marked met.tested.items c h ≡ true
      back t =
          let i = request_marked t.own t.other t.mode t.requests in
          subst (λ (k : ℕ). marked met.tested.items k h ≡ true) t.converted (subst (λ (k : ℕ). marked met.tested.items (p.convert t.own.mode t.mode) k ≡ true) t.held i.tested)

  pub asked_both : IsSound p met → (h m : ℕ) → marked met.asked.items h m ≡ true ↔ IsAsked p h m
  asked_both sound h m = (sound.asked h m, back)
    where
      back : IsAsked p h m → marked met.asked.items h m ≡ true
      back t = let i = request_marked t.own t.other m t.requests in subst (λ (k : ℕ). marked met.asked.items k m ≡ true) t.held i.asked

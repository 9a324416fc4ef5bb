-- What is told of each pair: whether its second lets in what it has to keep out.
use Rattle.std.proofs.Common.{ℕ, Bool, true, false, ◌≡◌, ◌<◌, ◌+◌, ◌∙◌, ◌↔◌, IsTrue, List, [], ◌∷◌, ◌++◌, length, get_or, ap, refl, sym, subst, inl, inr, arith, ◌⊎◌}
use Rattle.std.proofs.Math.ListN.{get_or-append}
use Rattle.std.proofs.Math.Seq.{get_or-append_seam}
use Rattle.kr_model.specs.declared.Cover.{Cover}
use Rattle.kr_model.specs.declared.LockState.{LockState}
use Rattle.kr_model.specs.declared.Row.TheVariants as row
use Rattle.kr_model.specs.declared.Side.TheVariants.{Current, Next}
use Rattle.kr_model.specs.Protocol.{Protocol}
use Rattle.kr_model.specs.Safe.{free}
use Rattle.kr_decide.specs.declared.pair.Pair.{Pair}
use Rattle.kr_decide.specs.declared.opening.Opening.{Opening}
use Rattle.kr_decide.specs.Protects.{protects, only}
use Rattle.kr_decide.specs.Pairs.{pair_at, AreDerived, LetsIn}
use Rattle.kr_decide.specs.Opens.{OpensAt, OpensFor, IsOpening, IsOpenedAt, LetsNoneIn, NoneOpens}
use Rattle.kr_decide.proofs.Complete.{above_alone}

opens_at : (p : Protocol) (pairs : List Pair) (x y : LockState) (o : Opening) → AreDerived p pairs → IsOpening p pairs x y o → OpensAt p x y
opens_at p pairs x y o derived i = record { row = o.row; side = o.side; next = o.above.state; alone = above_alone p pairs o.above derived i.above; lets_in = i.lets_in }

pub opens_some : (p : Protocol) (c : Cover) (pairs : List Pair) (at : ℕ) (x : Pair) (o : Opening) → AreDerived p pairs → pair_at pairs at ≡ x → protects x.other c ≡ true → IsOpening p pairs x.own (only c x.other) o
    → IsTrue true ↔ OpensFor p c (pair_at pairs at).own (pair_at pairs at).other
opens_some p c pairs at x o derived is protected i =
    ((λ _. subst (λ (z : Pair). OpensFor p c z.own z.other) (sym is) (record { protects = protected; opens = opens_at p pairs x.own (only c x.other) o derived i })), (λ _. refl))

pub opens_none : (p : Protocol) (c : Cover) (pairs : List Pair) (at : ℕ) (x : Pair) → pair_at pairs at ≡ x → (OpensFor p c x.own x.other → ⊥) → IsTrue false ↔ OpensFor p c (pair_at pairs at).own (pair_at pairs at).other
opens_none p c pairs at x is none = ((λ t. cc), (λ o. absurd (none (subst (λ (z : Pair). OpensFor p c z.own z.other) is o))))

-- A fact of each place of a list of tests stays one with one more.
pub one_more_test : (P : ℕ → Bool → Type 0) (bs : List Bool) (b : Bool) (n : ℕ) → length bs ≡ n → ((k : ℕ) → k < n → P k (get_or bs k false)) → P n b → (k : ℕ) → k < n + 1 → P k (get_or (bs ++ b ∷ []) k false)
one_more_test P bs b n size old new k below = split (below_or_last (omega arith))
  where
    below_or_last : k < n + 1 → (k < n) ⊎ (k ≡ n)
    below_or_last h = grind arith

    split : (k < n) ⊎ (k ≡ n) → P k (get_or (bs ++ b ∷ []) k false)
    split (inl h) = subst (P k) (sym (get_or-append bs (b ∷ []) false k (omega arith))) (old k h)
    split (inr e) = subst (λ (i : ℕ). P i (get_or (bs ++ b ∷ []) i false)) (size ∙ sym e) (subst (λ (c : Bool). P (length bs) c) (sym (get_or-append_seam bs b [] false)) (subst (λ (i : ℕ). P i b) (sym size) new))

pub opened_at : (p : Protocol) (pairs : List Pair) (at : ℕ) (x : Pair) (o : Opening) → at < length pairs → pair_at pairs at ≡ x → IsOpening p pairs x.own x.other o → IsOpenedAt p pairs at o
opened_at p pairs at x o within is i = record { within = within; opening = subst (λ (z : Pair). IsOpening p pairs z.own z.other o) (sym is) i }

pub none_step : (p : Protocol) (pairs : List Pair) (n : ℕ) (x : Pair) → NoneOpens p pairs n → pair_at pairs n ≡ x → (OpensAt p x.own x.other → ⊥) → NoneOpens p pairs (n + 1)
none_step p pairs n x old is none k below = split (below_or_last (omega arith))
  where
    below_or_last : k < n + 1 → (k < n) ⊎ (k ≡ n)
    below_or_last h = grind arith

    split : (k < n) ⊎ (k ≡ n) → OpensAt p (pair_at pairs k).own (pair_at pairs k).other → ⊥
    split (inl h) = old k h
    split (inr e) = λ o. none (subst (λ (z : Pair). OpensAt p z.own z.other) (ap (pair_at pairs) e ∙ is) o)

-- None of the seven requests that don't go by the next name is let in that has to be kept out.
pub none_in : (p : Protocol) (x y : LockState) → IsTrue false ↔ LetsIn p row.FetchHit Current x y free → IsTrue false ↔ LetsIn p row.FetchMiss Next x y free → IsTrue false ↔ LetsIn p row.ScanKey Current x y free
    → IsTrue false ↔ LetsIn p row.ScanStop Next x y free → IsTrue false ↔ LetsIn p row.Insert Next x y free → IsTrue false ↔ LetsIn p row.Delete Next x y free → IsTrue false ↔ LetsIn p row.Update Current x y free
    → LetsNoneIn p x y
none_in p x y a b c d e f g row.FetchHit Current h l = let no = a.1 l in cc
none_in p x y a b c d e f g row.FetchHit Next h l = absurd l.asks
none_in p x y a b c d e f g row.FetchMiss Current h l = absurd l.asks
none_in p x y a b c d e f g row.FetchMiss Next h l = let no = b.1 l in cc
none_in p x y a b c d e f g row.ScanKey Current h l = let no = c.1 l in cc
none_in p x y a b c d e f g row.ScanKey Next h l = absurd l.asks
none_in p x y a b c d e f g row.ScanStop Current h l = absurd l.asks
none_in p x y a b c d e f g row.ScanStop Next h l = let no = d.1 l in cc
none_in p x y a b c d e f g row.Insert Current h l = cc
none_in p x y a b c d e f g row.Insert Next h l = let no = e.1 l in cc
none_in p x y a b c d e f g row.Delete Current h l = cc
none_in p x y a b c d e f g row.Delete Next h l = let no = f.1 l in cc
none_in p x y a b c d e f g row.Update Current h l = let no = g.1 l in cc
none_in p x y a b c d e f g row.Update Next h l = absurd l.asks

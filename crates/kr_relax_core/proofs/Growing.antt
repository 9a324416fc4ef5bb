-- A list of twins that grows: what is known of it stays.
use Rattle.std.proofs.Common.{ℕ, zero, suc, Bool, true, false, ◌≡◌, ◌≤◌, ◌<◌, ◌+◌, ◌*◌, ◌∙◌, List, [], ◌∷◌, ◌++◌, All, length, get_or, set, replicate, ap, refl, sym, subst, cond, add-zero, inl, inr, arith, ◌⊎◌}
use Rattle.std.specs.Prelude.{Contains}
use Rattle.std.proofs.lemmas.Bool.{cases_eq}
use Rattle.std.proofs.lemmas.List.{get_or-set_same, get_or-set_other, get_or_default, length-set, length-replicate}
use Rattle.std.proofs.lemmas.List.Sums.{sum_by-set}
use Rattle.std.proofs.lemmas.List.Elements.{All-push, Contains-append_left, Contains-push, Contains-push_cases}
use Rattle.std.proofs.lemmas.List.Quantifiers.{all_pairs_push}
use Rattle.std.specs.List.{AllPairs}
use Rattle.std.proofs.Math.ListN.{length-append}
use Rattle.kr_kinds.specs.Kinds.{IndexProtocol, table_of}
use Rattle.kr_relax_core.specs.declared.place.Request.{Request}
use Rattle.kr_relax_core.specs.declared.place.Spot.{Spot}
use Rattle.kr_relax_core.specs.declared.twins.Twin.{Twin}
use Rattle.kr_relax_core.specs.declared.twins.Twins.{Twins}
use Rattle.kr_relax_core.specs.Met.{IsMet, mode_then}
use Rattle.kr_relax_core.specs.Twins.{AreTwins, IsTwin, IsFoundWell, Grows, LeadsTo, LeadsNexts, LeadsOwns, LeadsAll, twin_of, twin_at, left, none, grown}

pub grows_none : (p q : IndexProtocol) (t : Twins) → IsFoundWell p q t → Grows p q t t
grows_none p q t well = record { well = well; kept = λ x h. h; more = omega arith; same = λ e. refl }

-- What has grown twice has grown.
pub grows_on : (p q : IndexProtocol) (a b c : Twins) → Grows p q a b → Grows p q b c → Grows p q a c
grows_on p q a b c ab bc = record {
  well = bc.well;
  kept = λ x h. bc.kept x (ab.kept x h);
  more = let x = ab.more in let y = bc.more in omega arith;
  same = λ e.
      let x = ab.more in
      let y = bc.more in
      let one : length b.twins.items ≡ length a.twins.items = omega arith in
      let two : length c.twins.items ≡ length b.twins.items = omega arith in
      bc.same two ∙ ab.same one;
}

one_longer : (xs : List Twin) (x : Twin) → length (xs ++ x ∷ []) ≡ length xs + 1
one_longer xs x = length-append xs (x ∷ [])

-- One fewer is left.
left_less : (us : List Bool) (n : ℕ) → n < length us → get_or us n true ≡ true → left (set us n false) + 1 ≡ left us
left_less us n within unseen =
    let e : left (set us n false) + cond (get_or us n true) 1 0 ≡ left us + 0 = sum_by-set (λ (b : Bool). cond b 1 0) us n false true within in
    let one : cond (get_or us n true) 1 0 ≡ 1 = ap (λ (b : Bool). cond b 1 0) unseen in
    ap (λ (v : ℕ). left (set us n false) + v) (sym one) ∙ e ∙ add-zero (left us)

-- What has been seen is in the list, with one more that is marked as seen.
seen_more : (xs : List Twin) (us : List Bool) (m n : ℕ) → m ≤ 15 → n ≤ 15
    → ((a b : ℕ) → a ≤ 15 → b ≤ 15 → get_or us (a * 16 + b) true ≡ false → Contains xs (twin_of a b))
    → (a b : ℕ) → a ≤ 15 → b ≤ 15 → get_or (set us (m * 16 + n) false) (a * 16 + b) true ≡ false → Contains (xs ++ twin_of m n ∷ []) (twin_of a b)
seen_more xs us m n rm rn old a b ra rb h = split (cases_eq (a * 16 + b) (m * 16 + n))
  where
    split : (a * 16 + b ≡ m * 16 + n) ⊎ (a * 16 + b ≡ m * 16 + n → ⊥) → Contains (xs ++ twin_of m n ∷ []) (twin_of a b)
    split (inl same) =
        let first : m ≡ a = omega arith in
        let second : n ≡ b = omega arith in
        subst (λ (k : ℕ). Contains (xs ++ twin_of m n ∷ []) (twin_of k b)) first
        (subst (λ (k : ℕ). Contains (xs ++ twin_of m n ∷ []) (twin_of m k)) second (Contains-push xs (twin_of m n)))
    split (inr apart) =
        Contains-append_left xs (twin_of m n ∷ []) (twin_of a b)
        (old a b ra rb (sym (get_or-set_other us (m * 16 + n) (a * 16 + b) false true apart) ∙ h))

-- What hasn't been seen is not in the list, with one more that is marked as seen.
unseen_more : (xs : List Twin) (us : List Bool) (m n : ℕ) → m * 16 + n < length us
    → ((a b : ℕ) → a ≤ 15 → b ≤ 15 → get_or us (a * 16 + b) true ≡ true → Contains xs (twin_of a b) → ⊥)
    → (a b : ℕ) → a ≤ 15 → b ≤ 15 → get_or (set us (m * 16 + n) false) (a * 16 + b) true ≡ true → Contains (xs ++ twin_of m n ∷ []) (twin_of a b) → ⊥
unseen_more xs us m n within old a b ra rb e there = split (cases_eq (a * 16 + b) (m * 16 + n))
  where
    here : (a * 16 + b ≡ m * 16 + n → ⊥) → Contains xs (twin_of a b) ⊎ (twin_of m n ≡ twin_of a b) → ⊥
    here apart (inl f) = old a b ra rb (sym (get_or-set_other us (m * 16 + n) (a * 16 + b) false true apart) ∙ e) f
    here apart (inr f) = apart (sym (ap (λ (x : Twin). x.mode * 16 + x.twin) f))

    split : (a * 16 + b ≡ m * 16 + n) ⊎ (a * 16 + b ≡ m * 16 + n → ⊥) → ⊥
    split (inl same) = let f = sym (subst (λ (k : ℕ). get_or (set us (m * 16 + n) false) k true ≡ true) same e) ∙ get_or-set_same us (m * 16 + n) false true within in absurd (cc)
    split (inr apart) = here apart (Contains-push_cases xs (twin_of m n) (twin_of a b) there)

-- Twins that weren't seen are put behind the others.
pub grown_by : (p q : IndexProtocol) (t t' : Twins) (m n : ℕ) → IsFoundWell p q t → IsTwin p q (twin_of m n) → m ≤ 15 → n ≤ 15
    → get_or t.unseen.items (m * 16 + n) true ≡ true
    → t'.twins.items ≡ t.twins.items ++ twin_of m n ∷ [] → t'.unseen.items ≡ set t.unseen.items (m * 16 + n) false → Grows p q t t'
grown_by p q t t' m n old is rm rn unseen twins unseens =
    let e : length t'.twins.items ≡ length t.twins.items + 1 = ap length twins ∙ one_longer t.twins.items (twin_of m n) in
    let x : Twin = twin_of m n in
    let size = old.size in
    record {
      well = record {
        apart = subst (AllPairs (λ (a : Twin) (b : Twin). a ≡ b → ⊥)) (sym twins)
            (all_pairs_push (λ (a : Twin) (b : Twin). a ≡ b → ⊥) t.twins.items x old.apart
            (λ k d low f. old.unfound m n rm rn unseen (k, low, get_or_default t.twins.items k x d low ∙ f)));
        unfound = λ a b ra rb f there.
            unseen_more t.twins.items t.unseen.items m n (omega arith) old.unfound a b ra rb (subst (λ (l : List Bool). get_or l (a * 16 + b) true ≡ true) unseens f)
            (subst (λ (l : List Twin). Contains l (twin_of a b)) twins there);
        sound = subst (All (IsTwin p q)) (sym twins) (All-push (IsTwin p q) t.twins.items (twin_of m n) old.sound is);
        first = subst (λ (l : List Twin). Contains l (twin_of 0 0)) (sym twins) (Contains-append_left t.twins.items (twin_of m n ∷ []) (twin_of 0 0) old.first);
        size = ap length unseens ∙ length-set t.unseen.items (m * 16 + n) false ∙ old.size;
        seen = λ a b ra rb h.
            subst (λ (l : List Twin). Contains l (twin_of a b)) (sym twins)
            (seen_more t.twins.items t.unseen.items m n rm rn old.seen a b ra rb (subst (λ (l : List Bool). get_or l (a * 16 + b) true ≡ false) unseens h));
        total =
            let size = old.size in
            let total = old.total in
            let l : left t'.unseen.items + 1 ≡ left t.unseen.items = ap (λ (us : List Bool). left us + 1) unseens ∙ left_less t.unseen.items (m * 16 + n) (omega arith) unseen in
            omega arith;
      };
      kept = λ x h. subst (λ (l : List Twin). Contains l x) (sym twins) (Contains-append_left t.twins.items (twin_of m n ∷ []) x h);
      more = omega arith;
      same = λ s. absurd (omega arith);
    }

-- At first nobody has a lock.
pub found_first : (p q : IndexProtocol) (t : Twins) → t.twins.items ≡ twin_of 0 0 ∷ [] → t.unseen.items ≡ set (replicate 256 true) 0 false → IsFoundWell p q t
found_first p q t twins unseens = record {
  apart = subst (AllPairs (λ (a : Twin) (b : Twin). a ≡ b → ⊥)) (sym twins) (all_pairs_push (λ (a : Twin) (b : Twin). a ≡ b → ⊥) [] (twin_of 0 0) (λ i j d before low. absurd (omega arith)) (λ k d low. absurd (omega arith)));
  unfound = λ a b ra rb e there.
      unseen_more [] (replicate 256 true) 0 0 (let n = length-replicate 256 true in omega (arith, n)) (λ i j ri rj f in_none. absurd (let low = in_none.1 in omega (arith, low))) a b ra rb
      (subst (λ (l : List Bool). get_or l (a * 16 + b) true ≡ true) unseens e) (subst (λ (l : List Twin). Contains l (twin_of a b)) twins there);
  sound = subst (All (IsTwin p q)) (sym twins) (All-push (IsTwin p q) [] (twin_of 0 0) (λ k d low. absurd (omega arith)) (record { twins = none; mode = omega arith; twin = omega arith }));
  first = subst (λ (l : List Twin). Contains l (twin_of 0 0)) (sym twins) (Contains-push [] (twin_of 0 0));
  size = ap length unseens ∙ length-set (replicate 256 true) 0 false ∙ length-replicate 256 true;
  seen = λ a b ra rb h.
      subst (λ (l : List Twin). Contains l (twin_of a b)) (sym twins)
      (seen_more [] (replicate 256 true) 0 0 (omega arith) (omega arith) (λ i j ri rj e. absurd (let f = sym e ∙ all_true 256 (i * 16 + j) in cc)) a b ra rb
      (subst (λ (l : List Bool). get_or l (a * 16 + b) true ≡ false) unseens h));
  total = ap (λ (l : List Twin). length l + left t.unseen.items) twins ∙ ap (λ (l : List Bool). 1 + left l) unseens;
}
  where
    all_true : (n k : ℕ) → get_or (replicate n true) k true ≡ true
    all_true zero k = refl
    all_true (suc n) zero = refl
    all_true (suc n) (suc k) = all_true n k

below_or_last : (k n : ℕ) → k < n + 1 → (k < n) ⊎ (k ≡ n)
below_or_last k n h = grind arith

-- With one more of them on the next name,
pub nexts_step : (p q : IndexProtocol) (a b : Twins) (from : List Twin) (n : ℕ) (x : Request) (own : ℕ) → Grows p q a b
    → LeadsNexts p q a.twins.items from n x own → ((twin_at from n).mode ≡ x.next → LeadsTo p q b.twins.items x own (twin_at from n).twin) → LeadsNexts p q b.twins.items from (n + 1) x own
nexts_step p q a b from n x own g old new j below same = split (below_or_last j n below)
  where
    split : (j < n) ⊎ (j ≡ n) → LeadsTo p q b.twins.items x own (twin_at from j).twin
    split (inl h) = g.kept _ (old j h same)
    split (inr e) = subst (λ (i : ℕ). LeadsTo p q b.twins.items x own (twin_at from i).twin) (sym e) (new (subst (λ (i : ℕ). (twin_at from i).mode ≡ x.next) e same))

-- one more on the name,
pub owns_step : (p q : IndexProtocol) (a b : Twins) (from : List Twin) (n : ℕ) (x : Request) → Grows p q a b
    → LeadsOwns p q a.twins.items from n x → ((twin_at from n).mode ≡ x.own → LeadsNexts p q b.twins.items from (length from) x (twin_at from n).twin) → LeadsOwns p q b.twins.items from (n + 1) x
owns_step p q a b from n x g old new j below same = split (below_or_last j n below)
  where
    split : (j < n) ⊎ (j ≡ n) → LeadsNexts p q b.twins.items from (length from) x (twin_at from j).twin
    split (inl h) = λ k low e. g.kept _ (old j h same k low e)
    split (inr e) = subst (λ (i : ℕ). LeadsNexts p q b.twins.items from (length from) x (twin_at from i).twin) (sym e) (new (subst (λ (i : ℕ). (twin_at from i).mode ≡ x.own) e same))

-- and one more request.
pub all_step : (p q : IndexProtocol) (a b : Twins) (from : List Twin) (spots : List Spot) (n : ℕ) → Grows p q a b
    → LeadsAll p q a.twins.items from spots n → ((d : Spot) → (get_or spots n d).held ≡ 0 → LeadsOwns p q b.twins.items from (length from) (get_or spots n d).request) → LeadsAll p q b.twins.items from spots (n + 1)
all_step p q a b from spots n g old new m d below same = split (below_or_last m n below)
  where
    split : (m < n) ⊎ (m ≡ n) → LeadsOwns p q b.twins.items from (length from) (get_or spots m d).request
    split (inl h) = λ i low e j small f. g.kept _ (old m d h same i low e j small f)
    split (inr e) = subst (λ (i : ℕ). LeadsOwns p q b.twins.items from (length from) (get_or spots i d).request) (sym e) (new d (subst (λ (i : ℕ). (get_or spots i d).held ≡ 0) e same))

-- What a request leads to, with twins of its own modes, are twins.
pub twins_then : (p q : IndexProtocol) (x : Request) (own next m t : ℕ) → IsMet p x.place x.own x.next 0 → IsTwin p q (twin_of x.own own) → IsTwin p q (twin_of x.next next)
    → m ≡ mode_then p x.place x.own x.next → t ≡ mode_then q x.place own next → m ≤ (table_of p).count → t ≤ (table_of q).count → (table_of q).count ≡ (table_of p).count → IsTwin p q (twin_of m t)
twins_then p q x own next m t met one two em et rm rt same = record {
  twins =
      subst (λ (k : ℕ). AreTwins p q k t) (sym em)
      (subst (AreTwins p q (mode_then p x.place x.own x.next)) (sym et) (grown x.place x.own x.next own next met one.twins two.twins));
  mode = rm;
  twin = omega arith;
}

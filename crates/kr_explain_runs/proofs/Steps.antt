-- What the steps of a script request in the index of a state.
use Rattle.std.specs.Prelude.{◌≡◌, ℕ, suc, Bool, true, false, [], ◌∷◌, Some, None, refl}
use Rattle.std.proofs.Common.{sym, subst}
use Rattle.kr_model.specs.declared.Name.TheVariants.{Key}
use Rattle.kr_model.specs.declared.Op.{Op}
use Rattle.kr_model.specs.declared.Op.TheVariants as op
use Rattle.kr_model.specs.declared.Row.TheVariants as row
use Rattle.kr_model.specs.Map.{Map}
use Rattle.kr_model.specs.Plan.{Access, access}
use Rattle.kr_explain_runs.specs.Requests.{access_in}
use Rattle.kr_explain_runs.specs.Reached.{AreAlikeAt, standing}

-- the index of a state, by which keys are present
abbrev pub keys : Bool → Bool → Bool → Bool → Map
keys k b p a = standing ((10, k) ∷ (12, b) ∷ (15, p) ∷ (20, a) ∷ (30, true) ∷ [])

-- what a step requests there
abbrev Requests : Op → Access → Bool → Bool → Bool → Bool → Type 0
Requests o x k b p a = access_in (keys k b p a) o ≡ Some x

each_one : (P : Bool → Type 0) → P true → P false → (x : Bool) → P x
each_one P t f true = t
each_one P t f false = f

each_two : (P : Bool → Bool → Type 0) → P true true → P true false → P false true → P false false → (x y : Bool) → P x y
each_two P tt tf ft ff true true = tt
each_two P tt tf ft ff true false = tf
each_two P tt tf ft ff false true = ft
each_two P tt tf ft ff false false = ff

where_is : (P : Bool → Type 0) (x y : Bool) → x ≡ y → P y → P x
where_is P x y e h = subst P (sym e) h

-- of A, where it is present
of_a : (o : Op) (x : Access) → Requests o x true true true true → Requests o x true false true true → Requests o x false true true true → Requests o x false false true true → Requests o x true true false true → Requests o x true false false true → Requests o x false true false true → Requests o x false false false true → (k b p a : Bool) → a ≡ true → Requests o x k b p a
of_a o x c0 c1 c2 c3 c4 c5 c6 c7 k b p a e =
    where_is (Requests o x k b p) a true e (each_one (λ p. Requests o x k b p true) (each_two (λ k b. Requests o x k b true true) c0 c1 c2 c3 k b) (each_two (λ k b. Requests o x k b false true) c4 c5 c6 c7 k b) p)

-- below A, by whether P is present
below : (o : Op) (x : Access) (q : Bool) → Requests o x true true q true → Requests o x true false q true → Requests o x false true q true → Requests o x false false q true → (k b p a : Bool) → p ≡ q → a ≡ true → Requests o x k b p a
below o x q c0 c1 c2 c3 k b p a e f =
    where_is (Requests o x k b p) a true f (where_is (λ p. Requests o x k b p true) p q e (each_two (λ k b. Requests o x k b q true) c0 c1 c2 c3 k b))

abbrev pub hit : Access
hit = access row.FetchHit (Some (Key 20)) None

abbrev pub miss : Access
miss = access row.FetchMiss None (Some (Key 20))

abbrev pub scanned : Access
scanned = access row.ScanKey (Some (Key 20)) None

abbrev pub stopped : Access
stopped = access row.ScanStop None (Some (Key 20))

abbrev pub updated : Access
updated = access row.Update (Some (Key 20)) None

abbrev pub put : Access
put = access row.Insert (Some (Key 12)) (Some (Key 20))

abbrev pub took : ℕ → Access
took k = access row.Delete (Some (Key k)) (Some (Key 20))

abbrev pub came : Access
came = access row.Insert (Some (Key 20)) (Some (Key 30))

pub fetch_a : (k b p a : Bool) → a ≡ true → access_in (keys k b p a) (op.Fetch 20) ≡ Some hit
fetch_a = of_a (op.Fetch 20) hit refl refl refl refl refl refl refl refl

pub scan_a : (k b p a : Bool) → a ≡ true → access_in (keys k b p a) (op.Scan 20 20) ≡ Some scanned
scan_a = of_a (op.Scan 20 20) scanned refl refl refl refl refl refl refl refl

pub update_a : (k b p a : Bool) → a ≡ true → access_in (keys k b p a) (op.Update 20 0) ≡ Some updated
update_a = of_a (op.Update 20 0) updated refl refl refl refl refl refl refl refl

pub fetch_p : (k b p a : Bool) → p ≡ false → a ≡ true → access_in (keys k b p a) (op.Fetch 15) ≡ Some miss
fetch_p = below (op.Fetch 15) miss false refl refl refl refl

pub fetch_c : (k b p a : Bool) → p ≡ true → a ≡ true → access_in (keys k b p a) (op.Fetch 17) ≡ Some miss
fetch_c = below (op.Fetch 17) miss true refl refl refl refl

pub scan_p : (k b p a : Bool) → p ≡ false → a ≡ true → access_in (keys k b p a) (op.Scan 15 20) ≡ Some scanned
scan_p = below (op.Scan 15 20) scanned false refl refl refl refl

pub stop_p : (k b p a : Bool) → p ≡ false → a ≡ true → access_in (keys k b p a) (op.Scan 15 15) ≡ Some stopped
stop_p = below (op.Scan 15 15) stopped false refl refl refl refl

pub stop_c : (k b p a : Bool) → p ≡ true → a ≡ true → access_in (keys k b p a) (op.Scan 17 17) ≡ Some stopped
stop_c = below (op.Scan 17 17) stopped true refl refl refl refl

pub take_p : (k b p a : Bool) → p ≡ true → a ≡ true → access_in (keys k b p a) (op.Delete 15) ≡ Some (took 15)
take_p = below (op.Delete 15) (took 15) true refl refl refl refl

pub put_b : (k b p a : Bool) → b ≡ false → p ≡ false → a ≡ true → access_in (keys k b p a) (op.Insert 12 0) ≡ Some put
put_b k b p a e f g =
    let P : Bool → Bool → Bool → Bool → Type 0 = Requests (op.Insert 12 0) put in
    where_is (P k b p) a true g (where_is (λ p. P k b p true) p false f (where_is (λ b. P k b false true) b false e (each_one (λ k. P k false false true) refl refl k)))

pub take_k : (k b p a : Bool) → k ≡ true → b ≡ false → p ≡ false → a ≡ true → access_in (keys k b p a) (op.Delete 10) ≡ Some (took 10)
take_k k b p a d e f g =
    let P : Bool → Bool → Bool → Bool → Type 0 = Requests (op.Delete 10) (took 10) in
    where_is (P k b p) a true g (where_is (λ p. P k b p true) p false f (where_is (λ b. P k b false true) b false e (where_is (λ k. P k false false true) k true d refl)))

-- A itself, where it is absent
pub put_a : (k b p a : Bool) → a ≡ false → access_in (keys k b p a) (op.Insert 20 0) ≡ Some came
put_a k b p a e =
    let P : Bool → Bool → Bool → Bool → Type 0 = Requests (op.Insert 20 0) came in
    where_is (P k b p) a false e (each_one (λ p. P k b p false) (each_two (λ k b. P k b true false) refl refl refl refl k b) (each_two (λ k b. P k b false false) refl refl refl refl k b) p)

-- Steps in indexes that are alike

pub same_fetch : (m n : Map) (k : ℕ) → AreAlikeAt m n k → access_in m (op.Fetch k) ≡ access_in n (op.Fetch k)
same_fetch m n k a = rw (a.present, a.name) refl

pub same_scan : (m n : Map) (k hi : ℕ) → AreAlikeAt m n k → access_in m (op.Scan k hi) ≡ access_in n (op.Scan k hi)
same_scan m n k hi a = rw (a.name) refl

pub same_update : (m n : Map) (k v : ℕ) → AreAlikeAt m n k → access_in m (op.Update k v) ≡ access_in n (op.Update k v)
same_update m n k v a = rw (a.present, a.name) refl

pub same_insert : (m n : Map) (k v : ℕ) → AreAlikeAt m n k → access_in m (op.Insert k v) ≡ access_in n (op.Insert k v)
same_insert m n k v a = rw (a.present, a.name) refl

pub same_delete : (m n : Map) (k : ℕ) → AreAlikeAt m n k → AreAlikeAt m n (suc k) → access_in m (op.Delete k) ≡ access_in n (op.Delete k)
same_delete m n k a above = rw (a.present, a.name, above.name) refl

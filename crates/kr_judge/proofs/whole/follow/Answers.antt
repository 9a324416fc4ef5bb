use Rattle.std.proofs.Common.{◌≡◌, None, Some, Option, ap, sym, ◌∙◌, subst, refl}
use Rattle.std.specs.Prelude.{ℕ, IsTrue}
use Rattle.kr_model.specs.declared.Op.TheVariants as op
use Rattle.kr_model.specs.declared.Reply.TheVariants as reply
use Rattle.kr_model.specs.Map.{Map, get, set}
use Rattle.kr_model.specs.Serial.{whole, whole_insert, whole_update}
use Rattle.kr_model.specs.Difference.{same_reply}
use Rattle.kr_judge.proofs.Wholes.{deleted_map}
use Rattle.kr_judge.proofs.whole.follow.Goals as goal

-- An insert that is rightly answered Done has put its pair.
done_sets : (m : Map) (k v : ℕ) (g : Option ℕ) → IsTrue (same_reply reply.Done (whole_insert m k v g).0) → (whole_insert m k v g).1 ≡ set m k v
done_sets m k v None h = refl
done_sets m k v (Some w) h = absurd (cc)

-- An update that is rightly answered with a value has put its pair.
updated_sets : (m : Map) (k v w : ℕ) (g : Option ℕ) → IsTrue (same_reply (reply.Updated w) (whole_update m k v g).0) → (whole_update m k v g).1 ≡ set m k v
updated_sets m k v w (Some x) h = refl
updated_sets m k v w None h = absurd (cc)

pub returns-in_ok-put-in-Done-clause-map : goal.returns-in_ok-put-in-Done-clause-map
returns-in_ok-put-in-Done-clause-map c =
    let m = c.args.map.now.entries in
    let k = c.in-Insert.key in
    let v = c.in-Insert.value in
    let told : IsTrue (same_reply c.args.given.now (whole m (op.Insert k v)).0) = subst (λ o. IsTrue (same_reply c.args.given.now (whole m o).0)) c.in-Insert.is c.requires.given in
    let done : IsTrue (same_reply reply.Done (whole_insert m k v (get m k)).0) = subst (λ a. IsTrue (same_reply a (whole m (op.Insert k v)).0)) c.in-Done.is told in
    c.in_ok-put-in-Done.ensures.map ∙ sym (ap (λ o. (whole m o).1) c.in-Insert.is ∙ done_sets m k v (get m k) done)

pub returns-in-Deleted-clause-map : goal.returns-in-Deleted-clause-map
returns-in-Deleted-clause-map c =
    let m = c.args.map.now.entries in
    c.take.ensures.map ∙ sym (ap (λ o. (whole m o).1) c.in-Delete.is ∙ deleted_map m c.in-Delete.key (get m c.in-Delete.key) refl c.requires.is_map)

pub returns-in_ok-put-in-Updated-clause-map : goal.returns-in_ok-put-in-Updated-clause-map
returns-in_ok-put-in-Updated-clause-map c =
    let m = c.args.map.now.entries in
    let k = c.in-Update.key in
    let v = c.in-Update.value in
    let w = c.in-Updated.field-0 in
    let told : IsTrue (same_reply c.args.given.now (whole m (op.Update k v)).0) = subst (λ o. IsTrue (same_reply c.args.given.now (whole m o).0)) c.in-Update.is c.requires.given in
    let updated : IsTrue (same_reply (reply.Updated w) (whole_update m k v (get m k)).0) = subst (λ a. IsTrue (same_reply a (whole m (op.Update k v)).0)) c.in-Updated.is told in
    c.in_ok-put-in-Updated.ensures.map ∙ sym (ap (λ o. (whole m o).1) c.in-Update.is ∙ updated_sets m k v w (get m k) updated)

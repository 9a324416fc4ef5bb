-- The bundled protocols are lawful, and no case of them fails.
use Rattle.std.specs.Prelude.{◌≡◌, [], ◌∷◌, length, map, filter, refl}
use Rattle.kr_model.specs.Protocol.{IsLawful}
use Rattle.kr_model.specs.Covers.{cases, serves, modes, all_covers, IsCovered}
use Rattle.kr_model.specs.Kvl as kvl
use Rattle.kr_model.specs.KvlUpdate.{kvl_update}
use Rattle.kr_model.specs.Im as im
use Rattle.kr_model.specs.RangeKey as range_key
use Rattle.kr_model.specs.ModeNames.{AreModeNames, kvl_names, im_names, range_key_names}
use Rattle.kr_model.proofs.Tested.{lawful_by_test}
use Rattle.kr_model.proofs.NamesTested.{named_by_test}

-- key-value locking keeps the laws
pub kvl_lawful : IsLawful kvl.kvl
kvl_lawful = lawful_by_test kvl.kvl refl

-- key-value locking with updates keeps the laws
pub kvl_update_lawful : IsLawful kvl_update
kvl_update_lawful = lawful_by_test kvl_update refl

-- index-specific locking keeps the laws
pub im_lawful : IsLawful im.im
im_lawful = lawful_by_test im.im refl

-- range-key locking keeps the laws
pub range_key_lawful : IsLawful range_key.range_key
range_key_lawful = lawful_by_test range_key.range_key refl

-- each mode of key-value locking has a name of its own
pub kvl_named : AreModeNames kvl_names 5
kvl_named = named_by_test kvl_names 5 refl

-- each mode of index-specific locking has a name of its own
pub im_named : AreModeNames im_names 2
im_named = named_by_test im_names 2 refl

-- each mode of range-key locking has a name of its own
pub range_key_named : AreModeNames range_key_names 11
range_key_named = named_by_test range_key_names 11 refl

-- check kvl: 244 cases, and none fails
pub kvl_cases : length (cases kvl.kvl) ≡ 244
kvl_cases = refl

-- key-value locking is covered
pub kvl_covered : IsCovered kvl.kvl
kvl_covered = refl

-- check kvl-update: 275 cases, and none fails
pub kvl_update_cases : length (cases kvl_update) ≡ 275
kvl_update_cases = refl

-- key-value locking with updates is covered
pub kvl_update_covered : IsCovered kvl_update
kvl_update_covered = refl

-- check im: 61 cases, and none fails
pub im_cases : length (cases im.im) ≡ 61
im_cases = refl

-- index-specific locking is covered
pub im_covered : IsCovered im.im
im_covered = refl

-- check range-key: 988 cases, and none fails
pub range_key_cases : length (cases range_key.range_key) ≡ 988
range_key_cases = refl

-- range-key locking is covered
pub range_key_covered : IsCovered range_key.range_key
range_key_covered = refl

-- which modes of key-value locking serve a read key, a read gap, an inserted key and a deleted gap
pub kvl_serves : map (λ c. filter (serves kvl.kvl c) (modes kvl.kvl)) (all_covers kvl.kvl)
    ≡ (kvl.IS ∷ kvl.IX ∷ kvl.S ∷ kvl.SIX ∷ kvl.X ∷ []) ∷ (kvl.S ∷ kvl.SIX ∷ kvl.X ∷ []) ∷ (kvl.IX ∷ kvl.SIX ∷ kvl.X ∷ []) ∷ (kvl.SIX ∷ kvl.X ∷ []) ∷ []
kvl_serves = refl

-- the same of key-value locking with updates, and last the modes that serve an updated key
pub kvl_update_serves : map (λ c. filter (serves kvl_update c) (modes kvl_update)) (all_covers kvl_update)
    ≡ (kvl.IS ∷ kvl.IX ∷ kvl.S ∷ kvl.SIX ∷ kvl.X ∷ []) ∷ (kvl.S ∷ kvl.SIX ∷ kvl.X ∷ []) ∷ (kvl.IX ∷ kvl.SIX ∷ kvl.X ∷ []) ∷ (kvl.SIX ∷ kvl.X ∷ []) ∷ (kvl.IX ∷ kvl.SIX ∷ kvl.X ∷ []) ∷ []
kvl_update_serves = refl

-- the same of index-specific locking
pub im_serves : map (λ c. filter (serves im.im c) (modes im.im)) (all_covers im.im) ≡ (im.S ∷ im.X ∷ []) ∷ (im.S ∷ im.X ∷ []) ∷ (im.X ∷ []) ∷ (im.X ∷ []) ∷ []
im_serves = refl

-- the same of range-key locking: all modes; S-N, S-S, S-X, X-N, X-S, X-X; I-X, X-X; X-N, X-S, X-X
pub range_key_serves : map (λ c. filter (serves range_key.range_key c) (modes range_key.range_key)) (all_covers range_key.range_key)
    ≡ (1 ∷ 2 ∷ 3 ∷ 4 ∷ 5 ∷ 6 ∷ 7 ∷ 8 ∷ 9 ∷ 10 ∷ 11 ∷ []) ∷ (3 ∷ 4 ∷ 5 ∷ 9 ∷ 10 ∷ 11 ∷ []) ∷ (8 ∷ 11 ∷ []) ∷ (9 ∷ 10 ∷ 11 ∷ []) ∷ []
range_key_serves = refl

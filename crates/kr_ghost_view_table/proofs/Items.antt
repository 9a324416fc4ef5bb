-- The item of a case, by what its parts are.
use Rattle.std.specs.Prelude.{◌≡◌, ℕ, List, ◌++◌, refl}

pub item : (a rule r b cover c d origin o e mode m f requester q g : List ℕ) → rule ≡ r → cover ≡ c → origin ≡ o → mode ≡ m → requester ≡ q
    → a ++ (rule ++ (b ++ (cover ++ (d ++ (origin ++ (e ++ (mode ++ (f ++ (requester ++ g))))))))) ≡ a ++ (r ++ (b ++ (c ++ (d ++ (o ++ (e ++ (m ++ (f ++ (q ++ g)))))))))
item a rule r b cover c d origin o e mode m f requester q g is_rule is_cover is_origin is_mode is_requester = rw (is_rule, is_cover, is_origin, is_mode, is_requester) refl

-- Four texts, one behind the other.
use Rattle.std.proofs.Common.{◌≡◌, ◌++◌, ℕ, List}

-- the same, of texts that are the same
pub four : {a b c d e f g h text : List ℕ} → a ≡ e → b ≡ f → c ≡ g → d ≡ h → text ≡ a ++ (b ++ (c ++ d)) → text ≡ e ++ (f ++ (g ++ h))
four p q r s t = cc

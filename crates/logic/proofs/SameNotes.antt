-- Accounts as sets: the same notes.
use Rattle.std.proofs.Common.{◌≡◌, ℕ, sym, refl, ◌∙◌, subst}
use Rattle.logic.specs.Accounts.{Account, ◌≋◌}
use Rattle.logic.specs.Trees.{Has, ◌∪◌}
use Rattle.logic.proofs.TreeSets.{match_members, match_refl, match_sym, match_trans, match_∪}

-- notes agree when their values are equal
abbrev Eq : ℕ → ℕ → Type 0
Eq n k = n ≡ k

-- having the same notes is an equivalence
pub ≋_refl : (x : Account) → x ≋ x
≋_refl x = match_refl Eq (λ n. refl) x

pub ≋_sym : (x y : Account) → x ≋ y → y ≋ x
≋_sym x y e = match_sym Eq Eq (λ n k p. sym p) x y e

pub ≋_trans : (x y z : Account) → x ≋ y → y ≋ z → x ≋ z
≋_trans x y z e f = match_trans Eq Eq Eq (λ a b c p q. p ∙ q) x y z e f

-- unions keep it
pub ≋-∪ : (x y z w : Account) → x ≋ z → y ≋ w → x ∪ y ≋ z ∪ w
≋-∪ x y z w e f = match_∪ Eq x y z w e f

-- equal accounts have the same notes
pub ≋_eq : {x y : Account} → x ≡ y → x ≋ y
≋_eq {x} e = subst (λ (z : Account). x ≋ z) e (≋_refl x)

-- accounts with the same notes are the same
pub ≋_members : (x y : Account) → ((s v n : ℕ) (inner : Account) → Has x s v n inner → Has y s v n inner)
    → ((s v n : ℕ) (inner : Account) → Has y s v n inner → Has x s v n inner) → x ≋ y
≋_members x y to from =
    match_members Eq x y (λ s v n inner h. (n, inner, to s v n inner h, refl, ≋_refl inner))
    (λ s v n inner h. (n, inner, from s v n inner h, refl, ≋_refl inner))

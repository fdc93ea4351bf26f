-- Tests as facts, and facts as tests.
use Rattle.std.proofs.Common.{◌≡◌, Bool, true, false, ◌&&◌, ◌||◌, T, ◌⊎◌, ◌↔◌, sym, refl, subst, inl, inr}

-- a test that is true holds
pub holds : {b : Bool} → b ≡ true → T b
holds e = subst T (sym e) tt

-- a test that holds is true
pub is_true : (b : Bool) → T b → b ≡ true
is_true true h = refl
is_true false h = absurd h

-- equal tests hold together
pub alike : {x y : Bool} → x ≡ y → T x ↔ T y
alike e = (subst T e, subst T (sym e))

-- tests that hold together are equal
pub equal : (x y : Bool) → T x ↔ T y → x ≡ y
equal true true e = refl
equal true false e = absurd (e.0 tt)
equal false true e = absurd (e.1 tt)
equal false false e = refl

-- two tests hold together where both hold
pub both : (x y : Bool) → T (x && y) ↔ (T x × T y)
both true y = (λ h. (tt, h), λ h. h.1)
both false y = (λ h. absurd h, λ h. h.0)

-- one of two tests holds where either does
pub either : (x y : Bool) → T (x || y) ↔ (T x ⊎ T y)
either true y = (λ h. inl tt, λ h. tt)
either false y = (λ h. inr h, λ h. elim h [ inl z ↦ absurd z | inr t ↦ t ])

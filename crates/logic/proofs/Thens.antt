-- Outcomes: where a working out goes on, each of its parts came to something.
use Rattle.std.proofs.Common.{◌≡◌, ℕ, Ok, Err, sym, refl, arith}
use Rattle.logic.specs.Outcomes.{Outcome, then}
use Rattle.logic.specs.declared.shortage.Shortage.{Shortage}

-- equal outcomes came to equal things
pub ok_inj : {A : Type 0} {a b : A} → ◌≡◌ {A = Outcome A} (Ok a) (Ok b) → a ≡ b
ok_inj e = cc

-- what came to something was not stopped
pub err_ok : {A : Type 0} {e : Shortage} {a : A} → ◌≡◌ {A = Outcome A} (Err e) (Ok a) → ⊥
err_ok e = let z : ◌≡◌ {A = ℕ} 0 1 = cc in omega arith

-- where the second part came to something, the first did
pub then_parts : {A B : Type 0} (o : Outcome A) (next : A → Outcome B) {b : B} → then o next ≡ Ok b
    → (a : A) × (o ≡ Ok a) × (next a ≡ Ok b)
then_parts (Ok a) next e = (a, refl, e)
then_parts (Err x) next e = absurd (err_ok e)

-- where the second part only puts together what the first came to, so does the whole
pub then_made : {A B : Type 0} (o : Outcome A) (make : A → B) {b : B} → Ok b ≡ then o (λ a. Ok (make a))
    → (a : A) × (o ≡ Ok a) × (b ≡ make a)
then_made o make e = let a = then_parts o (λ a. Ok (make a)) (sym e) in (a.0, a.1, sym (ok_inj a.2))

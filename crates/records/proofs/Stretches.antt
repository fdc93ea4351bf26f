-- Laws of the stretches of a text: its records and fields, byte by byte.
use Rattle.std.proofs.Common.{◌≡◌, ℕ, ◌<◌, Bool, true, false, cond, ◌&&◌, eqb, List, [], ◌∷◌, ◌++◌, length, get_or, sym, refl, ap, append_assoc, arith}
use Rattle.records.specs.Texts.{ahead, records}

-- bytes ahead of a byte
pub ahead_push : (p : List ℕ) (b : ℕ) (s : List (List ℕ)) → ahead p (ahead (b ∷ []) s) ≡ ahead (p ++ b ∷ []) s
ahead_push p b [] = refl
ahead_push p b (x ∷ xs) = ap (λ y. y ∷ xs) (sym (append_assoc p (b ∷ []) x))

-- no bytes ahead of a stretch
pub ahead_none : (s : List (List ℕ)) → 0 < length s → ahead [] s ≡ s
ahead_none [] h = absurd (omega arith)
ahead_none (x ∷ xs) h = refl

ahead_some : (p : List ℕ) (s : List (List ℕ)) → 0 < length (ahead p s)
ahead_some p [] = omega arith
ahead_some p (x ∷ xs) = omega arith

cond_some : (t : Bool) (p q : List (List ℕ)) → 0 < length p → 0 < length q → 0 < length (cond t p q)
cond_some true p q h k = h
cond_some false p q h k = k

-- a text of some bytes has a record
pub records_some : (b : ℕ) (rest : List ℕ) → 0 < length (records (b ∷ rest))
unfolding records
records_some b [] = omega arith
records_some b (c ∷ rest) =
    let on = ahead_some (b ∷ []) (records (c ∷ rest)) in
    cond_some (eqb b 13 && eqb c 10) ([] ∷ records rest) _ (omega arith) on

-- a byte that does not begin a CRLF belongs to the record
pub records_on : (b : ℕ) (rest : List ℕ) → (eqb b 13 && eqb (get_or rest 0 0) 10) ≡ false
    → records (b ∷ rest) ≡ ahead (b ∷ []) (records rest)
unfolding records
records_on b [] h = refl
records_on b (c ∷ rest) h = rw h

-- a CRLF ends the record
pub records_crlf : (rest : List ℕ) → records (13 ∷ 10 ∷ rest) ≡ [] ∷ records rest
unfolding records
records_crlf rest = refl

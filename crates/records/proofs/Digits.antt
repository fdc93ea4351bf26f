-- Laws of numbers in a text, digit by digit.
use Rattle.std.proofs.Common.{◌≡◌, ℕ, ◌+◌, ◌-◌, ◌*◌, ◌<◌, ◌≤◌, true, false, cond, List, [], ◌∷◌, length, get_or, drop, Some, None, ap, ◌∙◌, arith}
use Rattle.std.proofs.lemmas.List.{at_drop_more, at_drop_all}
use Rattle.std.proofs.lemmas.Bool.{le-leb}
use Rattle.std.proofs.lemmas.Grind.{common_steps}
use Rattle.std.proofs.lemmas.Str.{digit_value_digit}
use Rattle.std.proofs.lemmas.Str.Parse.{digit_from_value}
use Rattle.std.specs.Char.{digit_value}
use Rattle.records.specs.Numbers.{digit, largest, said, value}

-- a byte whose value to base ten is less than ten is a digit
digit_yes : (b : ℕ) → digit_value b < 10 → digit b ≡ true
digit_yes b h = grind (arith, common_steps, digit_from_value)

-- and no other is
digit_no : (b : ℕ) → (digit_value b < 10 → ⊥) → digit b ≡ false
digit_no b h = grind (arith, common_steps, digit_value_digit)

said-digit : (n b : ℕ) (rest : List ℕ) → digit b ≡ true → said n (b ∷ rest) ≡ said (n * 10 + (b - 48)) rest
said-digit n b rest h = rw h

said_other : (n b : ℕ) (rest : List ℕ) → digit b ≡ false → said n (b ∷ rest) ≡ None
said_other n b rest h = rw h

value_ge : (n : ℕ) (text : List ℕ) → n ≤ value n text
value_ge n [] = omega arith
value_ge n (b ∷ rest) = let more = value_ge (n * 10 + (b - 48)) rest in omega arith

-- what is too large stays too large
pub said_large : (n : ℕ) (text : List ℕ) → largest < n → said n text ≡ None
said_large n text h = let more = value_ge n text in grind (arith, common_steps)

module _ (text : List ℕ) (i n : ℕ) where
  -- a digit more
  pub said_more : (d : ℕ) → i < length text → digit_value (get_or text i 0) < 10 → d ≡ digit_value (get_or text i 0)
      → said n (drop i text) ≡ said (n * 10 + d) (drop (i + 1) text)
  said_more d h small e =
      let b = get_or text i 0 in
      let v : b - 48 ≡ d = let r = digit_value_digit b (digit_from_value b small) in omega arith in
      at_drop_more (said n) text i 0 h ∙ said-digit n b (drop (i + 1) text) (digit_yes b small)
      ∙ ap (λ k. said (n * 10 + k) (drop (i + 1) text)) v

  -- a digit more, and that is too large
  pub said_over : (d : ℕ) → i < length text → digit_value (get_or text i 0) < 10 → d ≡ digit_value (get_or text i 0)
      → largest < n * 10 + d → said n (drop i text) ≡ None
  said_over d h small e over = said_more d h small e ∙ said_large (n * 10 + d) (drop (i + 1) text) over

  -- a byte that is no digit
  pub said_bad : i < length text → (digit_value (get_or text i 0) < 10 → ⊥) → said n (drop i text) ≡ None
  said_bad h large =
      let b = get_or text i 0 in
      at_drop_more (said n) text i 0 h ∙ said_other n b (drop (i + 1) text) (digit_no b large)

  -- no byte is left
  pub said_all : length text ≤ i → n ≤ largest → said n (drop i text) ≡ Some n
  said_all end h = at_drop_all (said n) text i end ∙ ap (λ t. cond t (Some n) None) (le-leb n largest h)

pub ruleset said_laws = (said_more, said_over, said_bad, said_all)

-- What the records of one phase leave behind.
use Rattle.std.specs.Prelude.{◌≡◌, ℕ, ◌+◌, ◌≤◌, List, length, Option}
use Rattle.drawing.specs.Following.{Standing, checks, final, later, refused}
use Rattle.drawing.specs.Refused.{told}
use Rattle.drawing.specs.declared.tally.Tally.{Tally}
use Rattle.pages.specs.Limit.{limit}
use Rattle.pages.specs.Pages.{add}
use Rattle.records.specs.Texts.{records}

-- where a case stood, how many records had been read, the bytes that were left and the page, all before and after
module _ (s : Standing) (n : ℕ) (left : List ℕ) (page : Option (List ℕ)) where
  pub record Followed (s' : Standing) (n' : ℕ) (left' : List ℕ) (page' : Option (List ℕ)) (tally : Tally) : Type 0 where
    pub leaves : s' ≡ final s (records left)
    -- the records after the one that closes are left, and all others were counted
    pub others : records left' ≡ later s (records left)
    pub counted : n' + length (later s (records left)) ≡ n + length (records left)
    pub small : n' + length left' ≤ limit
    -- each refused one is told
    pub printed : page' ≡ add page (told (refused s n (records left)))
    pub refusals : tally.refused ≡ length (refused s n (records left))
    pub asked : tally.checks ≡ checks s (records left)
    -- no more than the records read
    pub few : tally.refused + tally.checks ≤ n'

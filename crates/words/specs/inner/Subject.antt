-- What a refusal's place tells, by document 01's table "Refusal numbers" and document 02: the numbers by the kind of
-- their place. A later request adds its number to one list.
--   kind_of n         what the place of refusal n tells: nothing, if n is in no list (1, 2, 4, 5, 27, and what is no
--                    refusal's number)
--   printable b      a byte that shows as one ASCII character, the space among them
--   text a b c d     four such bytes, as most types are
use Rattle.std.specs.Prelude.{ℕ, List, [], ◌∷◌, Bool, false, ◌&&◌, ltb}
use Rattle.fields.specs.Choice.{pick}
use Rattle.fields.specs.Lists.{member}
use Rattle.words.specs.declared.PlaceKind.{PlaceKind}
use Rattle.words.specs.declared.PlaceKind.TheVariants.{Nothing, Box, Item, Asked}

-- the place is "box", "the offset in the head of the innermost box concerned"; of 7 "container if missing, else second
-- box"
abbrev pub box_numbers : List ℕ
box_numbers = 3 ∷ 6 ∷ 7 ∷ 8 ∷ 9 ∷ 10 ∷ 11 ∷ []

-- the place is "item ID"; of 12 "its ID", that of the primary item; of 29 "the item ID", of 30 "its ID" (document 02)
abbrev pub item_numbers : List ℕ
item_numbers = 12 ∷ 13 ∷ 14 ∷ 15 ∷ 16 ∷ 17 ∷ 18 ∷ 19 ∷ 20 ∷ 29 ∷ 30 ∷ []

-- the place is "asked ID"; of 26, 28 and 31 "the asked item's ID where one is asked, else 0" (document 02)
abbrev pub asked_numbers : List ℕ
asked_numbers = 21 ∷ 22 ∷ 23 ∷ 24 ∷ 25 ∷ 26 ∷ 28 ∷ 31 ∷ []

unfoldable pub kind_of : ℕ → PlaceKind
kind_of n =
    pick (member n box_numbers) Box
    (pick (member n item_numbers) Item (pick (member n asked_numbers) Asked Nothing))

unfoldable pub printable : ℕ → Bool
printable b = pick (ltb b 32) false (ltb b 127)

unfoldable pub text : ℕ → ℕ → ℕ → ℕ → Bool
text a b c d = printable a && (printable b && (printable c && printable d))

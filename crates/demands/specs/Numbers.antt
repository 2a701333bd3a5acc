-- By which numbers each stage and each question may be refused: document 01, "Refusal numbers" and "Order of reading",
-- and document 02. A later request writes its number into one of these lists.
--   Among list n      n is one of the list
--   file_numbers       what any question may be refused by before it looks at what is asked
use Rattle.std.specs.Prelude.{ℕ, ◌≡◌, List, [], ◌∷◌, ◌++◌, true}
use Rattle.fields.specs.Lists.{member}

abbrev pub Among : List ℕ → ℕ → Type 0
Among list n = member n list ≡ true

-- "1, then 2. Top-level boxes from offset 0 .. then the contents of `hdlr`, `pitm`, `iinf`, `iloc`, `iprp`, `iref`,
-- fields in byte order, first fault given."
abbrev pub reading_numbers : List ℕ
reading_numbers = 2 ∷ 3 ∷ 4 ∷ 5 ∷ 6 ∷ 7 ∷ 8 ∷ 9 ∷ 10 ∷ 11 ∷ []

-- "Then 12. Then for each item in table order 13 before 14; then for each image item 15 before 16; then 17 for each
-- item; 18 and then 19, first such item in table order; then 20, by rising depth and table order within a depth."
-- Document 02: "29, checked for each image item between 15 and 16"; "30, .. between 13 and 14 for the item"
abbrev pub judging_numbers : List ℕ
judging_numbers = 12 ∷ 13 ∷ 30 ∷ 14 ∷ 15 ∷ 29 ∷ 16 ∷ 17 ∷ 18 ∷ 19 ∷ 20 ∷ []

-- 1: "table under 11,280 words"; then reading, then judging
abbrev pub file_numbers : List ℕ
file_numbers = 1 ∷ (reading_numbers ++ judging_numbers)

-- 21: "asked item not listed"; 22: "asked item opaque (size, trace, sources)"
abbrev pub size_numbers : List ℕ
size_numbers = file_numbers ++ (21 ∷ 22 ∷ [])

-- 23: "pixel outside output size"
abbrev pub trace_numbers : List ℕ
trace_numbers = file_numbers ++ (21 ∷ 22 ∷ 23 ∷ [])

-- document 02: "Refusals 1 to 22 and a list over 512 (28, after 22)"; 23 stands in a record, and refuses no call
abbrev pub points_numbers : List ℕ
points_numbers = file_numbers ++ (21 ∷ 22 ∷ 28 ∷ [])

-- 24: "list shorter than the sources"
abbrev pub sources_numbers : List ℕ
sources_numbers = file_numbers ++ (21 ∷ 22 ∷ 24 ∷ [])

-- 25: "property number 0 or over the item's count"
abbrev pub property_numbers : List ℕ
property_numbers = file_numbers ++ (21 ∷ 25 ∷ [])

-- document 02: "26, the item has a `clap`, after 22"
abbrev pub orientation_numbers : List ℕ
orientation_numbers = file_numbers ++ (21 ∷ 22 ∷ 26 ∷ [])

-- document 02: "31, body buffer under 16,402 bytes, in that question only, between 1 and 2"; "22 in the new question for opaque items"
abbrev pub body_numbers : List ℕ
body_numbers = 1 ∷ 31 ∷ ((reading_numbers ++ judging_numbers) ++ (21 ∷ 22 ∷ []))

-- document 02: "27, orientation not 1 to 8, the only check in that call"
abbrev pub transforms_numbers : List ℕ
transforms_numbers = 27 ∷ []

-- The words of the questions.
--   same s t       whether two words have the same bytes
--   word_of s       which question a word asks; Unknown where it is none of them;   later_word_of    the words that came with document 02
--   numbers_of w    how many numbers follow: an item's ID, then x and y of a pixel, of two for a seam, or the number of a
--                  property; an orientation
--   may_be_alone w   whether none may follow: without an item, `orientation` is asked of the primary one
use Rattle.std.specs.Prelude.{ℕ, List, [], ◌∷◌, Bool, true, false, ◌&&◌, eqb}
use Rattle.fields.specs.Choice.{pick}
use Rattle.arguments.specs.declared.Word.{Word}
use Rattle.arguments.specs.declared.Word.TheVariants.{Verdict, Why, Size, Trace, Sources, Property, Crop, Orientation, Transforms, Points, Body, Unknown}

unfoldable pub same : List ℕ → List ℕ → Bool
same [] [] = true
same [] (y ∷ t) = false
same (x ∷ s) [] = false
same (x ∷ s) (y ∷ t) = eqb x y && same s t

-- in ASCII
abbrev pub verdict : List ℕ
verdict = 118 ∷ 101 ∷ 114 ∷ 100 ∷ 105 ∷ 99 ∷ 116 ∷ []

abbrev pub why : List ℕ
why = 119 ∷ 104 ∷ 121 ∷ []

abbrev pub size : List ℕ
size = 115 ∷ 105 ∷ 122 ∷ 101 ∷ []

abbrev pub trace : List ℕ
trace = 116 ∷ 114 ∷ 97 ∷ 99 ∷ 101 ∷ []

abbrev pub sources : List ℕ
sources = 115 ∷ 111 ∷ 117 ∷ 114 ∷ 99 ∷ 101 ∷ 115 ∷ []

abbrev pub property : List ℕ
property = 112 ∷ 114 ∷ 111 ∷ 112 ∷ 101 ∷ 114 ∷ 116 ∷ 121 ∷ []

abbrev pub crop : List ℕ
crop = 99 ∷ 114 ∷ 111 ∷ 112 ∷ []

abbrev pub orientation : List ℕ
orientation = 111 ∷ 114 ∷ 105 ∷ 101 ∷ 110 ∷ 116 ∷ 97 ∷ 116 ∷ 105 ∷ 111 ∷ 110 ∷ []

abbrev pub transforms : List ℕ
transforms = 116 ∷ 114 ∷ 97 ∷ 110 ∷ 115 ∷ 102 ∷ 111 ∷ 114 ∷ 109 ∷ 115 ∷ []

abbrev pub points : List ℕ
points = 112 ∷ 111 ∷ 105 ∷ 110 ∷ 116 ∷ 115 ∷ []

abbrev pub body : List ℕ
body = 98 ∷ 111 ∷ 100 ∷ 121 ∷ []

unfoldable pub later_word_of : List ℕ → Word
later_word_of s =
    pick (same s crop) Crop
    (pick (same s orientation) Orientation
    (pick (same s transforms) Transforms
    (pick (same s points) Points
    (pick (same s body) Body Unknown))))

unfoldable pub word_of : List ℕ → Word
word_of s =
    pick (same s verdict) Verdict
    (pick (same s why) Why
    (pick (same s size) Size
    (pick (same s trace) Trace
    (pick (same s sources) Sources
    (pick (same s property) Property (later_word_of s))))))

abbrev pub numbers_of : Word → ℕ
numbers_of Verdict = 0
numbers_of Why = 0
numbers_of Size = 1
numbers_of Trace = 3
numbers_of Sources = 1
numbers_of Property = 2
numbers_of Crop = 1
numbers_of Orientation = 1
numbers_of Transforms = 1
numbers_of Points = 5
numbers_of Body = 1
numbers_of Unknown = 0

abbrev pub may_be_alone : Word → Bool
may_be_alone Verdict = true
may_be_alone Why = true
may_be_alone Size = false
may_be_alone Trace = false
may_be_alone Sources = false
may_be_alone Property = false
may_be_alone Crop = false
may_be_alone Orientation = true
may_be_alone Transforms = false
may_be_alone Points = false
may_be_alone Body = false
may_be_alone Unknown = true

-- The code's values for inputs, bodies and derivations.
--   Resolved t rows f    for each target of the table, in its order, the row that it names
--   Followed t rows head total f    what is known when a body is read;   RunsFor    and when 17 is asked
--   is_joined l, Readable ..    a body that is not one part of the file's own bytes, and that it can be read all the same
--   HasBody, FrontIs, grid_in, OverlayIs    what the code says of a body, of its first bytes, of a grid's and an overlay's
--   body_or m             a body, nothing where there is none
--   derivation_for ..     the recipe of a derived item by its number of inputs and its body, whatever its inputs are:
-- what rule 17 asks behind the test of these
--   told_derivation m     a derivation's recipe without an overlay's offsets, which stay in the body
use Rattle.std.specs.Prelude.{ℕ, ◌+◌, ◌≤◌, ◌<◌, ◌≡◌, List, [], Bool, true, false, ◌&&◌, not, length, get_or, eqb, Option, Some, None}
use Rattle.fields.specs.Choice.{pick}
use Rattle.boxes.specs.Answer.{Answer, ok, refuse, ◌>>=◌}
use Rattle.boxes.specs.Types.{iden, grid}
use Rattle.contents.specs.Iinf.{Item}
use Rattle.contents.specs.Iloc.{Location}
use Rattle.contents.specs.Iref.{targets_in}
use Rattle.contents.specs.File.{File, read_file}
use Rattle.forms.specs.Form.{whole}
use Rattle.pictures.specs.Recipe.{Recipe, Coded, Copy, Opaque, Tiles, Layers, Grid, grid_form, iovl_form}
use Rattle.pictures.specs.inner.Told.{told_overlay}
use Rattle.pictures.specs.declared.Overlay as overlays
use Rattle.rules.specs.Joined.{location_of, row_of}
use Rattle.rules.specs.Places.{places_in}
use Rattle.rules.specs.Bytes.{body_of}
use Rattle.records.specs.inner.Named.{NamedIn}
use Rattle.views.specs.inner.View.{TableOf, AllPlaced}
use Rattle.linking.specs.inner.Links as Links
use Rattle.joining.specs.inner.Lies.{RunsAre}
use Rattle.derived.specs.declared.Front.{Front}
use Rattle.rules.specs.Derivations.{copy_of, tiles_of, layers_of}
use Rattle.derived.specs.declared.Derivation.{Derivation}
use Rattle.derived.specs.declared.Derivation.TheVariants as made

abbrev pub Resolved : List ℕ → List ℕ → File → Type 0
Resolved t rows f = (k : ℕ) → k < targets_in f.derivations → get_or rows k 0 ≡ row_of (get_or t (7184 + k) 0) f.items

-- the table t and rows are those of a file f whose items keep 13, 30 and 14: links can be followed
pub record Followed (t rows head : List ℕ) (total : ℕ) (f : File) : Type 0 where
  pub small : total < 18446744073709551616
  pub read : read_file total head ≡ ok f
  pub view : TableOf t head (places_in total head) f
  pub placed : AllPlaced total head f
  pub many : 2816 ≤ length rows
  pub named : NamedIn f rows

-- where an item is made of others, runs has for each extent how far the item lies in a head of `size` bytes from there on
abbrev pub RunsFor : List ℕ → List ℕ → ℕ → File → List ℕ → Type 0
RunsFor t rows size f runs = (r : ℕ) → r < length f.items → Links.made_of_items t r ≡ true → RunsAre t rows size (length f.items) runs

-- not one extent of method 0 or 1
abbrev pub is_joined : Location → Bool
is_joined l = not (eqb (length l.extents) 1 && not (eqb l.method 2))

-- what is joined is known to lie in the head; what is not is read as a part of it
abbrev pub Readable : ℕ → List ℕ → File → ℕ → Type 0
Readable total head f id = is_joined (location_of f id) ≡ true → (b : List ℕ) × (body_of total head f id ≡ ok b)

abbrev pub HasBody : ℕ → List ℕ → File → ℕ → Bool → Type 0
HasBody total head f id true = Readable total head f id
HasBody total head f id false = (n : ℕ) × (p : ℕ) × (body_of total head f id ≡ refuse n p)

abbrev pub FrontIs : List ℕ → Front → Type 0
FrontIs b r = (r.size ≡ length b) × ((i : ℕ) → i < 18 → get_or r.bytes i 0 ≡ get_or b i 0)

-- what a grid's body says
abbrev pub grid_in : Answer (List ℕ) → Answer Grid
grid_in m = m >>= (λ b. whole grid_form 0 b)

-- what an overlay's body says, its offsets aside
abbrev pub OverlayIs : Answer (List ℕ) → ℕ → Option overlays.Overlay → Type 0
OverlayIs (ok b) n r = r ≡ told_overlay b (whole (iovl_form n) 0 b)
OverlayIs (refuse k p) n r = r ≡ None

unfoldable pub body_or : Answer (List ℕ) → List ℕ
body_or (ok b) = b
body_or (refuse n p) = []

abbrev pub derivation_for : ℕ → List ℕ → File → Item → Answer Recipe
derivation_for total head f item = pick (eqb item.type iden) (copy_of total head f item)
    (pick (eqb item.type grid) (tiles_of total head f item) (layers_of total head f item))

-- no derivation gives a coded or an opaque item
unfoldable pub told_derivation : Answer Recipe → Option Derivation
told_derivation (ok Coded) = None
told_derivation (ok Copy) = Some made.Copy
told_derivation (ok Opaque) = None
told_derivation (ok (Tiles g)) = Some (made.Tiles g.rows g.columns g.wide g.high)
told_derivation (ok (Layers o)) = Some (made.Layers o.wide o.high)
told_derivation (refuse n p) = None

-- What the code keeps of a row in a byte, and what it answers.
--   link_byte t v k r     that of row r, where levels below k are known: the level, 9 for one that is not known; 16 more where the row
--                        names one past 2^64 and its level is known; 32 more where it is past itself
--   link_named l x        the byte of the row x, that of an unknown level where there is none
--   Linked t v k n l     the bytes of n rows
--   LinksAre t v n l     the same, with all levels up to 8 known, where the table is one that was read
--   Settled, Swept       one row, and n rows, are given the level k where it is theirs
--   SumIs s m            what a sum of lengths m is told as: none where it is past 64 bits
use Rattle.std.specs.Prelude.{ℕ, ◌+◌, ◌*◌, ◌%◌, ◌≤◌, ◌<◌, ◌≡◌, List, Bool, false, ◌⊎◌, Option, Some, None, get_or, ltb, leb}
use Rattle.fields.specs.Choice.{pick}
use Rattle.linking.specs.inner.Links.{named_row, level, is_past, names_past, LinksIn}

unfoldable pub SumIs : Option ℕ → ℕ → Type 0
SumIs (Some s) m = (s ≡ m) × (m < 18446744073709551616)
SumIs None m = 18446744073709551616 ≤ m

abbrev pub one : Bool → ℕ
one b = pick b 1 0

unfoldable pub link_byte : List ℕ → List ℕ → ℕ → ℕ → ℕ
link_byte t v k r = pick (ltb (level t v r) k) (level t v r + 16 * one (names_past 8 t v r)) 9 + 32 * one (is_past t r)

abbrev pub link_named : List ℕ → ℕ → ℕ
link_named l x = pick (ltb x 256) (get_or l x 0) 9

-- whether an extent names a row of a level below k; whether it names one that is past 2^64, or names one that is
abbrev pub names_below : List ℕ → List ℕ → ℕ → ℕ → Bool
names_below v l k e = ltb (link_named l (named_row v e) % 16) k

abbrev pub names_marked : List ℕ → List ℕ → ℕ → Bool
names_marked v l e = leb 16 (link_named l (named_row v e))

abbrev pub Linked : List ℕ → List ℕ → ℕ → ℕ → List ℕ → Type 0
Linked t v k n l = (r : ℕ) → r < n → get_or l r 0 ≡ link_byte t v k r

abbrev pub LinksAre : List ℕ → List ℕ → ℕ → List ℕ → Type 0
LinksAre t v n l = LinksIn t v n → Linked t v 9 n l

-- rows named may have been given the level k already: that is no level below k
pub record Settled (t v : List ℕ) (r k : ℕ) (old new : List ℕ) (grew : Bool) : Type 0 where
  pub other : (x : ℕ) → (x ≡ r → ⊥) → get_or new x 0 ≡ get_or old x 0
  pub quiet : grew ≡ false → new ≡ old
  pub here : (n : ℕ) → LinksIn t v n → r < n →
      ((x : ℕ) → x < n → (get_or old x 0 ≡ link_byte t v k x) ⊎ (get_or old x 0 ≡ link_byte t v (k + 1) x)) →
      get_or old r 0 ≡ link_byte t v k r → get_or new r 0 ≡ link_byte t v (k + 1) r

pub record Swept (t v : List ℕ) (n k : ℕ) (old new : List ℕ) (grew : Bool) : Type 0 where
  pub quiet : grew ≡ false → new ≡ old
  pub done : LinksIn t v n → Linked t v k n old → Linked t v (k + 1) n new

-- The first fault among the boxes of a container, said without reading. The boxes before it are whole, and each has given
-- its step; then a box breaks its step, or is none.
--   BadBox s                             what stands at the front of s is no box that ends within s
--   Arrives R z at s bs t q r            s, which begins at `at`, is the boxes bs, each a step of R, from z to t, and then r,
--                                        which begins at q
--   BoxBreaks R B z at s bs n q          behind the boxes bs a box breaks its step by n, as B says, or is a bad one; it begins at q
--   ContainBreaks .. p at z s n q        the boxes of a container at p, to the end of its content s, are broken by n at q
--   ExactlyBreaks .. p at count z s n q  the same where the container has exactly `count` boxes
use Rattle.std.specs.Prelude.{ℕ, ◌+◌, ◌≤◌, ◌<◌, ◌≡◌, List, ◌++◌, length}
use Rattle.fields.specs.Lists.{All}
use Rattle.boxes.specs.Box.{head_of, size_of, IsBox, flat}
use Rattle.boxes.specs.Children.{Through}

-- 3: "box size bad, or box outside its container"
pub data BadBox (s : List ℕ) : Type 0 where
  bad-size : size_of s < head_of s → BadBox s
  past_end : length s < size_of s → BadBox s

-- "first by offset": what comes before a fault is good
pub record Arrives {S : Type 0} (R : S → List ℕ → S → Type 0) (z : S) (at : ℕ) (s : List ℕ) (bs : List (List ℕ)) (t : S) (q : ℕ)
    (r : List ℕ) : Type 0 where
  pub all : All IsBox bs
  pub joined : flat bs ++ r ≡ s
  pub through : Through R z bs t
  pub where_it_is : q ≡ at + length (flat bs)

-- R z b t: the box b is the step from z to t;   B z b n: it breaks the step from z by n, at itself
pub data BoxBreaks {S : Type 0} (R : S → List ℕ → S → Type 0) (B : S → List ℕ → ℕ → Type 0) (z : S) (at : ℕ) (s : List ℕ)
    (bs : List (List ℕ)) (n q : ℕ) : Type 0 where
  step_breaks : (t : S) (b behind : List ℕ) → Arrives R z at s bs t q (b ++ behind) → IsBox b → B t b n →
      BoxBreaks R B z at s bs n q
  -- 3 at that box, of which there are 8 bytes and more
  no_box : (t : S) (r : List ℕ) → Arrives R z at s bs t q r → 8 ≤ length r → BadBox r → n ≡ 3 → BoxBreaks R B z at s bs n q

pub data ContainBreaks {S : Type 0} (R : S → List ℕ → S → Type 0) (B : S → List ℕ → ℕ → Type 0) (p at : ℕ) (z : S) (s : List ℕ)
    (n q : ℕ) : Type 0 where
  at-box : (bs : List (List ℕ)) → BoxBreaks R B z at s bs n q → ContainBreaks R B p at z s n q
  -- "One to seven spare bytes in `meta`, `iprp`, `ipco` or `iref`: 3 at that box, after its children"
  spare_bytes : (bs : List (List ℕ)) (t : S) (e : ℕ) (r : List ℕ) → Arrives R z at s bs t e r → 1 ≤ length r → length r ≤ 7 → n ≡ 3 →
      q ≡ p → ContainBreaks R B p at z s n q

-- "then exactly that many `infe`, else 8 at `iinf`"; "One to seven spare bytes .. in `iinf`: 8"
pub data ExactlyBreaks {S : Type 0} (R : S → List ℕ → S → Type 0) (B : S → List ℕ → ℕ → Type 0) (p at count : ℕ) (z : S)
    (s : List ℕ) (n q : ℕ) : Type 0 where
  at_one : (bs : List (List ℕ)) → length bs < count → BoxBreaks R B z at s bs n q → ExactlyBreaks R B p at count z s n q
  too_few : (bs : List (List ℕ)) (t : S) (e : ℕ) (r : List ℕ) → Arrives R z at s bs t e r → length bs < count → length r ≤ 7 →
      n ≡ 8 → q ≡ p → ExactlyBreaks R B p at count z s n q
  left_behind : (bs : List (List ℕ)) (t : S) (e : ℕ) (r : List ℕ) → Arrives R z at s bs t e r → length bs ≡ count → 1 ≤ length r →
      n ≡ 8 → q ≡ p → ExactlyBreaks R B p at count z s n q

-- Q-2: "Rewrite the working of a `clap` edge as the steps a reader would take: common denominator, twice the edge, test
-- for whole, halve." What the code's steps find, each a sentence; `steps_edge` (proofs/EdgeLaws) shows that together
-- they are the edge of specs/Clap, which is the one to believe.
--   width_of W n d          before them: the width n / d, if it is a whole number of at most the side W
--   common m od            common denominator: the numerator of m pixels over the offset's denominator od
--   twice_edge k o          twice the edge: what the crop leaves of the side (k) and twice the offset, a numerator over od; none below 0
--   whole k od             test for whole: the edge, half of k over od, has no part of a pixel
--   halve k od             halve: the edge
--   stepped W c o od       the steps in order for a width c, and behind them whether the crop ends within the side
use Rattle.std.specs.Prelude.{ℕ, ◌+◌, ◌-◌, ◌*◌, ◌/◌, ◌%◌, Bool, ◌&&◌, ◌==◌, nat_le, nat_lt}
use Rattle.fields.specs.Choice.{pick}
use Rattle.pictures.specs.Signed.{Signed, plus, minus}
use Rattle.pictures.specs.Clap.{Edge, edge, none}

-- a step's number, or that the step fails
pub data Step : Type 0 where
  gives : ℕ → Step
  fails : Step

-- "denominators not 0", "Width c .. must be whole"; a width over the side leaves no room for it
unfoldable pub width_of : ℕ → ℕ → ℕ → Step
width_of W n d = pick (nat_lt 0 d && (n % d == 0 && nat_le (n / d) W)) (gives (n / d)) fails

unfoldable pub common : ℕ → ℕ → ℕ
common m od = m * od

unfoldable pub twice_edge : ℕ → Signed → Step
twice_edge k (plus m) = gives (k + 2 * m)
twice_edge k (minus m) = pick (nat_le (2 * m) k) (gives (k - 2 * m)) fails

unfoldable pub whole : ℕ → ℕ → Bool
whole k od = k % (2 * od) == 0

unfoldable pub halve : ℕ → ℕ → ℕ
halve k od = k / (2 * od)

-- the last two steps
unfoldable pub halved_by : ℕ → ℕ → ℕ → Step → Edge
halved_by W c od (gives k) = pick (whole k od && nat_le (halve k od + c) W) (edge (halve k od) c) none
halved_by W c od fails = none

unfoldable pub stepped : ℕ → ℕ → Signed → ℕ → Edge
stepped W c o od = halved_by W c od (twice_edge (common (W - c) od) o)

unfoldable pub stepped_by : ℕ → Signed → ℕ → Step → Edge
stepped_by W o od (gives c) = stepped W c o od
stepped_by W o od fails = none

unfoldable pub edge_by_steps : ℕ → ℕ → ℕ → Signed → ℕ → Edge
edge_by_steps W n d o od = pick (nat_lt 0 od) (stepped_by W o od (width_of W n d)) none

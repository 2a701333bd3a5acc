-- Numbers as people write them: decimal digits, the first one the most significant.
--   digit_of b      the digit that a byte of ASCII shows; 10 where it shows none
--   digits s n     whether the first n bytes of s all show a digit
--   value s n      the number that the digits of the first n bytes of s spell
--   number_of s     the number that s spells; None where s is empty, a byte shows no digit, or 32 bits do not hold it
use Rattle.std.specs.Prelude.{ℕ, zero, suc, ◌+◌, ◌*◌, ◌-◌, List, Bool, true, ◌&&◌, Option, Some, None, length, get_or, eqb, ltb}
use Rattle.fields.specs.Choice.{pick}

unfoldable pub digit_of : ℕ → ℕ
digit_of b = pick (ltb b 48) 10 (pick (ltb 57 b) 10 (b - 48))

unfoldable pub digits : List ℕ → ℕ → Bool
digits s zero = true
digits s (suc n) = digits s n && ltb (digit_of (get_or s n 0)) 10

unfoldable pub value : List ℕ → ℕ → ℕ
value s zero = 0
value s (suc n) = value s n * 10 + digit_of (get_or s n 0)

unfoldable pub number_of : List ℕ → Option ℕ
number_of s =
    pick (eqb (length s) 0) None
    (pick (digits s (length s)) (pick (ltb (value s (length s)) 4294967296) (Some (value s (length s))) None) None)

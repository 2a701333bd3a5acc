-- What most boxes begin with: a version and flags.
--   full allowed     a version that is allowed, else 6; then 24 bits of flags
--   between a b, upto n    allowed versions
--   id_bytes v        how many bytes an ID has by the version: 16 bits in version 0, else 32
use Rattle.std.specs.Prelude.{ℕ, Bool, ◌&&◌, leb, eqb}
use Rattle.fields.specs.Choice.{pick}
use Rattle.forms.specs.Form.{Form, give, demand, field, ◌>>=◌, ◌>>◌}

pub record Full : Type 0 where
  pub version : ℕ
  pub flags : ℕ

-- "version not allowed" (6)
unfoldable pub full : (ℕ → Bool) → Form Full
full allowed = do
  v ← field 1
  demand 6 (allowed v)
  f ← field 3
  give (record { version = v; flags = f })

-- the versions a to b, and 0 to n
abbrev pub between : ℕ → ℕ → ℕ → Bool
between a b v = leb a v && leb v b

abbrev pub upto : ℕ → ℕ → Bool
upto n = between 0 n

abbrev pub id_bytes : ℕ → ℕ
id_bytes v = pick (eqb v 0) 2 4

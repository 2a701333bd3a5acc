-- "`pitm` version 0 (16-bit ID) or 1 (32-bit)." Its value is the primary item's ID.
use Rattle.std.specs.Prelude.{ℕ}
use Rattle.forms.specs.Form.{Form, give, field, ◌>>=◌}
use Rattle.contents.specs.Full.{full, upto, id_bytes}

unfoldable pub pitm_form : Form ℕ
pitm_form = do
  h ← full (upto 1)
  id ← field (id_bytes h.version)
  give id

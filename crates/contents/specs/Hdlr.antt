-- "`hdlr` version 0: handler type `pict`, else 10. Bytes after it are not read."
use Rattle.std.specs.Prelude.{eqb}
use Rattle.boxes.specs.Types.{pict}
use Rattle.forms.specs.Form.{Form, demand, field, ◌>>=◌}
use Rattle.contents.specs.Full.{full, upto}

-- the 32 bits between flags and handler type are not judged
unfoldable pub hdlr_form : Form (Unit {0})
hdlr_form = do
  h ← full (upto 0)
  p ← field 4
  t ← field 4
  demand 10 (eqb t pict)

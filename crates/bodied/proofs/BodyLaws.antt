-- The body of a picture, and what the buffer has afterwards. Assumes nothing.
use Prim.Native.Nat.{ℕ, ◌+◌, ◌≤◌, ◌<◌}
use native.Mathlib.Nat.{zero-add}
use native.Mathlib.Omega.{arith}
use mathlib.Core.Path.{◌≡◌, refl, ap, ◌∙◌}
use mathlib.Core.List.{List, [], ◌++◌}
use mathlib.Core.Bool.{Bool, true, false, ◌||◌}
use lib.ListN.{length, take, drop}
use lib.Dec.{eqb}
use lib.Seq.{sets, sets-eq, take-length}
use Rattle.fields.specs.Choice.{pick}
use Rattle.fields.proofs.FieldLaws.{pick_yes, pick_no}
use Rattle.std.specs.Prelude.{Result, Ok, Err}
use Rattle.boxes.specs.Answer.{Answer, ok, refuse, ◌>>=◌}
use Rattle.boxes.specs.Types.{iden, derived, image}
use Rattle.boxes.specs.declared.Refusal.{Refusal}
use Rattle.contents.specs.File.{File}
use Rattle.rules.specs.Joined.{item_at}
use Rattle.rules.specs.Bytes.{body_of}
use Rattle.rules.specs.Opening.{pictured}
use Rattle.rules.proofs.ByteLaws.{body-long}
use Rattle.records.specs.inner.Raw.{capped}
use Rattle.views.specs.inner.View.{AllFed, id_of, record_word}
use Rattle.views.proofs.TableLaws.{test_read}
use Rattle.linking.specs.inner.Links.{first_extent, extents, length_sum}
use Rattle.joining.specs.inner.Lies.{place_of, Sourced, bytes_of}
use Rattle.derived.specs.inner.Told.{Followed}
use Rattle.derived.proofs.JoinedLaws.{size-told, size-known, joined-part}
use Rattle.derived.proofs.RecipeLaws.{fed-body}
use Rattle.asked.proofs.PicturedLaws.{picture-listed, picture-image}
use Rattle.bodied.specs.Body.{has_body, body_in, buffer_after}
use Rattle.bodied.specs.Told.{told_bodied}

-- a is the body where there is one, has whether there is
none-put : (a : Answer (List ℕ)) (buffer : List ℕ) (has : Bool) → has ≡ false →
    (Ok 0 ≡ told_bodied (pick has a (ok []))) × (buffer ≡ buffer_after (pick has a (ok [])) buffer)
unfolding told_bodied buffer_after
none-put a buffer has e = rw (pick_no a (ok []) e) (refl, refl)

body-put : (a : Answer (List ℕ)) (buffer out b : List ℕ) (n : ℕ) (has : Bool) → has ≡ true → a ≡ ok b → n ≡ length b →
    length b ≤ length buffer → out ≡ sets buffer 0 (take n (drop 0 b)) →
    (Ok n ≡ told_bodied (pick has a (ok []))) × (out ≡ buffer_after (pick has a (ok [])) buffer)
unfolding told_bodied buffer_after
body-put a buffer out b n has e z q l o =
    rw (pick_yes a (ok []) e, z) (
      ap (λ (k : ℕ). Ok k) q,
      o ∙ ap (λ (k : ℕ). sets buffer 0 (take k b)) q ∙ ap (sets buffer 0) (take-length b) ∙ sets-eq b buffer 0 (omega arith)
          ∙ ap (λ (k : ℕ). b ++ drop k buffer) (zero-add (length b)),
    )

-- who has a body is derived
or_true : (a b : Bool) → b ≡ true → (a || b) ≡ true
or_true true b e = refl
or_true false b e = e

has_derived : (kind : ℕ) → has_body kind ≡ true → derived kind ≡ true
has_derived kind e = or_true (eqb kind iden) (has_body kind) e

module _ {t rows head : List ℕ} {total : ℕ} {f : File} (w : Followed t rows head total f) (buffer : List ℕ) where
  -- what is told of the picture in row r, and what is left in the buffer
  abbrev its : ℕ → Answer (List ℕ)
  its r = pick (has_body (item_at f r).type) (body_of total head f (id_of f r)) (ok [])

  abbrev Put : ℕ → ℕ → List ℕ → Type 0
  Put r n out = (Ok n ≡ told_bodied (its r)) × (out ≡ buffer_after (its r) buffer)

  -- put_body: kind is the type that the table has
  module _ (r : ℕ) (h : r < length f.items) (kind : ℕ) (typed : r < 256 → kind ≡ record_word t r 1) (has : Bool) (told : has ≡ has_body kind) where
    has_told : has_body (item_at f r).type ≡ has
    has_told = test_read w.view r h has_body kind has typed told

    pub nothing_put : has ≡ false → Put r 0 buffer
    nothing_put e = none-put _ buffer _ (has_told ∙ e)

    module _ (e : has ≡ true) (fed : AllFed total head f) (room : 16402 ≤ length buffer)
        (n : ℕ) (counted : 11280 ≤ length t → r < 256 → first_extent t r + extents t r ≤ 512 → n ≡ capped (length_sum t r)) where
      known : (b : List ℕ) × (body_of total head f (id_of f r) ≡ ok b)
      known = fed-body total head f (item_at f r) (has_derived (item_at f r).type (has_told ∙ e)) (fed r h)

      long : n ≡ length known.0
      long = size-known w r h known.0 known.1 n (size-told w r h n counted)

      pub body-fits : n ≤ length buffer
      body-fits = let l = (body-long total head f (id_of f r) known.0 known.1).1 in omega (arith, long)

      pub body_copied : (out : List ℕ) → ((m : ℕ) → 11280 ≤ length t → 2816 ≤ length rows → n ≤ length buffer → Sourced t rows m → r < m →
          0 + n ≤ length_sum t r → ((i : ℕ) → i < n → place_of 8 t rows r (0 + i) < length head) → out ≡ sets buffer 0 (bytes_of t rows head r 0 n)) →
          Put r n out
      body_copied out copied = body-put _ buffer out known.0 n _ (has_told ∙ e) known.1 long (omega (arith, long, body-fits))
          (joined-part w r h known.0 known.1 0 n (omega (arith, long)) buffer out body-fits copied)

  -- body_in
  abbrev Told : ℕ → Result ℕ Refusal → List ℕ → Type 0
  Told id x out = (x ≡ told_bodied (body_in total head f id)) × (out ≡ buffer_after (body_in total head f id) buffer)

  pub body_off : (id : ℕ) (y : Refusal) → pictured f id ≡ refuse y.number y.place → Told id (Err y) buffer
  unfolding body_in ◌>>=◌ told_bodied buffer_after
  body_off id y e = (rw e, rw e)

  pub body-on : (id row : ℕ) → pictured f id ≡ ok row → (n : ℕ) (out : List ℕ) →
      (row < length f.items → image (item_at f row).type ≡ true → Put row n out) → Told id (Ok n) out
  unfolding body_in ◌>>=◌
  body-on id row e n out put =
      let p = put (picture-listed f id row e) (picture-image f id row e) in
      (rw e p.0, rw e p.1)

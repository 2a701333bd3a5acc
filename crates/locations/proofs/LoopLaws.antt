-- The entries of an `iloc` one after another, each into the table, and the marks of its extents among the rows. Assumes nothing.
--   So    what holds before each entry: ls are those so far
use Prim.Native.Nat.{ℕ, suc, ◌+◌, ◌-◌, ◌*◌, ◌<◌, ◌≤◌}
use native.Mathlib.Omega.{arith}
use mathlib.Core.Path.{◌≡◌, refl, sym, ap, ◌∙◌, subst}
use mathlib.Core.List.{List, [], ◌∷◌, ◌++◌}
use lib.ListN.{length, drop}
use Rattle.std.specs.Prelude.{Err}
use lib.Seq.{length-sets}
use Rattle.boxes.specs.Answer.{Answer, ok, refuse}
use Rattle.boxes.specs.declared.Refusal.{Refusal}
use Rattle.boxes.proofs.AnswerLaws.{ok_inj}
use Rattle.forms.specs.Form.{many, whole}
use Rattle.forms.proofs.StepLaws.{reads, over, whole_reads, reads_got, reads_refused, reads_none, reads_more, over-end, over-left}
use Rattle.contents.specs.Iinf.{Item, ids_of}
use Rattle.contents.specs.Iloc.{Location, extents_in, iloc_form}
use Rattle.contents.specs.File.{File}
use Rattle.rules.specs.Places.{Places}
use Rattle.rules.specs.Words.{join_all}
use Rattle.records.specs.inner.Raw.{Bounded, raw_of}
use Rattle.records.specs.inner.Rows.{id_at, ids_in, Distinct}
use Rattle.records.specs.inner.Stage.{Kept, Ready, with_locations}
use Rattle.records.specs.inner.Named.{NamedRows}
use Rattle.records.proofs.JoinLaws.{join-length}
use Rattle.records.proofs.RawLaws.{raw-id, raw-location}
use Rattle.records.proofs.IdLaws.{raw_ids}
use Rattle.records.proofs.KeptLaws.{kept_same, kept_on}
use Rattle.records.proofs.NamedLaws.{named-rows-none, named-rows-more}
use Rattle.locations.specs.declared.Widths.{Widths}
use Rattle.locations.specs.inner.Told.{Unplaced, LocationsLeft}
use Rattle.locations.specs.inner.Parts.{entry_by, row_from, start_of, Located, PutHere, PutAre, EntriesLeft}
use Rattle.locations.proofs.TableLaws.{put-kept, put-ids, located-none, located-more}
use Rattle.locations.proofs.PutLaws.{row-length, rows-raw}

-- EntriesLeft, LocationsLeft: nothing is told of the table where the entries are refused
left-refused : (a : Answer (List Location)) (n idat : ℕ) (t u : List ℕ) (k p : ℕ) → Kept t u → a ≡ refuse k p → EntriesLeft a n idat t u
left-refused a n idat t u k p h e = record { kept = h; told = λ pl f x ls q r z o g. cc }

pub left-whole : (a : Answer (List Location)) (s : List ℕ) (place n idat : ℕ) (t u : List ℕ) →
    whole (iloc_form (ids_in t n)) place s ≡ a → EntriesLeft a n idat t u → LocationsLeft s place n idat t u
left-whole a s place n idat t u e h =
    record {
      kept = h.kept;
      told = λ pl f x ls q r z o g.
          let i : ids_in t n ≡ ids_of f.items = raw_ids pl f x t n r.count g in
          h.told pl f x ls q r z (sym e ∙ rw i o) g;
    }

pub left_gone : (s : List ℕ) (place n idat : ℕ) (t : List ℕ) (k p : ℕ) → whole (iloc_form (ids_in t n)) place s ≡ refuse k p → LocationsLeft s place n idat t t
left_gone s place n idat t k p e = left-whole (refuse k p) s place n idat t t e (left-refused (refuse k p) n idat t t k p (kept_same t) refl)

-- what is promised of the rows v, a being what the form answers: nothing where the entries are refused
abbrev pub Marks : Answer (List Location) → List ℕ → Type 0
Marks a v = (is : List Item) (ls : List Location) → a ≡ ok ls → NamedRows is ls [] v

pub marks_refused : (a : Answer (List Location)) (v : List ℕ) (k p : ℕ) → a ≡ refuse k p → Marks a v
marks_refused a v k p e is ls o = cc

pub marks_read : (a : Answer (List Location)) (v : List ℕ) (ms : List Location) → a ≡ ok ms → ((is : List Item) → NamedRows is ms [] v) → Marks a v
marks_read a v ms e h is ls o = subst (λ (ls : List Location). NamedRows is ls [] v) (ok_inj ms ls (sym e ∙ o)) (h is)

pub marks_whole : (a b : Answer (List Location)) (v : List ℕ) → a ≡ b → Marks b v → Marks a v
marks_whole a b v e h is ls o = h is ls (sym e ∙ o)

-- with_locations
none-located : (pl : Places) (f : File) (x : List ℕ) → f.locations ≡ [] → raw_of [] pl f ++ x ≡ raw_of [] pl (with_locations f []) ++ x
unfolding raw_of
none-located pl f x e = ap (λ (ls : List Location). raw_of [] pl (with_locations f ls) ++ x) e

bounded_with : (f : File) (ls : List Location) → Bounded f → extents_in ls ≤ 512 → Bounded (with_locations f ls)
bounded_with f ls b h = record {
  few-items = b.few-items;
  few-extents = h;
  few-properties = b.few-properties;
  few-associations = b.few-associations;
  few-targets = b.few-targets;
}

-- PutHere: an entry that was put into the table of a file
file-put : (t u v y : List ℕ) (n : ℕ) (w : Widths) (used p : ℕ) (s : List ℕ) (at idat end k r : ℕ)
    (z : PutHere t u v y n w used p s at idat end k r) (ls : List Location) → Located t n used ls
    → (pl : Places) (f : File) (x : List ℕ) → pl.idat ≡ idat → Ready f n → used ≤ 512 →
    t ≡ raw_of [] pl (with_locations f ls) ++ x → u ≡ raw_of [] pl (with_locations f (ls ++ (z.location ∷ []))) ++ x
file-put t u v y n w used p s at idat end k r z ls h pl f x q rd m e =
    let l = z.location in
    let g = with_locations f ls in
    let count = h.count in
    let below = z.below in
    let all = rd.count in
    let few = z.few in
    let sizes = z.count in
    let in_file : r < length f.items = omega arith in
    z.stored
    ∙ rw (e, ← z.count, h.count, ← rows-raw pl l idat q l.extents)
    (sym
    (raw-location [] pl x (omega arith) g (bounded_with f ls rd.bounded (omega arith)) r rd.distinct in_file l
    (sym (raw-id [] pl x (omega arith) g r in_file) ∙ ap (λ (y : List ℕ). id_at y r) (sym e) ∙ z.id) (z.new ls h)
    (omega arith)))

module _ (s : List ℕ) (from count : ℕ) (w : Widths) (p n idat : ℕ) (t₀ v₀ : List ℕ) where
  abbrev pub answer : Answer (List Location)
  answer = whole (many (entry_by (ids_in t₀ n) w) count []) p (drop from s)

  pub record So (t v : List ℕ) (at used i : ℕ) : Type 0 where
    pub ls : List Location
    pub room : at ≤ length s
    pub few : used ≤ 512
    pub within : i ≤ count
    pub located : Located t n used ls
    pub ids : ids_in t n ≡ ids_in t₀ n
    pub kept : Kept t₀ t
    pub same : answer ≡ reads (many (entry_by (ids_in t₀ n) w) (count - i) ls) p (drop at s) (over p)
    pub table : (pl : Places) (f : File) (x : List ℕ) → pl.idat ≡ idat → Ready f n → f.locations ≡ [] →
        t₀ ≡ raw_of [] pl f ++ x → t ≡ raw_of [] pl (with_locations f ls) ++ x
    pub long : length v ≡ length v₀
    pub named : (is : List Item) → NamedRows is ls [] v

  pub so_start : from ≤ length s → Unplaced t₀ n → So t₀ v₀ from 0 0
  so_start h z =
      record {
        ls = [];
        room = h;
        few = omega arith;
        within = omega arith;
        located = located-none t₀ n z;
        ids = refl;
        kept = kept_same t₀;
        same = let e : count - 0 ≡ count = omega arith in rw e (whole_reads (many (entry_by (ids_in t₀ n) w) count []) p (drop from s));
        table = λ pl f x q r e g. g ∙ none-located pl f x e;
        long = refl;
        named = λ is. named-rows-none is v₀;
      }

  -- one more entry
  module _ (t u v y : List ℕ) (at used i : ℕ) (so : So t v at used i) (more : i < count) where
    entry_next : answer ≡ reads (entry_by (ids_in t₀ n) w so.ls) p (drop at s)
        (λ x r. reads (many (entry_by (ids_in t₀ n) w) (count - (i + 1)) (so.ls ++ (x ∷ []))) p r (over p))
    entry_next =
        let e : count - i ≡ suc (count - (i + 1)) = omega arith in
        so.same ∙ rw e (reads_more (entry_by (ids_in t₀ n) w) p (drop at s) (over p) (count - (i + 1)) so.ls)

    pub so_refused : (f : Refusal) → PutAre t u v y n w used p s at idat (Err f) →
        (answer ≡ refuse f.number f.place) × EntriesLeft answer n idat t₀ u
    so_refused f z =
        let e = entry_next ∙ reads_refused (entry_by (ids_in t₀ n) w so.ls) p (drop at s) _ f.number f.place
        (rw so.ids at (z.2 so.ls so.located)) in
        (e, left-refused answer n idat t₀ u f.number f.place (rw z.0 so.kept) e)

    module _ (few : n ≤ 256) (long : 11280 ≤ length t₀) (wide : 2816 ≤ length v₀) (ds : Distinct (ids_in t₀ n)) (end k r : ℕ)
        (z : PutHere t u v y n w used p s at idat end k r) where
      pub so_again : So u y end (used + k) (i + 1)
      so_again =
          let l = z.location in
          let ws = join_all (row_from (start_of idat l.method l.base)) l.extents in
          let long_too : 11280 ≤ length t = rw so.kept.same_length long in
          let below = z.below in
          let fits = z.few in
          let sizes = z.count in
          let words : length ws ≡ 4 * length l.extents = join-length (row_from (start_of idat l.method l.base)) 4 (row-length _) l.extents in
          let e : used + length l.extents ≡ used + k = omega arith in
          record {
            ls = so.ls ++ (l ∷ []);
            room = z.room;
            few = fits;
            within = omega arith;
            located = rw (z.stored, ← e) (located-more t ws (4 * used) r _ _ _ _ n used so.ls l so.located (rw so.ids ds) few long_too below z.id);
            ids = rw z.stored (put-ids t ws (4 * used) r _ _ _ _ n few ∙ so.ids);
            kept = kept_on t₀ t u so.kept (rw z.stored (put-kept t ws (4 * used) r _ _ _ _ (omega arith) (omega arith)));
            same = entry_next ∙ reads_got (entry_by (ids_in t₀ n) w so.ls) p (drop at s) _ l (drop end s) (rw so.ids at (z.read so.ls so.located));
            table = λ pl f x q rd o g. file-put t u v y n w used p s at idat end k r z so.ls so.located pl f x q rd so.few (so.table pl f x q rd o g);
            long = rw (z.marked, length-sets) so.long;
            named = λ is.
                named-rows-more is so.ls l v y (z.new so.ls so.located) (omega (arith, so.long, so.located.count))
                (rw (← so.located.count) z.marked) (so.named is);
          }

  -- no more entries
  module _ (t v : List ℕ) (at used i : ℕ) (so : So t v at used i) (last : count ≤ i) where
    entry_last : answer ≡ over p so.ls (drop at s)
    entry_last = let e : count - i ≡ 0 = omega arith in so.same ∙ rw e (reads_none (entry_by (ids_in t₀ n) w) p (drop at s) (over p) so.ls)

    pub so_left : at < length s → (answer ≡ refuse 8 p) × EntriesLeft answer n idat t₀ t
    so_left l = let e = entry_last ∙ over-left p so.ls s at l in (e, left-refused answer n idat t₀ t 8 p so.kept e)

    pub so_done : length s ≤ at → (answer ≡ ok so.ls) × EntriesLeft answer n idat t₀ t
    so_done l =
        let e = entry_last ∙ over-end p so.ls s at l in
        (e, record { kept = so.kept; told = λ pl f x ls q rd o y g. so.table pl f x q rd o g ∙ rw (ok_inj so.ls ls (sym e ∙ y)) })

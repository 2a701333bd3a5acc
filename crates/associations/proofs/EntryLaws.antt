-- One entry of an `ipma`: its ID, its count and its associations, one way out at a time. Assumes nothing.
use Prim.Native.Nat.{ℕ, ◌+◌, ◌*◌, ◌-◌, ◌≤◌, ◌<◌}
use native.Mathlib.Omega.{arith}
use mathlib.Core.Path.{◌≡◌, sym, ap, ◌∙◌}
use mathlib.Core.List.{List, []}
use mathlib.Core.Bool.{Bool, true, false}
use mathlib.Core.Logic.{◌⊎◌, inl, inr}
use lib.ListN.{length, drop}
use lib.Seq.{sets}
use lib.Dec.{eqb}
use Rattle.std.specs.Prelude.{Some, None, Ok, Err}
use borrow.Author.Tests.{le-leb, lt-leb}
use Rattle.fields.specs.Choice.{pick}
use Rattle.fields.specs.Field.{be_at}
use Rattle.fields.specs.Lists.{member}
use Rattle.boxes.specs.Answer.{Answer, refuse}
use Rattle.boxes.specs.declared.Refusal.{Refusal}
use Rattle.forms.specs.Form.{Got, got, many}
use Rattle.forms.proofs.StepLaws.{reads, read_reads, reads_got, reads_refused, reads_bind, reads_field, reads_short, reads_yes, reads_no, reads_give}
use Rattle.contents.specs.Full.{id_bytes}
use Rattle.contents.specs.Ipma.{Association, IpmaEntry, associations_in, rises, association_form, ipma_entry_form}
use Rattle.table.specs.declared.ItemRow.{ItemRow}
use Rattle.records.specs.inner.Rows.{ids_in, FoundIs}
use Rattle.records.proofs.IdLaws.{row_listed, row_missing}
use Rattle.associations.specs.inner.Told.{KeptIds}
use Rattle.associations.specs.inner.Steps.{AssociatedIs, span_words, list_form, ListedHere, ListedIs, Above, NamedHere}
use Rattle.associations.specs.declared.Listed.{Listed}
use Rattle.associations.proofs.KeepLaws.{kept_self}

-- id_bytes
pub id-width : (v n : ℕ) → n ≡ id_bytes v → (n ≡ 2) ⊎ (n ≡ 4)
unfolding pick
id-width v n e = go (eqb v 0) e
  where
    go : (c : Bool) → n ≡ pick c 2 4 → (n ≡ 2) ⊎ (n ≡ 4)
    go true e = inl e
    go false e = inr e

-- list-form, at a place of the content
module _ (used most w p : ℕ) (s : List ℕ) (at : ℕ) where
  abbrev list_answer : Answer (Got (List Association))
  list_answer = (list_form used most w).read p (drop at s)

  pub count-short : at ≤ length s → length s - at < 1 → list_answer ≡ refuse 8 p
  unfolding list_form
  count-short l h = rw (read_reads, reads_bind) (reads_short p s at 1 _ l (omega arith))

  module _ (room : 1 ≤ length s - at) (k : ℕ) (is : k ≡ be_at s at 1) where
    pub count-many : 2048 < used + k → list_answer ≡ refuse 9 p
    unfolding list_form
    count-many h =
        rw (read_reads, reads_bind)
        (reads_field p s at 1 _ (omega arith) ∙ rw reads_bind (reads_no p (drop (at + 1) s) 9 _ _ (lt-leb (used + be_at s at 1) 2048 (omega arith))))

    -- then the associations
    module _ (few : used + k ≤ 2048) where
      count-then : list_answer ≡ (many (association_form w most) k []).read p (drop (at + 1) s)
      unfolding list_form
      count-then =
          rw (read_reads, reads_bind)
          (reads_field p s at 1 _ (omega arith)
          ∙ rw (reads_bind, ← is) (reads_yes p (drop (at + 1) s) 9 _ _ (le-leb _ _ few) ∙ sym (read_reads _ p (drop (at + 1) s))))

      module _ (row : ℕ) (t u : List ℕ) where
        pub list-refused : (x : Refusal) → AssociatedIs ((many (association_form w most) k []).read p (drop (at + 1) s)) s k used t u (Err x) →
            (list_answer ≡ refuse x.number x.place) × KeptIds t u
        list-refused x b = (count-then ∙ b.0, b.1)

        pub list_put : (end : ℕ) → AssociatedIs ((many (association_form w most) k []).read p (drop (at + 1) s)) s k used t u (Ok end) → (v : List ℕ) →
            v ≡ sets u (16 + 16 * row + 3) (span_words used k) → ListedHere list_answer s row used t v end k
        list_put end b v q =
            record {
              list = b.list;
              read = count-then ∙ b.read;
              inside = b.inside;
              count-is = b.count-is;
              fits = few;
              stored = q ∙ ap (λ (y : List ℕ). sets y (16 + 16 * row + 3) (span_words used k)) b.stored;
            }

-- ipma-entry-form, at a place of the content, where an ID has `wide` bytes
module _ (ids : List ℕ) (most v w : ℕ) (before : List IpmaEntry) (p : ℕ) (s : List ℕ) (at wide : ℕ) (wide_is : wide ≡ id_bytes v) (here : at ≤ length s) where
  abbrev named_answer : Answer (Got IpmaEntry)
  named_answer = (ipma_entry_form ids most v w before).read p (drop at s)

  named-short : length s - at < wide → named_answer ≡ refuse 8 p
  unfolding ipma_entry_form
  named-short h = rw (read_reads, reads_bind, ← wide_is) (reads_short p s at wide _ here (omega arith))

  module _ (room : wide ≤ length s - at) (id : ℕ) (is : id ≡ be_at s at wide) where
    named-low : rises id before ≡ false → named_answer ≡ refuse 10 p
    unfolding ipma_entry_form
    named-low h =
        rw (read_reads, reads_bind, ← wide_is)
        (reads_field p s at wide _ (omega arith) ∙ rw (reads_bind, ← is) (reads_no p (drop (at + wide) s) 10 _ _ h))

    module _ (up : rises id before ≡ true) where
      named-unlisted : member id ids ≡ false → named_answer ≡ refuse 11 p
      unfolding ipma_entry_form
      named-unlisted h =
          rw (read_reads, reads_bind, ← wide_is)
          (reads_field p s at wide _ (omega arith)
          ∙ rw (reads_bind, ← is) (reads_yes p (drop (at + wide) s) 10 _ _ up ∙ rw reads_bind (reads_no p (drop (at + wide) s) 11 _ _ h)))

      -- then the count and the associations
      named-then : member id ids ≡ true → named_answer ≡ reads (list_form (associations_in before) most w) p
          (drop (at + wide) s) (λ l r. got (record { id = id; list = l }) r)
      unfolding ipma_entry_form list_form
      named-then m =
          rw (read_reads, reads_bind, ← wide_is)
          (reads_field p s at wide _ (omega arith)
          ∙ rw (reads_bind, ← is) (reads_yes p (drop (at + wide) s) 10 _ _ up ∙
          rw reads_bind (reads_yes p (drop (at + wide) s) 11 _ _ m ∙ simp (reads_bind, reads_give))))

-- the same of a table t with n items, behind entries with `used` associations whose IDs are below `above`
module _ (t : List ℕ) (n most v w p : ℕ) (s : List ℕ) (at above used wide : ℕ) (wide_is : wide ≡ id_bytes v)
    (here : at ≤ length s) (before : List IpmaEntry) (total : associations_in before ≡ used) (last : Above before above)
  where
    abbrev entry_answer : Answer (Got IpmaEntry)
    entry_answer = (ipma_entry_form (ids_in t n) most v w before).read p (drop at s)

    pub entry_short : length s - at < wide → (entry_answer ≡ refuse 8 p) × KeptIds t t
    entry_short h = (named-short (ids_in t n) most v w before p s at wide wide_is here h, kept_self t)

    module _ (room : wide ≤ length s - at) (id : ℕ) (is : id ≡ be_at s at wide) where
      pub entry_low : id < above → (entry_answer ≡ refuse 10 p) × KeptIds t t
      entry_low h = (named-low (ids_in t n) most v w before p s at wide wide_is here room id is (last id ∙ lt-leb above id h), kept_self t)

      module _ (up : above ≤ id) where
        rising : rises id before ≡ true
        rising = last id ∙ le-leb above id up

        pub entry_unlisted : FoundIs t n id None → (entry_answer ≡ refuse 11 p) × KeptIds t t
        entry_unlisted f = (named-unlisted (ids_in t n) most v w before p s at wide wide_is here room id is rising (row_missing t n id f), kept_self t)

        module _ (row : ItemRow) (f : FoundIs t n id (Some row)) (u : List ℕ) where
          then : entry_answer ≡ reads (list_form used most w) p (drop (at + wide) s) (λ l q. got (record { id = id; list = l }) q)
          then = named-then (ids_in t n) most v w before p s at wide wide_is here room id is rising (row_listed t n id row.0 f.0 f.1) ∙ rw total

          pub entry_refused : (y : Refusal) → ListedIs ((list_form used most w).read p (drop (at + wide) s)) s row.0 used t u (Err y) →
              (entry_answer ≡ refuse y.number y.place) × KeptIds t u
          entry_refused y b = (then ∙ reads_refused (list_form used most w) p (drop (at + wide) s) _ _ _ b.0, b.1)

          pub entry_put : (l : Listed) → ListedIs ((list_form used most w).read p (drop (at + wide) s)) s row.0 used t u (Ok l) →
              NamedHere entry_answer s n above used t u l.end l.k id row.0
          entry_put l b =
              record {
                list = b.list;
                read = then ∙ reads_got (list_form used most w) p (drop (at + wide) s) _ _ _ b.read;
                inside = b.inside;
                count-is = b.count-is;
                fits = b.fits;
                rising = up;
                found = f;
                stored = b.stored;
              }

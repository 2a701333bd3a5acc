-- What reading an `iinf` answers and leaves.
--   ItemsLeft         the table afterwards: where the items are read from a table that is all 0, theirs
-- and of its parts:
--   Held ids at m     the 512 words m hold the keys of the IDs from at .first up to at .end, as Keyed says
--   RoomAt ids at id  where among them the key of one more ID goes;   RoomIs    that, or that one of them has the ID
--   item_of i          the item that the code's words of an `infe` are
--   InfeIs b at s p r r is what the content s of an `infe` at p says, where b are the items before it and `at` is where their keys are
--   CountIs s p r     r is what the front of the content s of an `iinf` at p says
--   NextIs ..         r is what the next box of an `iinf` says
--   row_put t r i      a table after an item's words went into row r
--   Stored a t u      the table t, all 0, became that of the items of the answer a;   KeysLeft a m    m are their keys
use Rattle.std.specs.Prelude.{ℕ, suc, ◌+◌, ◌*◌, ◌-◌, ◌≤◌, ◌<◌, ◌≡◌, List, [], ◌∷◌, ◌++◌, true, false, length, get_or, drop, set, replicate}
use Rattle.std.specs.Prelude.{Option, Some, None, Result, Ok, Err}
use Rattle.fields.specs.Lists.{member}
use Rattle.boxes.specs.Answer.{Answer, ok, refuse}
use Rattle.boxes.specs.Exactly.{exactly}
use Rattle.boxes.specs.declared.Refusal.{Refusal}
use Rattle.forms.specs.Form.{got, front}
use Rattle.contents.specs.Iinf.{Item, ids_of, infe_form, infe_step, iinf-count, items}
use Rattle.rules.specs.Places.{Places}
use Rattle.records.specs.inner.Raw.{unread, raw_of}
use Rattle.records.specs.inner.Keys.{key_of, no_key, keys_of, Keyed}
use Rattle.records.specs.inner.Stage.{Kept, with_items}
use Rattle.items.specs.declared.Keys.{Keys}
use Rattle.items.specs.declared.Info.{Info}
use Rattle.items.specs.declared.NextItem.{NextItem}
use Rattle.items.specs.declared.Count.{Count}

pub record ItemsLeft (s : List ℕ) (place base : ℕ) (t u : List ℕ) : Type 0 where
  pub kept : Kept t u
  pub told : (pl : Places) (x : List ℕ) (is : List Item) → items place base s ≡ ok is → t ≡ raw_of [] pl unread ++ x → u ≡ raw_of [] pl (with_items is) ++ x

-- keys: there are 0 before the first of them, which is never the first word, and no_key behind the last
pub record Held (ids : List ℕ) (at : Keys) (m : List ℕ) : Type 0 where
  pub above : 0 < at.first
  pub low : at.first ≤ 256
  pub last : at.end ≡ at.first + length ids
  pub half : 256 ≤ at.end
  pub high : 0 < length ids → 256 < at.end
  pub few : length ids ≤ 256
  pub keys : m ≡ replicate at.first 0 ++ (keys_of ids ++ replicate (512 - at.end) no_key)

pub record RoomAt (ids : List ℕ) (at : Keys) (id room : ℕ) : Type 0 where
  pub from : at.first ≤ room
  pub upto : room ≤ at.end
  pub less : (j : ℕ) → at.first + j < room → get_or (keys_of ids) j 0 < key_of id 0
  pub more : (j : ℕ) → room ≤ at.first + j → j < length ids → key_of id 255 < get_or (keys_of ids) j 0

abbrev pub RoomIs : List ℕ → Keys → ℕ → Option ℕ → Type 0
RoomIs ids at id (Some room) = (member id ids ≡ false) × RoomAt ids at id room
RoomIs ids at id None = member id ids ≡ true

-- `infe`
abbrev pub item_of : Info → Item
item_of i = record { id = i.id.0; type = i.kind; protection = i.protection; hidden = i.hidden }

abbrev pub InfeIs : List Item → Keys → List ℕ → ℕ → Result Info Refusal → Type 0
InfeIs before at s p (Ok i) = (front (infe_form before) p s ≡ ok (item_of i)) × RoomAt (ids_of before) at i.id.0 i.room
InfeIs before at s p (Err r) = front (infe_form before) p s ≡ refuse r.number r.place

-- the count of `iinf`, and where its boxes begin
abbrev pub CountIs : List ℕ → ℕ → Result Count Refusal → Type 0
CountIs s p (Ok c) = (iinf-count.read p s ≡ got c.count (drop c.at s)) × (c.at ≤ length s) × (c.count ≤ 256)
CountIs s p (Err r) = iinf-count.read p s ≡ refuse r.number r.place

-- one more box of `iinf`, at `at` of the content s, which begins at `base`
abbrev pub NextIs : List ℕ → ℕ → ℕ → ℕ → List Item → Keys → Result NextItem Refusal → Type 0
NextIs s at p base before held (Ok x) =
    (at < x.end) × (x.end ≤ length s)
    × ((n : ℕ) → exactly infe_step p (suc n) (base + at) before (drop at s) ≡
    exactly infe_step p n (base + x.end) (before ++ (item_of x.info ∷ [])) (drop x.end s))
    × RoomAt (ids_of before) held x.info.id.0 x.info.room
NextIs s at p base before held (Err r) = (n : ℕ) → exactly infe_step p (suc n) (base + at) before (drop at s) ≡ refuse r.number r.place

-- the table
unfoldable pub row_put : List ℕ → ℕ → Item → List ℕ
row_put t r i = set (set (set (set t (16 + 16 * r) i.id) (16 + 16 * r + 1) i.type) (16 + 16 * r + 2) i.hidden) (16 + 16 * r + 12) i.protection

pub record Stored (a : Answer (List Item)) (t u : List ℕ) : Type 0 where
  pub kept : Kept t u
  pub told : (pl : Places) (x : List ℕ) (is : List Item) → a ≡ ok is → t ≡ raw_of [] pl unread ++ x → u ≡ raw_of [] pl (with_items is) ++ x

abbrev pub KeysLeft : Answer (List Item) → List ℕ → Type 0
KeysLeft a m = (is : List Item) → a ≡ ok is → Keyed (ids_of is) m

-- What a chain of items is, in words: document 02, Q-7, for 30 and for 14 "at any depth". Nothing here is computed.
--   Link f i j         an extent of the item i picks the item j
--   Lacks f i          an extent of the item i picks no reference
--   LeadsIn f k i j    k links, one after the other, lead from the item i to the item j; none: j is i
--   Leads f i j        one link or more lead from i to j
--   BadChain f i       30;   GoodChain    the same the other way round
--   NamesPast f i      14 by a sum past 64 bits
-- That `chained 8` and `names_past 8` (Bytes) test just this: crates/rules/proofs/ChainLaws.antt, `thirty`, `chain-good`, `names-past`.
use Rattle.std.specs.Prelude.{ℕ, zero, suc, ◌≤◌, ◌≡◌, List, [], ◌∷◌, true, false, ◌⊎◌}
use Rattle.boxes.specs.Answer.{ok, refuse}
use Rattle.contents.specs.Iloc.{Extent}
use Rattle.contents.specs.File.{File}
use Rattle.rules.specs.Joined.{location_of}
use Rattle.rules.specs.Bytes.{named, made_of_items, length_of}

-- e is one of es
abbrev pub Among : Extent → List Extent → Type 0
Among e [] = ⊥
Among e (x ∷ es) = (e ≡ x) ⊎ Among e es

-- "Read construction method 2: extent index picks the item's `iloc` reference"
pub record Link (f : File) (i j : ℕ) : Type 0 where
  pub made : made_of_items f i ≡ true
  pub extent : Extent
  pub among : Among extent (location_of f i).extents
  pub picks : named f i extent ≡ ok j

-- "has no such reference"
pub record Lacks (f : File) (i : ℕ) : Type 0 where
  pub made : made_of_items f i ≡ true
  pub extent : Extent
  pub among : Among extent (location_of f i).extents
  pub picks-none : named f i extent ≡ refuse 30 i

unfoldable pub LeadsIn : File → ℕ → ℕ → ℕ → Type 0
LeadsIn f zero i j = i ≡ j
LeadsIn f (suc k) i j = (m : ℕ) × Link f i m × LeadsIn f k m j

pub data Leads (f : File) : ℕ → ℕ → Type 0 where
  link : {i j : ℕ} → Link f i j → Leads f i j
  over : {i m j : ℕ} → Link f i m → Leads f m j → Leads f i j

-- "30, an `iloc` chain that returns to itself, is deeper than 8 or at any link has no such reference".
pub data BadChain (f : File) (i : ℕ) : Type 0 where
  returns : Leads f i i → BadChain f i
  -- "made of another item's bytes, up to 8 deep, counting methods 0 and 1 as 0": 8 links on stands an item that is itself made of items.
  -- It has a ninth link, or lacks a reference, or has no extents (`ninth`).
  deeper : (j : ℕ) → LeadsIn f 8 i j → made_of_items f j ≡ true → BadChain f i
  -- at the item itself (k is 0) or at any that it leads to
  lacking : (k j : ℕ) → LeadsIn f k i j → Lacks f j → BadChain f i

pub record GoodChain (f : File) (i : ℕ) : Type 0 where
  pub at-most-8 : (k j : ℕ) → LeadsIn f k i j → k ≤ 8
  pub ends : (j : ℕ) → LeadsIn f 8 i j → made_of_items f j ≡ false
  pub none_lacks : (k j : ℕ) → LeadsIn f k i j → Lacks f j → ⊥

-- "an item that names, at any depth, one whose lengths sum past 64 bits is 14"
pub record NamesPast (f : File) (i : ℕ) : Type 0 where
  pub item : ℕ
  pub leads : Leads f i item
  pub past : 18446744073709551616 ≤ length_of f item

-- The keys of the items so far: each of the 512 words, and where one more goes. Assumes nothing.
use Prim.Native.Nat.{ℕ, ◌+◌, ◌-◌, ◌≤◌, ◌<◌}
use native.Mathlib.Decide.{dec_le}
use native.Mathlib.Omega.{arith}
use mathlib.Core.Path.{◌≡◌, refl, ap, ◌∙◌}
use mathlib.Core.List.{List, ◌++◌}
use lib.ListN.{length, get_or, replicate}
use Rattle.std.specs.Prelude.{Some, None}
use Rattle.records.specs.inner.Keys.{key_of, no_key, LastUpto, keys_of, Keyed}
use Rattle.records.proofs.KeyedLaws.{keys_rise, keyed_before, keyed_at, keyed_behind, keyed_split}
use Rattle.items.proofs.KeyLaws.{keys_none, keys-some}
use Rattle.items.specs.declared.Keys.{Keys}
use Rattle.items.specs.inner.Told.{Held, RoomAt, RoomIs}

module _ (ids : List ℕ) (at : Keys) (m : List ℕ) (h : Held ids at m) where
  pub keys-held : Keyed ids m
  keys-held =
      record {
        first = at.first;
        above = h.above;
        below = omega (arith, h.low, h.few);
        keys = h.keys ∙ ap (λ (e : ℕ). replicate at.first 0 ++ (keys_of ids ++ replicate (512 - e) no_key)) h.last;
      }

  its_word : (j k : ℕ) → k ≡ at.first + j → j < length ids → get_or m k 0 ≡ get_or (keys_of ids) j 0
  unfolding keys-held
  its_word j k e l = keyed_at ids m keys-held k j e l

  -- where the key of an ID goes
  module _ (id : ℕ) where
    -- in each way out no key has the ID
    none : (room : ℕ) → RoomAt ids at id room → RoomIs ids at id (Some room)
    none room r = (
      keys_none ids h.few id (λ j l a b. elim (dec_le room (at.first + j)) [
        | yes q ↦ omega (arith, r.more j q l)
        | no q ↦ omega (arith, r.less j (omega (arith, q)))
      ]),
      r,
    )

    pub room-last : get_or m (at.end - 1) 0 < key_of id 0 → RoomIs ids at id (Some at.end)
    room-last q = none at.end (
        record {
          from = omega (arith, h.last);
          upto = omega arith;
          less = λ j l.
              omega (
                arith,
                h.last,
                its_word (length ids - 1) (at.end - 1) (omega (arith, h.last)) (omega (arith, h.last)),
                keys_rise ids j (length ids - 1) (omega (arith, h.last)) (omega (arith, h.last)),
              );
          more = λ j l i. absurd (omega (arith, h.last));
        }
        )

    pub room-first : key_of id 0 + 255 < get_or m at.first 0 → RoomIs ids at id (Some at.first)
    room-first q = none at.first (
        record {
          from = omega arith;
          upto = omega (arith, h.last);
          less = λ j l. absurd (omega arith);
          more = λ j l i.
              omega (
                arith,
                its_word 0 at.first (omega arith) (omega arith),
                keys_rise ids 0 j (omega arith) i,
              );
        }
        )

    module _ (small : id < 4294967296) (k : ℕ) (search : LastUpto m (key_of id 0 + 255) k)
        (above : key_of id 0 ≤ get_or m (at.end - 1) 0) (below : get_or m at.first 0 ≤ key_of id 0 + 255) where
      found : (get_or m k 0 ≤ key_of id 0 + 255) × ((j : ℕ) → k < j → j < 512 → key_of id 0 + 255 < get_or m j 0)
      unfolding keys-held
      found = search.1 (keyed_split ids m keys-held (key_of id 0 + 255) (omega arith)) (omega (arith, keyed_before ids m keys-held 0 h.above))

      inside : (at.first ≤ k) × (k < at.end)
      unfolding keys-held
      inside = (
        elim (dec_le at.first k) [
          | yes q ↦ q
          | no q ↦ absurd (omega (arith, h.low, found.1 at.first (omega (arith, q)) (omega (arith, h.low))))
        ],
        elim (dec_le at.end k) [
          | yes q ↦ absurd (omega (arith, keyed_behind ids m keys-held k (omega (arith, h.last)) search.0, found.0))
          | no q ↦ omega (arith, q)
        ],
      )

      pub room-between : get_or m k 0 < key_of id 0 → RoomIs ids at id (Some (k + 1))
      room-between q =
          let i = inside in
          none (k + 1) (
          record {
            from = omega arith;
            upto = omega arith;
            less = λ j l.
                omega (
                  arith,
                  its_word j (at.first + j) refl (omega (arith, h.last)),
                  its_word (k - at.first) k (omega arith) (omega (arith, h.last)),
                  keys_rise ids j (k - at.first) (omega arith) (omega (arith, h.last)),
                );
            more = λ j l g.
                omega (
                  arith,
                  its_word j (at.first + j) refl g,
                  found.1 (at.first + j) (omega arith) (omega (arith, h.low, h.few)),
                );
          }
          )

      pub room_taken : key_of id 0 ≤ get_or m k 0 → RoomIs ids at id None
      room_taken q =
          let i = inside in
          let w = its_word (k - at.first) k (omega arith) (omega (arith, h.last)) in
          keys-some ids h.few id (k - at.first) (omega (arith, h.last)) (omega arith) (omega (arith, found.0))

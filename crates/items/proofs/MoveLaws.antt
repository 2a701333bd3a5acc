-- Keys that go out of the way of one more, and the one that is put. Assumes nothing.
use Prim.Native.Nat.{ℕ, suc, ◌+◌, ◌-◌, ◌<◌}
use native.Mathlib.Omega.{arith}
use mathlib.Core.Path.{◌≡◌, sym, ap, ◌∙◌}
use mathlib.Core.List.{List, [], ◌∷◌, ◌++◌, append_assoc}
use lib.ListN.{length, get_or, take, drop, set, replicate, length-append, length-drop, length-replicate, take-append-drop, replicate-append-replicate}
use lib.Seq.{length-take-le, drop-cons, append_snoc, drop-append_seam, drop-append-add, set_at, take_at, drop_at}
use Rattle.std.specs.List.{copy_within}
use Rattle.std.proofs.lemmas.List.{take_more}
use Rattle.records.specs.inner.Keys.{key_of, no_key, key_among, keys_of}
use Rattle.records.proofs.KeyedLaws.{keys-long}
use Rattle.items.proofs.KeyLaws.{among-at, keys_snoc}
use Rattle.items.specs.declared.Keys.{Keys}
use Rattle.items.specs.inner.Told.{Held, RoomAt}

-- one more put where there is room
put_up : (p b n : List ℕ) (y x from end : ℕ) → length p ≡ from → from + length b ≡ end →
    set (copy_within (p ++ (b ++ (y ∷ n))) from end (from + 1)) from x ≡ p ++ (x ∷ (b ++ n))
put_up p b n y x from end e f =
    let l : List ℕ = p ++ (b ++ (y ∷ n)) in
    let long : length l ≡ from + (length b + (1 + length n)) = simp length-append (omega arith) in
    let g : length b ≡ end - from = omega arith in
    let k : from + 1 + (end - from) ≡ length p + (length b + 1) = omega arith in
    let d : drop (from + 1 + (end - from)) l ≡ n =
    ap (λ (i : ℕ). drop i l) k ∙ drop-append-add p (b ++ (y ∷ n)) (length b + 1) ∙ drop-append-add b (y ∷ n) 1 in
    let t : take (end - from) (drop from l) ≡ b =
    ap (take (end - from)) (drop_at p (b ++ (y ∷ n)) from e) ∙ take_at b (y ∷ n) (end - from) g in
    let h : take (from + 1) l ≡ p ++ (get_or l from 0 ∷ []) =
    take_more l from 0 (omega arith) ∙ ap (λ (q : List ℕ). q ++ (get_or l from 0 ∷ [])) (take_at p (b ++ (y ∷ n)) from e) in
    ap (λ (q : List ℕ). set q from x) (append_assoc (take (from + 1) l) (take (end - from) (drop from l)) (drop (from + 1 + (end - from)) l))
    ∙ ap (λ (q : List ℕ). set (q ++ (take (end - from) (drop from l) ++ drop (from + 1 + (end - from)) l)) from x) h
    ∙ ap (λ (q : List ℕ). set q from x) (append_snoc p (get_or l from 0) _)
    ∙ set_at p (get_or l from 0) (take (end - from) (drop from l) ++ drop (from + 1 + (end - from)) l) x from e
    ∙ ap (λ (q : List ℕ). p ++ (x ∷ (q ++ drop (from + 1 + (end - from)) l))) t
    ∙ ap (λ (q : List ℕ). p ++ (x ∷ (b ++ q))) d

put-down : (p a q : List ℕ) (y x from to end : ℕ) → length p ≡ to → from ≡ to + 1 → from + length a ≡ end →
    set (copy_within (p ++ (y ∷ (a ++ q))) from end to) (end - 1) x ≡ p ++ (a ++ (x ∷ q))
put-down p a q y x from to end e o f =
    let l : List ℕ = p ++ (y ∷ (a ++ q)) in
    let g : length a ≡ end - from = omega arith in
    let k : to + (end - from) ≡ length p + length a = omega arith in
    let n : from ≡ length p + 1 = omega arith in
    let z : List ℕ = y ∷ (a ++ q) in
    let d : drop (to + (end - from)) l ≡ get_or z (length a) 0 ∷ q =
    ap (λ (i : ℕ). drop i l) k
    ∙ drop-append-add p z (length a)
    ∙ drop-cons z (length a) 0 (simp length-append (omega arith))
    ∙ ap (λ (r : List ℕ). get_or z (length a) 0 ∷ r) (drop-append_seam a q) in
    let t : take (end - from) (drop from l) ≡ a =
    ap (λ (i : ℕ). take (end - from) (drop i l)) n
    ∙ ap (take (end - from)) (drop-append-add p z 1)
    ∙ take_at a q (end - from) g in
    let w : length (p ++ a) ≡ end - 1 = omega (arith, length-append p a) in
    ap (λ (r : List ℕ). set r (end - 1) x) (append_assoc (take to l) (take (end - from) (drop from l)) (drop (to + (end - from)) l))
    ∙ ap (λ (r : List ℕ). set (r ++ (take (end - from) (drop from l) ++ drop (to + (end - from)) l)) (end - 1) x) (take_at p z to e)
    ∙ ap (λ (r : List ℕ). set (p ++ (r ++ drop (to + (end - from)) l)) (end - 1) x) t
    ∙ ap (λ (r : List ℕ). set (p ++ (a ++ r)) (end - 1) x) d
    ∙ ap (λ (r : List ℕ). set r (end - 1) x) (sym (append_assoc p a _))
    ∙ set_at (p ++ a) _ q x (end - 1) w
    ∙ append_assoc p a (x ∷ q)

-- Held, of one ID more
module _ (ids : List ℕ) (at : Keys) (m : List ℕ) (h : Held ids at m) (id room key : ℕ) (r : RoomAt ids at id room)
    (few : length ids < 256) (own : key ≡ key_of id (length ids)) where
  abbrev lower : List ℕ
  lower = take (room - at.first) (keys_of ids)

  abbrev upper : List ℕ
  upper = drop (room - at.first) (keys_of ids)

  parts : keys_of (ids ++ (id ∷ [])) ≡ lower ++ (key ∷ upper)
  parts =
      let n = keys-long ids in
      keys_snoc ids id
      ∙ ap (λ (k : ℕ). key_among k (keys_of ids)) (sym own)
      ∙ among-at key (keys_of ids) (room - at.first) (omega (arith, r.upto, h.last))
      (λ j l. omega (arith, r.less j (omega arith)))
      (λ l. omega (arith, r.more (room - at.first) (omega (arith, r.from)) (omega arith)))

  lower_length : at.first + length lower ≡ room
  lower_length = omega (arith, length-take-le (room - at.first) (keys_of ids) (omega (arith, r.upto, h.last, keys-long ids)), r.from)

  upper_length : room + length upper ≡ at.end
  upper_length = omega (arith, length-drop (room - at.first) (keys_of ids), keys-long ids, r.from, r.upto, h.last)

  ids-length : length (ids ++ (id ∷ [])) ≡ length ids + 1
  ids-length = length-append ids (id ∷ [])

  pub held_up : (u : List ℕ) → u ≡ copy_within m room at.end (room + 1) →
      Held (ids ++ (id ∷ [])) (record { first = at.first; end = at.end + 1 }) (set u room key)
  held_up u e =
      let z : List ℕ = replicate at.first 0 in
      let n : List ℕ = replicate (512 - (at.end + 1)) no_key in
      let o : 512 - at.end ≡ suc (512 - (at.end + 1)) = omega (arith, h.last, h.low) in
      let p : length (z ++ lower) ≡ room = omega (arith, length-append z lower, length-replicate {A = ℕ} at.first 0, lower_length) in
      let q : m ≡ (z ++ lower) ++ (upper ++ (no_key ∷ n)) =
      h.keys
      ∙ ap (λ (k : ℕ). z ++ (keys_of ids ++ replicate k no_key)) o
      ∙ ap (λ (l : List ℕ). z ++ (l ++ (no_key ∷ n))) (sym (take-append-drop (room - at.first) (keys_of ids)))
      ∙ ap (λ (l : List ℕ). z ++ l) (append_assoc lower upper (no_key ∷ n))
      ∙ sym (append_assoc z lower (upper ++ (no_key ∷ n))) in
      record {
        above = h.above;
        low = h.low;
        last = omega (arith, h.last, ids-length);
        half = omega (arith, h.half);
        high = λ l. omega (arith, h.half);
        few = omega (arith, ids-length);
        keys =
            ap (λ (l : List ℕ). set l room key) (e ∙ ap (λ (l : List ℕ). copy_within l room at.end (room + 1)) q)
            ∙ put_up (z ++ lower) upper n no_key key room at.end p upper_length
            ∙ append_assoc z lower (key ∷ (upper ++ n))
            ∙ ap (λ (l : List ℕ). z ++ l) (sym (append_assoc lower (key ∷ upper) n))
            ∙ ap (λ (l : List ℕ). z ++ (l ++ n)) (sym parts);
      }

  pub held_down : (u : List ℕ) → u ≡ copy_within m at.first room (at.first - 1) → room - at.first < at.end - room →
      Held (ids ++ (id ∷ [])) (record { first = at.first - 1; end = at.end }) (set u (room - 1) key)
  held_down u e less =
      let z : List ℕ = replicate (at.first - 1) 0 in
      let n : List ℕ = replicate (512 - at.end) no_key in
      let o : at.first ≡ at.first - 1 + 1 = omega (arith, h.above) in
      let some : 0 < length ids = omega (arith, h.last, r.from, r.upto) in
      let q : m ≡ z ++ (0 ∷ (lower ++ (upper ++ n))) =
      h.keys
      ∙ ap (λ (k : ℕ). replicate k 0 ++ (keys_of ids ++ n)) o
      ∙ ap (λ (l : List ℕ). l ++ (keys_of ids ++ n)) (sym (replicate-append-replicate (at.first - 1) 1 0))
      ∙ append_snoc z 0 (keys_of ids ++ n)
      ∙ ap (λ (l : List ℕ). z ++ (0 ∷ (l ++ n))) (sym (take-append-drop (room - at.first) (keys_of ids)))
      ∙ ap (λ (l : List ℕ). z ++ (0 ∷ l)) (append_assoc lower upper n) in
      record {
        above = omega (arith, h.last, h.high some);
        low = omega (arith, h.low);
        last = omega (arith, h.last, h.above, ids-length);
        half = h.half;
        high = λ l. h.high some;
        few = omega (arith, ids-length);
        keys =
            ap (λ (l : List ℕ). set l (room - 1) key) (e ∙ ap (λ (l : List ℕ). copy_within l at.first room (at.first - 1)) q)
            ∙ put-down z lower (upper ++ n) 0 key at.first (at.first - 1) room (length-replicate {A = ℕ} (at.first - 1) 0) o lower_length
            ∙ ap (λ (l : List ℕ). z ++ l) (sym (append_assoc lower (key ∷ upper) n))
            ∙ ap (λ (l : List ℕ). z ++ (l ++ n)) (sym parts);
      }

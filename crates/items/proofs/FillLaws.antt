-- Filling the rows of a table with the items of an `iinf`: what the loop keeps, and each way out of it. Assumes nothing.
use Prim.Native.Nat.{ℕ, suc, ◌+◌, ◌-◌, ◌≤◌, ◌<◌}
use native.Mathlib.Omega.{arith}
use mathlib.Core.Path.{◌≡◌, refl, sym, ap, ◌∙◌, subst}
use mathlib.Core.List.{List, [], ◌∷◌, ◌++◌, map-append}
use lib.ListN.{length, take, drop, replicate, length-append, length-map, length-replicate, replicate-append-replicate}
use lib.Seq.{take_at}
use Rattle.boxes.specs.Answer.{Answer, ok, refuse}
use Rattle.boxes.specs.Exactly.{exactly}
use Rattle.boxes.specs.declared.Refusal.{Refusal}
use Rattle.boxes.proofs.AnswerLaws.{ok_inj}
use Rattle.contents.specs.Iinf.{Item, ids_of, infe_step}
use Rattle.rules.specs.Places.{Places}
use Rattle.records.specs.inner.Raw.{unread, raw_of}
use Rattle.records.specs.inner.Keys.{key_of, no_key, keys_from, Keyed}
use Rattle.records.specs.inner.Stage.{Kept, with_items}
use Rattle.records.proofs.RawLaws.{raw-item}
use Rattle.items.specs.declared.Keys.{Keys}
use Rattle.items.specs.declared.NextItem.{NextItem}
use Rattle.std.specs.Prelude.{Result, Ok, Err}
use Rattle.boxes.specs.Told.{told}
use Rattle.items.specs.inner.Told.{Held, RoomAt, item_of, NextIs, row_put, Stored, KeysLeft}
use Rattle.items.proofs.TableLaws.{put-kept}
use Rattle.items.proofs.HeldLaws.{keys-held}
use Rattle.items.proofs.StepLaws.{exactly_from, exactly-end, exactly-left}

-- Stored
module _ (a : Answer (List Item)) (t u : List ℕ) (k : Kept t u) where
  pub stored_refused : (n p : ℕ) → a ≡ refuse n p → Stored a t u
  stored_refused n p e = record { kept = k; told = λ pl x is q r. let z : ◌≡◌ {A = ℕ} 0 1 = cc in absurd (omega arith) }

  pub stored_ok : (is : List Item) → a ≡ ok is → ((pl : Places) (x : List ℕ) → t ≡ raw_of [] pl unread ++ x →
      u ≡ raw_of [] pl (with_items is) ++ x) → Stored a t u
  stored_ok is e h =
      record { kept = k; told = λ pl x js q r. h pl x r ∙ ap (λ (l : List Item). raw_of [] pl (with_items l) ++ x) (ok_inj is js (sym e ∙ q)) }

-- KeysLeft
pub no_keys : (a : Answer (List Item)) (n p : ℕ) → a ≡ refuse n p → (m : List ℕ) → KeysLeft a m
no_keys a n p e m is q = let z : ◌≡◌ {A = ℕ} 0 1 = cc in absurd (omega arith)

-- Held, of no ID
held_none : (m₀ m : List ℕ) → m₀ ≡ replicate 512 0 → m ≡ take 256 m₀ ++ replicate 256 no_key → Held [] (record { first = 256; end = 256 }) m
unfolding keys_from
held_none m₀ m z q =
    record {
      above = omega arith;
      low = omega arith;
      last = refl;
      half = omega arith;
      high = λ l. absurd (omega arith);
      few = omega arith;
      keys =
          q
          ∙ ap (λ (l : List ℕ). take 256 l ++ replicate 256 no_key) (z ∙ sym (replicate-append-replicate 256 256 0))
          ∙ ap (λ (l : List ℕ). l ++ replicate 256 no_key) (take_at (replicate 256 0) (replicate 256 0) 256 (length-replicate {A = ℕ} 256 0));
    }

-- row_put: the table of the items so far becomes that of one more
put-raw : (pl : Places) (x : List ℕ) (is : List Item) (i : Item) → length is < 256 →
    row_put (raw_of [] pl (with_items is) ++ x) (length is) i ≡ raw_of [] pl (with_items (is ++ (i ∷ []))) ++ x
unfolding row_put
put-raw pl x is i h = sym (raw-item [] pl x (omega arith) (with_items is) i refl refl refl h)

module _ (s : List ℕ) (from n place base : ℕ) (t₀ : List ℕ) where
  abbrev answer : Answer (List Item)
  answer = exactly infe_step place n (base + from) [] (drop from s)

  -- what the loop keeps: i items, read from the boxes before `at`, are in the first i rows, and their keys in m
  pub record So (t : List ℕ) (at : ℕ) (b : Keys) (m : List ℕ) (i : ℕ) : Type 0 where
    pub items : List Item
    pub count : length items ≡ i
    pub few : i ≤ n
    pub here : at ≤ length s
    pub same : answer ≡ exactly_from infe_step place base s (n - i) at items
    pub keys : Held (ids_of items) b m
    pub kept : Kept t₀ t
    pub told : (pl : Places) (x : List ℕ) → t₀ ≡ raw_of [] pl unread ++ x → t ≡ raw_of [] pl (with_items items) ++ x

  pub begin : (m₀ m : List ℕ) → m₀ ≡ replicate 512 0 → m ≡ take 256 m₀ ++ replicate 256 no_key → from ≤ length s →
      So t₀ from (record { first = 256; end = 256 }) m 0
  begin m₀ m z q h =
      let e : n ≡ n - 0 = omega arith in
      record {
        items = [];
        count = refl;
        few = omega arith;
        here = h;
        same = ap (λ (k : ℕ). exactly_from infe_step place base s k from []) e;
        keys = held_none m₀ m z q;
        kept = record { same_length = refl; past = refl };
        told = λ pl x e. e;
      }

  -- what the code returns for the items, and leaves in the table and as keys
  abbrev pub Tells : Result ℕ Refusal → List ℕ → List ℕ → Type 0
  Tells r t m = (r ≡ told length answer) × (Stored answer t₀ t × KeysLeft answer m)

  module _ (t : List ℕ) (at : ℕ) (b : Keys) (m : List ℕ) (i : ℕ) (so : So t at b m i) where
    tells_refused : (n q : ℕ) → answer ≡ refuse n q → Tells (Err (record { number = n; place = q })) t m
    unfolding told
    tells_refused n q e = (sym (ap (told length) e), (stored_refused answer t₀ t so.kept n q e, no_keys answer n q e m))

    -- after the last box
    module _ (h : n ≤ i) where
      last : answer ≡ exactly_from infe_step place base s 0 at so.items
      last = let e : n - i ≡ 0 = omega arith in so.same ∙ ap (λ (k : ℕ). exactly_from infe_step place base s k at so.items) e

      pub left_over : at < length s → Tells (Err (record { number = 8; place = place })) t m
      left_over l = tells_refused 8 place (last ∙ exactly-left infe_step place base s at so.items l)

      pub all_read : length s ≤ at → Tells (Ok n) t m
      unfolding told
      all_read l =
          let e : answer ≡ ok so.items = last ∙ exactly-end infe_step place base s at so.items l in
          let k : n ≡ length so.items = omega (arith, so.count, so.few) in (
            ap Ok k ∙ sym (ap (told length) e),
            (
              stored_ok answer t₀ t so.kept so.items e so.told,
              λ is q. subst (λ (l : List Item). Keyed (ids_of l) m) (ok_inj so.items is (sym e ∙ q)) (keys-held _ b m so.keys),
            ),
          )

    -- at one more box
    module _ (h : i < n) (limit : n ≤ 256) (room : 11280 ≤ length t₀) where
      more : answer ≡ exactly_from infe_step place base s (suc (n - (i + 1))) at so.items
      more = let e : n - i ≡ suc (n - (i + 1)) = omega arith in so.same ∙ ap (λ (k : ℕ). exactly_from infe_step place base s k at so.items) e

      pub gone : (r : Refusal) → ((before : List Item) → Held (ids_of before) b m → NextIs s at place base before b (Err r)) → Tells (Err r) t m
      gone r f = tells_refused r.number r.place (more ∙ f so.items so.keys (n - (i + 1)))

      module _ (x : NextItem) (f : (before : List Item) → Held (ids_of before) b m → NextIs s at place base before b (Ok x)) where
        is_next : NextIs s at place base so.items b (Ok x)
        is_next = f so.items so.keys

        ids-many : length (ids_of so.items) ≡ i
        ids-many = length-map so.items _ ∙ so.count

        -- what is asked of its key
        pub its_room : (RoomAt (ids_of so.items) b x.info.id.0 x.info.room) × (length (ids_of so.items) < 256) ×
            ((k : ℕ) → k ≡ key_of x.info.id.0 i → k ≡ key_of x.info.id.0 (length (ids_of so.items)))
        its_room = (is_next.3, omega (arith, ids-many), λ k q. q ∙ ap (λ (r : ℕ). key_of x.info.id.0 r) (sym ids-many))

        pub stored : (u : List ℕ) (c : Keys) (v : List ℕ) → u ≡ row_put t i (item_of x.info) →
            Held (ids_of so.items ++ (x.info.id.0 ∷ [])) c v → So u x.end c v (i + 1)
        stored u c v eu w =
            let g = is_next in
            let j : Item = item_of x.info in
            record {
              items = so.items ++ (j ∷ []);
              count = rw length-append (omega (arith, so.count));
              few = omega arith;
              here = g.1;
              same = more ∙ g.2 (n - (i + 1));
              keys = subst (λ (l : List ℕ). Held l c v) (sym (map-append _ so.items (j ∷ []))) w;
              kept = subst (Kept t₀) (sym eu) (put-kept t i j t₀ (omega arith) so.kept);
              told = λ pl y q.
                  eu
                  ∙ ap (λ (v : List ℕ). row_put v i j) (so.told pl y q)
                  ∙ ap (λ (v : ℕ). row_put (raw_of [] pl (with_items so.items) ++ y) v j) (sym so.count)
                  ∙ put-raw pl y so.items j (omega (arith, so.count));
            }

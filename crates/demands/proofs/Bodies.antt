-- Demands 1 and 2, of the question of a body (document 02, Q-7), for both faces. Assumes nothing.
--   body-means               what is answered of a file that keeps the rules is the item's joined body, or nothing
--   body-decided             answered, and then the file keeps the rules; or refused, and exactly for the reasons that `BodyCall` names
--   body_refused             a refused call leaves the buffer as it was
--   body_same                two calls on one file with any two tables of sufficient length
--   body-good                the answer of a file that keeps the rules
use Prim.Native.Nat.{ℕ, ◌≤◌, ◌<◌}
use native.Mathlib.Omega.{arith}
use native.Mathlib.Decide.{dec_lt}
use mathlib.Core.Path.{◌≡◌, refl, sym, ap, subst, ◌∙◌}
use mathlib.Core.List.{List, [], ◌++◌}
use mathlib.Core.Bool.{Bool, true, false}
use mathlib.Core.Logic.{◌⊎◌, inl, inr}
use lib.ListN.{length, take, drop, replicate, length-replicate}
use lib.Seq.{take-append-le}
use lib.Dec.{eqb}
use borrow.Author.Tests.{le-leb, eqb-true}
use Rattle.fields.specs.Choice.{pick}
use Rattle.fields.proofs.FieldLaws.{both, pick_yes, pick_no}
use Rattle.fields.proofs.TestLaws.{untrue, or_either}
use Rattle.boxes.specs.Answer.{Answer, ok, refuse, ◌>>=◌, ◌>>◌}
use Rattle.boxes.specs.Types.{grid, iovl, iden, coded, derived}
use Rattle.std.specs.Prelude.{Result, Err}
use Rattle.boxes.specs.declared.Refusal.{Refusal}
use Rattle.boxes.proofs.AnswerLaws.{bind_ok, ok_bind, then_ok, check-ok, ok_inj}
use Rattle.contents.specs.Iinf.{Item}
use Rattle.contents.specs.File.{File}
use Rattle.rules.specs.Joined.{row_of, item_at}
use Rattle.rules.specs.Bytes.{chained, body_of}
use Rattle.rules.specs.Bodies.{ItsBody}
use Rattle.rules.specs.Derivations.{recipe_for, tiles_of, layers_of}
use Rattle.rules.specs.Rules.{rule13-30-14, rule17}
use Rattle.rules.specs.Words.{table_words, words_of}
use Rattle.rules.specs.Opening.{after}
use Rattle.rules.proofs.RuleLaws.{Judged, judged-each}
use Rattle.rules.proofs.DerivationLaws.{rule-17-ok}
use Rattle.rules.proofs.ByteLaws.{body-joined, body-long}
use Rattle.views.proofs.LookupLaws.{row_listed}
use Rattle.asked.proofs.PicturedLaws.{row_holds}
use Rattle.bodied.specs.Body.{has_body, body_in, opened_for, body, buffer_after, room_left}
use Rattle.bodied.specs.Told.{told_bodied}
use Rattle.bodied.proofs.RoomLaws.{room-opened, table_opened, short-opened, room-left, left_table, left-cleared}
use Rattle.out.specs.Out.{out_bodied}
use Rattle.still.specs.Given.{BodyGiven}
use Rattle.still_c.specs.Given as C
use Rattle.faults.specs.Good.{GoodFile}
use Rattle.faults.proofs.JudgedLaws.{good-judged}
use Rattle.demands.specs.Call.{IsListed, IsPicture, SizeUnmet}
use Rattle.demands.specs.Outcome.{Outcome}
use Rattle.demands.specs.Outcome as Other
use Rattle.demands.specs.Body.{type_of, GoodBody, BodyCall, no_table, no_room, as_others, BodyOutcome, answered, refused, BodyRefuses, BodyDecided}
use Rattle.demands.proofs.AskedLaws.{pictured-is, pictured-shown, pictured_or, picture_off}
use Rattle.demands.proofs.ToldLaws.{body-told}
use Rattle.demands.proofs.Demand1.{after_same}
use Rattle.demands.proofs.Demand2.{good-opened, good-after}
use Rattle.demands.proofs.OutcomeLaws.{outcome, refuses}

never : {A B : Type 0} (x : A) (n p : ℕ) → ok x ≡ refuse n p → B
never x n p e = let z : ◌≡◌ {A = ℕ} 0 1 = cc in absurd (omega arith)

-- has_body
body_kinds : (type : ℕ) → has_body type ≡ true → (type ≡ grid) ⊎ (type ≡ iovl)
body_kinds type h = by (or_either (eqb type grid) (eqb type iovl) h)
  where
    by : (eqb type grid ≡ true) ⊎ (eqb type iovl ≡ true) → (type ≡ grid) ⊎ (type ≡ iovl)
    by (inl e) = inl (eqb-true type grid e)
    by (inr e) = inr (eqb-true type iovl e)

kinds_body : (type : ℕ) → (type ≡ grid) ⊎ (type ≡ iovl) → has_body type ≡ true
kinds_body type (inl e) = ap has_body e
kinds_body type (inr e) = ap has_body e

kinds_none : (type : ℕ) → (coded type ≡ true) ⊎ (type ≡ iden) → has_body type ≡ false
kinds_none type (inr e) = ap has_body e
kinds_none type (inl c) = by (has_body type) refl
  where
    no_coded : (type ≡ grid) ⊎ (type ≡ iovl) → ⊥
    no_coded (inl e) = untrue (sym (ap coded e) ∙ c)
    no_coded (inr e) = untrue (sym (ap coded e) ∙ c)

    by : (t : Bool) → has_body type ≡ t → t ≡ false
    by true e = absurd (no_coded (body_kinds type e))
    by false e = refl

module _ (total : ℕ) (head : List ℕ) (f : File) where
  -- rule17: an item that it lets pass and that must have a body has one
  body-there : (item : Item) → rule17 total head f item ≡ ok tt → has_body item.type ≡ true → (b : List ℕ) × (body_of total head f item.id ≡ ok b)
  unfolding rule17 recipe_for tiles_of layers_of
  body-there item e h = by (body_kinds item.type h)
    where
      passed : (r : _) × (recipe_for total head f item ≡ ok r)
      passed = let x = bind_ok _ _ tt e in (x.0, rule-17-ok item.id _ x.0 x.1)

      -- a derived item that is no `iden`
      made : derived item.type ≡ true → eqb item.type iden ≡ false →
          pick (eqb item.type grid) (tiles_of total head f item) (layers_of total head f item) ≡ ok passed.0
      made d i = sym (pick_no _ _ i) ∙ (then_ok _ _ _ (sym (pick_yes _ _ d) ∙ passed.1)).2

      by : (item.type ≡ grid) ⊎ (item.type ≡ iovl) → (b : List ℕ) × (body_of total head f item.id ≡ ok b)
      by (inl q) =
          let m = made (ap derived q) (ap (λ (t : ℕ). eqb t iden) q) in
          let x = bind_ok _ _ _ (sym (pick_yes _ _ (ap (λ (t : ℕ). eqb t grid) q)) ∙ m) in (x.0, x.1)
      by (inr q) =
          let m = made (ap derived q) (ap (λ (t : ℕ). eqb t iden) q) in
          let x = bind_ok _ _ _ (sym (pick_no _ _ (ap (λ (t : ℕ). eqb t grid) q)) ∙ m) in (x.0, x.1)

  -- rule13-30-14: the chain of an item that it lets pass is good
  chained-there : (item : Item) → rule13-30-14 total head f item ≡ ok tt → chained 8 f item.id ≡ true
  unfolding rule13-30-14
  chained-there item e =
      let x = then_ok _ _ tt e in
      let y = then_ok _ _ tt x.1 in
      check-ok 30 item.id _ tt y.2

  module _ (good : GoodFile total head f) (id : ℕ) where
    each : Judged total head f
    each = judged-each total head f (good-judged total head f good.no_fault)

    abbrev row : ℕ
    row = row_of id f.items

    -- body_in: refused for what a size is refused for, and for nothing else
    pub body-unmet : (n p : ℕ) → body_in total head f id ≡ refuse n p → SizeUnmet f id n × (p ≡ id)
    unfolding body_in pick
    body-unmet n p e = by (pictured_or f id _ n p e)
      where
        found : IsListed f id → (t : Bool) → has_body (type_of f id) ≡ t →
            pick t (body_of total head f (item_at f row).id) (ok []) ≡ refuse n p → ⊥
        found l true h e =
            let x = body-there (item_at f row) (each.by-17 row (row_listed f.items id l)) h in
            never x.0 n p (sym x.1 ∙ e)
        found l false h e = never [] n p e

        by : (SizeUnmet f id n × (p ≡ id)) ⊎ (IsPicture f id ×
            (pick (has_body (type_of f id)) (body_of total head f (item_at f row).id) (ok []) ≡ refuse n p)) → SizeUnmet f id n × (p ≡ id)
        by (inl x) = x
        by (inr x) = absurd (found x.0.0 (has_body (type_of f id)) refl x.1)

    -- what is answered
    pub body_means : (b : List ℕ) → body_in total head f id ≡ ok b → GoodBody total head f id b
    unfolding body_in
    body_means b e =
        record {
          picture = shown;
          few = both (λ (m : Answer (List ℕ)). m ≡ ok b → length b ≤ 16402) (has_body (type_of f id)) _ _
              (λ t q. (body-long total head f (item_at f row).id b q).1)
              (λ t q. let z = ap length (ok_inj _ _ q) in omega arith) asked;
          joined = λ k. whole (sym (pick_yes _ _ (kinds_body (type_of f id) k)) ∙ asked);
          none = λ k. sym (ok_inj _ _ (sym (pick_no _ _ (kinds_none (type_of f id) k)) ∙ asked));
        }
      where
        shown : IsPicture f id
        shown = let x = bind_ok _ _ b e in pictured-shown f id x.0 x.1

        asked : pick (has_body (type_of f id)) (body_of total head f (item_at f row).id) (ok []) ≡ ok b
        asked = sym (ok_bind _ _ row (pictured-is f id shown)) ∙ e

        holds : (item_at f row).id ≡ id
        holds = row_holds f.items id shown.0

        whole : body_of total head f (item_at f row).id ≡ ok b → ItsBody total head f id b
        whole q =
            let c = chained-there (item_at f row) (each.by-13-30-14 row (row_listed f.items id shown.0)) in
            subst (λ (i : ℕ). ItsBody total head f i b) holds ((body-joined total head f (item_at f row).id b c).0 q)

  pub body_off : (id n p : ℕ) → SizeUnmet f id n × (p ≡ id) → body_in total head f id ≡ refuse n p
  unfolding body_in
  body_off id n p u = picture_off f id _ n p u.0 u.1

-- as for every other question, or 1, or 31
module _ (head : List ℕ) (total : ℕ) (table : List ℕ) (room id : ℕ) where
  -- body: what is opened, then what is asked of it
  abbrev body_by : Answer File → Answer (List ℕ)
  body_by o = o >>= (λ f. body_in total head f id)

  body-by : body (length table) room total head id ≡ body_by (opened_for (length table) room total head id)
  unfolding body
  body-by = refl

  -- demand 1
  module _ {B : Type 0} (told : Answer (List ℕ) → B) (r : B) (left : List ℕ) (given : r ≡ told (body (length table) room total head id))
      (is : left ≡ room_left after room total head table) where
    opens : (o : Answer File) → opened_for (length table) room total head id ≡ o → r ≡ told (body_by o)
    opens o e = given ∙ ap told (body-by ∙ ap body_by e)

    body_outcome : BodyOutcome head total table room id told r left
    unfolding ◌>>=◌
    body_outcome = by (dec_lt room 16402) (dec_lt (length table) 11280)
      where
        others : 16402 ≤ room → Outcome head total table (λ f. body_in total head f id) told (λ f n p. SizeUnmet f id n × (p ≡ id)) r left →
            BodyOutcome head total table room id told r left
        others h (Other.answered enough f g b e q w) = answered enough h f g b e q w
        others h (Other.refused n p e c) = refused n p e (as_others h c)

        by : Dec (room < 16402) → Dec (length table < 11280) → BodyOutcome head total table room id told r left
        by (yes k) (yes l) = refused 1 0 (opens _ (table_opened head total table room id l)) (no_table l refl refl (is ∙ left_table head total table room id l))
        by (yes k) (no l) =
            let h : 11280 ≤ length table = omega arith in
            refused 31 id (opens _ (short-opened head total table room id h k)) (no_room h k refl refl (is ∙ left-cleared head total table room id h k))
        by (no k) l =
            let h : 16402 ≤ room = omega arith in
            others h (outcome head total table left (is ∙ room-left head total table room id after h) (λ f. body_in total head f id) told
            (λ f n p. SizeUnmet f id n × (p ≡ id)) r (opens _ (room-opened head total table room id h)) (λ f g. body-unmet total head f g id))

    body-refuses : BodyRefuses head total table room id told r left
    unfolding ◌>>=◌
    body-refuses n p words (no_table l i j k) = (
      opens _ (table_opened head total table room id l) ∙ ap told (ap (λ (m : ℕ). refuse m 0) (sym i) ∙ ap (refuse n) (sym j)),
      is ∙ left_table head total table room id l ∙ sym k,
    )
    body-refuses n p words (no_room h k i j w) = (
      opens _ (short-opened head total table room id h k) ∙ ap told (ap (λ (m : ℕ). refuse m id) (sym i) ∙ ap (refuse n) (sym j)),
      is ∙ left-cleared head total table room id h k ∙ sym w,
    )
    body-refuses n p words (as_others h c) =
        refuses head total table left (is ∙ room-left head total table room id after h) (λ f. body_in total head f id) told
        (λ f n p. SizeUnmet f id n × (p ≡ id)) r (opens _ (room-opened head total table room id h)) (λ f. body_off total head f id) n p words c

    pub body_decides : BodyDecided head total table room id told r left
    body_decides = (body_outcome, body-refuses)

  -- a refusal has one of the reasons
  body_call : (left : List ℕ) (n p : ℕ) → left ≡ room_left after room total head table → body (length table) room total head id ≡ refuse n p →
      BodyCall head total table room id n p left
  body_call left n p is e = by (body_outcome (λ m. m) (refuse n p) left (sym e) is)
    where
      by : BodyOutcome head total table room id (λ m. m) (refuse n p) left → BodyCall head total table room id n p left
      by (answered enough h f g b q r w) = let z : ◌≡◌ {A = ℕ} 0 1 = cc in absurd (omega arith)
      by (refused i j q c) =
          let x : i ≡ n = cc in
          let y : j ≡ p = cc in
          subst (λ (j : ℕ). BodyCall head total table room id n j left) y (subst (λ (i : ℕ). BodyCall head total table room id i j left) x c)

-- the answer with the buffer, of both faces
module _ (head : List ℕ) (total : ℕ) (table : List ℕ) (id : ℕ) (buffer : List ℕ) where
  pub body_decided : (r : Result ℕ Refusal) (buffer-left left : List ℕ) → BodyGiven head total table id buffer r buffer-left left →
      BodyDecided head total table (length buffer) id {B = Result ℕ Refusal × List ℕ} (λ m. (told_bodied m, buffer_after m buffer)) (r, buffer-left) left
  body_decided r buffer-left left g = body_decides head total table (length buffer) id
      (λ m. (told_bodied m, buffer_after m buffer)) (r, buffer-left) left (rw (g.0, g.1.0)) g.1.1

  pub face_body_decided : (r written left : List ℕ) → C.BodyGiven head total table id buffer r written left →
      BodyDecided head total table (length buffer) id {B = List ℕ × List ℕ} (λ m. (out_bodied m, buffer_after m buffer)) (r, written) left
  face_body_decided r written left g = body_decides head total table (length buffer) id
      (λ m. (out_bodied m, buffer_after m buffer)) (r, written) left (rw (g.0, g.1)) g.2

  -- the buffer is as it was
  pub body_refused : (y : Refusal) (buffer-left left : List ℕ) → BodyGiven head total table id buffer (Err y) buffer-left left →
      BodyCall head total table (length buffer) id y.number y.place left × (buffer-left ≡ buffer)
  unfolding buffer_after
  body_refused y buffer-left left g =
      let e = body-told (body (length table) (length buffer) total head id) y (sym g.0) in
      (body_call head total table (length buffer) id left _ _ g.1.1 e, g.1.0 ∙ ap (λ (m : Answer (List ℕ)). buffer_after m buffer) e)

  -- demand 2
  module _ (enough : 11280 ≤ length table) (f : File) (good : GoodFile total head f) (wide : 16402 ≤ length buffer) where
    good-body : body (length table) (length buffer) total head id ≡ body_in total head f id
    unfolding body ◌>>=◌
    good-body = ap (λ (o : Answer File). o >>= (λ f. body_in total head f id))
        (room-opened head total table (length buffer) id wide ∙ good-opened head total table enough f good)

    pub body-good : (r : Result ℕ Refusal) (buffer-left left : List ℕ) → BodyGiven head total table id buffer r buffer-left left →
        (r ≡ told_bodied (body_in total head f id)) × ((buffer-left ≡ buffer_after (body_in total head f id) buffer) ×
        (left ≡ words_of total head f ++ drop 11280 table))
    body-good r buffer-left left g = (
      g.0 ∙ ap told_bodied good-body,
      (
        g.1.0 ∙ ap (λ (m : Answer (List ℕ)). buffer_after m buffer) good-body,
        g.1.1 ∙ room-left head total table (length buffer) id after wide ∙ good-after head total table enough f good,
      ),
    )

-- Nothing left in the table by an earlier file can be seen.
module _ (head : List ℕ) (total : ℕ) (t u : List ℕ) (enough : 11280 ≤ length t) (enough-too : 11280 ≤ length u) (id : ℕ) (buffer : List ℕ) where
  body-asked : body (length t) (length buffer) total head id ≡ body (length u) (length buffer) total head id
  unfolding body opened_for
  body-asked = rw (le-leb table_words (length t) enough, le-leb table_words (length u) enough-too)

  left_alike : (a b : List ℕ) → a ≡ room_left after (length buffer) total head t → b ≡ room_left after (length buffer) total head u →
      take 11280 a ≡ take 11280 b
  left_alike a b x y = by (dec_lt (length buffer) 16402)
    where
      zeros : (v : List ℕ) → take 11280 (replicate 11280 0 ++ drop 11280 v) ≡ take 11280 (replicate 11280 0)
      zeros v = take-append-le 11280 (replicate 11280 0) (drop 11280 v)
          (let z = length-replicate {A = ℕ} 11280 0 in omega arith)

      by : Dec (length buffer < 16402) → take 11280 a ≡ take 11280 b
      by (yes k) =
          ap (take 11280) (x ∙ left-cleared head total t (length buffer) id enough k) ∙ zeros t ∙
          sym (ap (take 11280) (y ∙ left-cleared head total u (length buffer) id enough-too k) ∙ zeros u)
      by (no k) =
          let h : 16402 ≤ length buffer = omega arith in
          after_same head total t u enough enough-too a b (x ∙ room-left head total t (length buffer) id after h)
          (y ∙ room-left head total u (length buffer) id after h)

  pub body_same : (r s : Result ℕ Refusal) (l m a b : List ℕ) → BodyGiven head total t id buffer r l a → BodyGiven head total u id buffer s m b →
      (r ≡ s) × ((l ≡ m) × (take 11280 a ≡ take 11280 b))
  body_same r s l m a b x y = (
    x.0 ∙ ap told_bodied body-asked ∙ sym y.0,
    (x.1.0 ∙ ap (λ (n : Answer (List ℕ)). buffer_after n buffer) body-asked ∙ sym y.1.0, left_alike a b x.1.1 y.1.1),
  )

  pub face_body-same : (r s l m a b : List ℕ) → C.BodyGiven head total t id buffer r l a → C.BodyGiven head total u id buffer s m b →
      (r ≡ s) × ((l ≡ m) × (take 11280 a ≡ take 11280 b))
  face_body-same r s l m a b x y = (
    x.0 ∙ ap out_bodied body-asked ∙ sym y.0,
    (x.1 ∙ ap (λ (n : Answer (List ℕ)). buffer_after n buffer) body-asked ∙ sym y.1, left_alike a b x.2 y.2),
  )

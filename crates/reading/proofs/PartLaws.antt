-- The contents of `meta`, part by part. Assumes nothing.
use Prim.Native.Nat.{ℕ}
use native.Mathlib.Omega.{arith}
use mathlib.Core.Path.{◌≡◌, refl, ◌∙◌}
use mathlib.Core.List.{List, [], ◌∷◌}
use mathlib.Core.Bool.{true, false}
use mathlib.Core.Logic.{◌⊎◌, inl, inr}
use lib.ListN.{get_or}
use Rattle.boxes.specs.Answer.{Answer, ok, refuse, ◌>>=◌}
use Rattle.boxes.specs.Types.{hdlr, pitm, iinf, iloc, iprp, known}
use Rattle.boxes.specs.Children.{of_kind, filled, children, the_one, first_or}
use Rattle.boxes.proofs.AnswerLaws.{ok_bind}
use Rattle.contents.specs.File.{contents_of}
use Rattle.rules.specs.Places.{first_of}
use Rattle.reading.specs.inner.Parts.{Has, Five, from_handler, from_items, from_locations, from_shown, from_references}

-- the_one
the_one_lem : (p k : ℕ) (bs : List (List ℕ)) → Has k bs → the_one p k bs ≡ ok (first_of k bs)
unfolding first_or
the_one_lem p k bs h = go (of_kind k bs) h
  where
    go : (l : List (List ℕ)) → filled l ≡ true → first_or p l ≡ ok (get_or l 0 [])
    go [] e = let z : ◌≡◌ {A = ℕ} 0 1 = cc in absurd (omega arith)
    go (b ∷ l) e = refl

not-one : (p k : ℕ) (bs : List (List ℕ)) → filled (of_kind k bs) ≡ false → the_one p k bs ≡ refuse 7 p
unfolding first_or
not-one p k bs h = go (of_kind k bs) h
  where
    go : (l : List (List ℕ)) → filled l ≡ false → first_or p l ≡ refuse 7 p
    go [] e = refl
    go (b ∷ l) e = let z : ◌≡◌ {A = ℕ} 0 1 = cc in absurd (omega arith)

module _ (p at : ℕ) (s : List ℕ) where
  -- contents_of
  pub contents_refused : (n q : ℕ) → children known p at s ≡ refuse n q → contents_of p at s ≡ refuse n q
  unfolding contents_of ◌>>=◌
  contents_refused n q e = rw e

  module _ (bs : List (List ℕ)) (e : children known p at s ≡ ok bs) where
    pub contents_parts : Five bs → contents_of p at s ≡ from_handler at bs
    unfolding contents_of from_handler from_items from_locations from_shown from_references
    contents_parts f =
        ok_bind _ _ bs e
        ∙ ok_bind _ _ _ (the_one_lem p hdlr bs f.has_hdlr)
        ∙ ok_bind _ _ _ (the_one_lem p pitm bs f.has_pitm)
        ∙ ok_bind _ _ _ (the_one_lem p iloc bs f.has_iloc)
        ∙ ok_bind _ _ _ (the_one_lem p iinf bs f.has_iinf)
        ∙ ok_bind _ _ _ (the_one_lem p iprp bs f.has_iprp)

    none : {A : Type 0} (k : ℕ) (g : List ℕ → Answer A) → filled (of_kind k bs) ≡ false → (the_one p k bs >>= g) ≡ refuse 7 p
    unfolding ◌>>=◌
    none k g h = rw (not-one p k bs h)

    -- one of the five after those before it
    step : {A : Type 0} (k : ℕ) (g : List ℕ → Answer A) → ((b : List ℕ) → g b ≡ refuse 7 p) → (the_one p k bs >>= g) ≡ refuse 7 p
    unfolding ◌>>=◌ first_or
    step k g h = go (of_kind k bs)
      where
        go : (l : List (List ℕ)) → (first_or p l >>= g) ≡ refuse 7 p
        go [] = refl
        go (b ∷ l) = h b

    pub contents_missing : (k : ℕ) → (k ≡ hdlr) ⊎ ((k ≡ pitm) ⊎ ((k ≡ iloc) ⊎ ((k ≡ iinf) ⊎ (k ≡ iprp)))) →
        filled (of_kind k bs) ≡ false → contents_of p at s ≡ refuse 7 p
    unfolding contents_of
    contents_missing k (inl q) h = ok_bind _ _ bs e ∙ none hdlr _ (rw (← q) h)
    contents_missing k (inr (inl q)) h = ok_bind _ _ bs e ∙ step hdlr _ (λ b. none pitm _ (rw (← q) h))
    contents_missing k (inr (inr (inl q))) h = ok_bind _ _ bs e ∙ step hdlr _ (λ b. step pitm _ (λ c. none iloc _ (rw (← q) h)))
    contents_missing k (inr (inr (inr (inl q)))) h = ok_bind _ _ bs e ∙ step hdlr _ (λ b. step pitm _ (λ c. step iloc _ (λ d. none iinf _ (rw (← q) h))))
    contents_missing k (inr (inr (inr (inr q)))) h = ok_bind _ _ bs e ∙
        step hdlr _ (λ b. step pitm _ (λ c. step iloc _ (λ d. step iinf _ (λ r. none iprp _ (rw (← q) h)))))

-- Document 01's own file of 369 bytes: "`jpeg` item 1 of 640 × 480, `iden` item 2 of it with `irot` 1, primary 2: `ftyp`
-- 20 bytes, `meta` 241, `mdat` 108; one `ispe` shared".
--   own     its bytes, box by box
use Rattle.std.specs.Prelude.{ℕ, zero, suc, List, [], ◌∷◌, ◌++◌}

abbrev ftyp : List ℕ
ftyp =
    0 ∷ 0 ∷ 0 ∷ 20 ∷ 102 ∷ 116 ∷ 121 ∷ 112 ∷ 109 ∷ 105 ∷ 102 ∷ 49 ∷ 0 ∷ 0 ∷ 0 ∷ 0 ∷ 109 ∷ 105 ∷ 102 ∷ 49 ∷ []

abbrev hdlr : List ℕ
hdlr =
    0 ∷ 0 ∷ 0 ∷ 33 ∷ 104 ∷ 100 ∷ 108 ∷ 114 ∷ 0 ∷ 0 ∷ 0 ∷ 0 ∷ 0 ∷ 0 ∷ 0 ∷ 0 ∷ 112 ∷ 105 ∷ 99 ∷ 116 ∷ 0 ∷ 0 ∷ 0 ∷ 0 ∷
    0 ∷ 0 ∷ 0 ∷ 0 ∷ 0 ∷ 0 ∷ 0 ∷ 0 ∷ 0 ∷ []

abbrev pitm : List ℕ
pitm =
    0 ∷ 0 ∷ 0 ∷ 14 ∷ 112 ∷ 105 ∷ 116 ∷ 109 ∷ 0 ∷ 0 ∷ 0 ∷ 0 ∷ 0 ∷ 2 ∷ []

abbrev iloc : List ℕ
iloc =
    0 ∷ 0 ∷ 0 ∷ 30 ∷ 105 ∷ 108 ∷ 111 ∷ 99 ∷ 0 ∷ 0 ∷ 0 ∷ 0 ∷ 68 ∷ 0 ∷ 0 ∷ 1 ∷ 0 ∷ 1 ∷ 0 ∷ 0 ∷ 0 ∷ 1 ∷ 0 ∷ 0 ∷ 1 ∷
    13 ∷ 0 ∷ 0 ∷ 0 ∷ 100 ∷ []

abbrev iinf : List ℕ
iinf =
    0 ∷ 0 ∷ 0 ∷ 56 ∷ 105 ∷ 105 ∷ 110 ∷ 102 ∷ 0 ∷ 0 ∷ 0 ∷ 0 ∷ 0 ∷ 2 ∷ 0 ∷ 0 ∷ 0 ∷ 21 ∷ 105 ∷ 110 ∷ 102 ∷ 101 ∷ 2 ∷
    0 ∷ 0 ∷ 0 ∷ 0 ∷ 1 ∷ 0 ∷ 0 ∷ 106 ∷ 112 ∷ 101 ∷ 103 ∷ 0 ∷ 0 ∷ 0 ∷ 0 ∷ 21 ∷ 105 ∷ 110 ∷ 102 ∷ 101 ∷ 2 ∷ 0 ∷ 0 ∷
    0 ∷ 0 ∷ 2 ∷ 0 ∷ 0 ∷ 105 ∷ 100 ∷ 101 ∷ 110 ∷ 0 ∷ []

abbrev iprp : List ℕ
iprp =
    0 ∷ 0 ∷ 0 ∷ 70 ∷ 105 ∷ 112 ∷ 114 ∷ 112 ∷ 0 ∷ 0 ∷ 0 ∷ 37 ∷ 105 ∷ 112 ∷ 99 ∷ 111 ∷ 0 ∷ 0 ∷ 0 ∷ 20 ∷ 105 ∷ 115 ∷
    112 ∷ 101 ∷ 0 ∷ 0 ∷ 0 ∷ 0 ∷ 0 ∷ 0 ∷ 2 ∷ 128 ∷ 0 ∷ 0 ∷ 1 ∷ 224 ∷ 0 ∷ 0 ∷ 0 ∷ 9 ∷ 105 ∷ 114 ∷ 111 ∷ 116 ∷ 1 ∷ 0 ∷
    0 ∷ 0 ∷ 25 ∷ 105 ∷ 112 ∷ 109 ∷ 97 ∷ 0 ∷ 0 ∷ 0 ∷ 0 ∷ 0 ∷ 0 ∷ 0 ∷ 2 ∷ 0 ∷ 1 ∷ 1 ∷ 1 ∷ 0 ∷ 2 ∷ 2 ∷ 1 ∷ 130 ∷ []

abbrev iref : List ℕ
iref =
    0 ∷ 0 ∷ 0 ∷ 26 ∷ 105 ∷ 114 ∷ 101 ∷ 102 ∷ 0 ∷ 0 ∷ 0 ∷ 0 ∷ 0 ∷ 0 ∷ 0 ∷ 14 ∷ 100 ∷ 105 ∷ 109 ∷ 103 ∷ 0 ∷ 2 ∷ 0 ∷
    1 ∷ 0 ∷ 1 ∷ []

-- k, k + 1, .. , n of them
abbrev up_from : ℕ → ℕ → List ℕ
up_from zero k = []
up_from (suc n) k = k ∷ up_from n (suc k)

abbrev mdat : List ℕ
mdat = (0 ∷ 0 ∷ 0 ∷ 108 ∷ 109 ∷ 100 ∷ 97 ∷ 116 ∷ []) ++ up_from 100 0

abbrev pub own : List ℕ
own = ftyp ++ ((0 ∷ 0 ∷ 0 ∷ 241 ∷ 109 ∷ 101 ∷ 116 ∷ 97 ∷ 0 ∷ 0 ∷ 0 ∷ 0 ∷ []) ++ (hdlr ++ (pitm ++ (iloc ++ (iinf ++ (iprp ++ (iref))))) ++ mdat))

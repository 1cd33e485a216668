-- From level to level.
use Rattle.std.proofs.Common.{◌≡◌, ℕ, zero, suc, ◌+◌, ◌<◌, ◌≤◌, List, [], ◌∷◌, ◌++◌, length, get_or, drop, refl, sym, ap, ap₂, ◌∙◌, arith, subst, append_assoc}
use Rattle.std.proofs.lemmas.List.{drop_more, append-nil}
use Rattle.scad_geom.specs.declared.level.Level.{Level}
use Rattle.scad_geom.specs.declared.level.LeafEdge.{LeafEdge}
use Rattle.scad_geom.specs.declared.shape.Shape.{Shape}
use Rattle.slice_pieces.specs.declared.piece.Piece.{Piece}
use Rattle.slice_border.specs.Pieces.{AreLevelPieces}
use Rattle.slice_bool.specs.Parts.{AreOnLevel, Extends, AreBetweenLevels, AreUpToNext}

-- ---- the pieces of a level

past : (ls : List Level) (i : ℕ) → length ls ≤ i → drop i ls ≡ []
past [] zero h = refl
past [] (suc i) h = refl
past (l ∷ ls) zero h = absurd (omega arith)
past (l ∷ ls) (suc i) h = past ls i (omega arith)

-- on the last level
pub last_level : (es : List LeafEdge) (shape : Shape) (ls : List Level) (i : ℕ) (d : Level) (old new : List Piece)
    → i < length ls → length ls ≤ i + 1
    → Extends (AreOnLevel es shape (get_or ls i d)) old new → Extends (AreUpToNext es shape (drop i ls)) old new
last_level es shape ls i d old new h k a =
    let e : drop i ls ≡ get_or ls i d ∷ [] = drop_more ls i d h ∙ ap (λ (r : List Level). get_or ls i d ∷ r)
    (past ls (i + 1) k) in
    subst (λ (ls : List Level). Extends (AreUpToNext es shape ls) old new) (sym e) a

-- on one with a next
pub next_level : (es : List LeafEdge) (shape : Shape) (ls : List Level) (i : ℕ) (d e : Level)
    (old mid new : List Piece)
    → i + 1 < length ls
    → Extends (AreOnLevel es shape (get_or ls i d)) old mid
    → Extends (AreBetweenLevels es shape (get_or ls i d) (get_or ls (i + 1) e)) mid new
    → Extends (AreUpToNext es shape (drop i ls)) old new
next_level es shape ls i d e old mid new h a b =
    let f : drop i ls ≡ get_or ls i d ∷ (get_or ls (i + 1) e ∷ drop (i + 1 + 1) ls) = drop_more ls i d (omega arith) ∙
    ap (λ (r : List Level). get_or ls i d ∷ r) (drop_more ls (i + 1) e h) in
    subst (λ (ls : List Level). Extends (AreUpToNext es shape ls) old new) (sym f) (
      a.0 ++ b.0,
      (a.0, b.0, a.1, b.1, refl),
      b.2 ∙ ap (λ (qs : List Piece). qs ++ b.0) a.2
          ∙ append_assoc old a.0 b.0,
    )

-- ---- all levels
-- the pieces so far, with those of the levels to come, are those of all levels
abbrev pub Goes : List LeafEdge → Shape → List Level → List Level → List Piece → Type 0
Goes es shape ls next out = (rest : List Piece) → AreLevelPieces es shape next rest
    → AreLevelPieces es shape ls (out ++ rest)

pub starts : (es : List LeafEdge) (shape : Shape) (ls : List Level) → Goes es shape ls ls []
starts es shape ls rest a = a

one_level : (es : List LeafEdge) (shape : Shape) (l : Level) (next : List Level) (old new : List Piece)
    → Extends (AreUpToNext es shape (l ∷ next)) old new
    → (rest : List Piece) → AreLevelPieces es shape next rest
    → (more : List Piece) × AreLevelPieces es shape (l ∷ next)
    more × (new ++ rest ≡ old ++ more)
one_level es shape l [] old new a rest r = (a.0, a.1, ap (λ (qs : List Piece). new ++ qs) r ∙ append-nil new ∙ a.2)
one_level es shape l (u ∷ next) old new a rest r =
    let parts = a.1 in
    let flats : List Piece = parts.0 in
    let slabs : List Piece = parts.1 in
    let on : AreOnLevel es shape l flats = parts.2 in
    let between : AreBetweenLevels es shape l u slabs = parts.3 in
    let is : a.0 ≡ flats ++ slabs = parts.4 in (
      a.0 ++ rest,
      (
        on.0,
        between.0,
        rest,
        on.1,
        between.1,
        r,
        ap (λ (qs : List Piece). qs ++ rest) (is ∙ ap₂ (λ (qs rs : List Piece). qs ++ rs) on.2 between.2),
      ),
      ap (λ (qs : List Piece). qs ++ rest) a.2 ∙ append_assoc old a.0 rest,
    )

pub goes_on : (es : List LeafEdge) (shape : Shape) (ls : List Level) (i : ℕ) (old new : List Piece) → i < length ls
    → Goes es shape ls (drop i ls) old → Extends (AreUpToNext es shape (drop i ls)) old new
    → Goes es shape ls (drop (i + 1) ls) new
goes_on es shape [] i old new h g a rest r = absurd (omega arith)
goes_on es shape (l ∷ ls) i old new h g a rest r =
    let d : drop i (l ∷ ls) ≡ get_or (l ∷ ls) i l ∷ drop (i + 1) (l ∷ ls) = drop_more (l ∷ ls) i l h in
    let m = one_level es shape (get_or (l ∷ ls) i l) (drop (i + 1) (l ∷ ls)) old new
    (subst (λ (ks : List Level). Extends (AreUpToNext es shape ks) old new) d a) rest r in
    subst (AreLevelPieces es shape (l ∷ ls)) (sym m.2)
    (g m.0 (subst (λ (ks : List Level). AreLevelPieces es shape ks m.0) (sym d) m.1))

pub ends : (es : List LeafEdge) (shape : Shape) (ls : List Level) (i : ℕ) (out : List Piece) → length ls ≤ i
    → Goes es shape ls (drop i ls) out → AreLevelPieces es shape ls out
ends es shape ls i out h g =
    let e : drop i ls ≡ [] = past ls i h in
    subst (AreLevelPieces es shape ls) (append-nil out)
    (g [] (subst (λ (ks : List Level). AreLevelPieces es shape ks []) (sym e) refl))

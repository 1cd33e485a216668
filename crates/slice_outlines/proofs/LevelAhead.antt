-- What lies ahead of a place of a height, from the marks that are taken above it.
use Rattle.std.proofs.Common.{◌≡◌, ℕ, suc, ◌+◌, ◌≤◌, List, [], ◌∷◌, ◌++◌, map, length, drop, refl, sym, ap, ◌∙◌, subst, arith}
use Rattle.std.specs.List.{AllByRecursion}
use Rattle.std.proofs.lemmas.List.{drop-drop, drop_at, length-map, length-append}
use Rattle.scad_geom.specs.declared.level.Level.{Level}
use Rattle.scad_geom.specs.declared.level.LeafEdge.{LeafEdge}
use Rattle.scad_geom.proofs.Order.{front, back}
use Rattle.slice_bundles.specs.Bundles.{edge_at}
use Rattle.slice_pieces.specs.declared.piece.Spot.{Spot}
use Rattle.slice_border.specs.Pieces.{spot_on}
use Rattle.slice_sweep.specs.declared.change.Change.{Change}
use Rattle.slice_sweep.specs.Changes.{Group, all_below, all_above, all_at, staying}
use Rattle.sweep_laws.specs.Staying.{spot_of}
use Rattle.slice_outlines.specs.declared.mark.Mark.{Mark}
use Rattle.slice_outlines.specs.declared.run.Run.{Run}
use Rattle.slice_outlines.specs.declared.height.Height.{Height}
use Rattle.slice_outlines.specs.Marks.{spot_at, IsNamed}
use Rattle.slice_outlines.specs.Above.{new_mark, AreTaken}
use Rattle.slice_outlines.specs.Above.AreTaken.{none as taken_none, stays as taken_stays, changes as taken_changes}
use Rattle.slice_outlines.specs.declared.groups.Passed.{Passed}
use Rattle.slice_outlines.specs.Ahead.{first_spot, IsSameSpot, AreMarksAt, LieAhead, IsBehind, AreBetween}
use Rattle.slice_outlines.specs.Ahead.LieAhead.{none as no_more, stays as one_stays, changes as one_changes}
use Rattle.slice_outlines.proofs.Placing.{AreNamed, all_append}

-- bundles of a group meet the height where it does, and some are there
pub record IsMet (h : Height) (g : Group) : Type 0 where
  pub some : all_at g ≡ [] → ⊥
  pub at : AllByRecursion (λ b. IsSameSpot (spot_of h.edges.now h.at.now b)
      (first_spot h.edges.now h.at.now (all_at g))) (all_at g)

-- ---- marks of bundles
pub mark_spot : (es : List LeafEdge) (l : Level) (m : Mark) (b : List ℕ) → IsNamed m.name b
    → spot_of es l b ≡ spot_at es l m
mark_spot es l m [] h = absurd h
mark_spot es l m (k ∷ ks) h = ap (λ (j : ℕ). spot_on (edge_at es j) l) (sym h)

marks_by : (h : Height) (s : Spot) (ms : List Mark) (bs : List (List ℕ)) → AreNamed ms bs
    → AllByRecursion (λ b. IsSameSpot (spot_of h.edges.now h.at.now b) s) bs
    → AllByRecursion (λ m. IsSameSpot (spot_at h.edges.now h.at.now m) s) ms
marks_by h s [] [] z a = tt
marks_by h s [] (b ∷ bs) z a = absurd z
marks_by h s (m ∷ ms) [] z a = absurd z
marks_by h s (m ∷ ms) (b ∷ bs) z a = (
  subst (λ (t : Spot). IsSameSpot t s) (mark_spot h.edges.now h.at.now m b z.0) a.0,
  marks_by h s ms bs z.1 a.1,
)

pub zip_front : (ms ns : List Mark) (bs cs : List (List ℕ)) → length ms ≡ length bs → AreNamed (ms ++ ns) (bs ++ cs)
    → AreNamed ms bs × AreNamed ns cs
zip_front [] ns [] cs e z = (tt, z)
zip_front [] ns (b ∷ bs) cs e z = absurd (omega (arith, e))
zip_front (m ∷ ms) ns [] cs e z = absurd (omega (arith, e))
zip_front (m ∷ ms) ns (b ∷ bs) cs e z =
    let rest = zip_front ms ns bs cs (omega (arith, e)) z.1 in
    ((z.0, rest.0), rest.1)

some_by : (gone : List Mark) (bs cs : List (List ℕ)) → length gone ≡ length bs → (bs ++ cs ≡ [] → ⊥)
    → gone ++ map new_mark cs ≡ [] → ⊥
some_by [] [] [] e h q = h refl
some_by [] [] (c ∷ cs) e h q = absurd (omega (arith, ap length q))
some_by [] (b ∷ bs) cs e h q = absurd (omega (arith, e))
some_by (m ∷ ms) bs cs e h q = absurd (omega (arith, ap length q))

-- ---- some of the groups
pub record IsAhead (h : Height) (n : ℕ) (cs : List Change) (left right : List Group) (lower upper : List Mark)
    : Type 0 where
  pub rest : List Change
  pub ahead : LieAhead h rest n cs left lower upper
  pub later : AreTaken (n + length (all_above left)) rest right (drop (length (all_below left)) lower)
      (drop (length (all_above left)) upper)

one_ahead : (h : Height) (n : ℕ) (cs : List Change) (b : List ℕ) (left right : List Group) (x : Mark)
    (lower upper : List Mark) → IsAhead h (n + 1) cs left right lower upper
    → IsAhead h n cs (staying b ∷ left) right (x ∷ lower) (x ∷ upper)
one_ahead h n cs b left right x lower upper a =
    let k : n + 1 + length (all_above left) ≡ n + suc (length (all_above left)) = omega arith in
    record {
      rest = a.rest;
      ahead = one_stays n cs b left x lower upper a.ahead;
      later = subst (λ (i : ℕ). AreTaken i a.rest right (drop (length (all_below left)) lower)
          (drop (length (all_above left)) upper)) k a.later;
    }

-- of the groups of a height those on the left lie ahead
pub ahead_by : (h : Height) (n : ℕ) (cs : List Change) (left right : List Group) (lower upper : List Mark)
    → AreTaken n cs (left ++ right) lower upper → AreNamed lower (all_below (left ++ right))
    → AreNamed upper (all_above (left ++ right)) → AllByRecursion (IsMet h) left
    → IsAhead h n cs left right lower upper
ahead_by h n cs [] right lower upper t z y a =
    let e : n ≡ n + 0 = omega arith in
    record {
      rest = cs;
      ahead = no_more n lower upper;
      later = subst (λ (i : ℕ). AreTaken i cs right lower upper) e t;
    }
ahead_by h n cs (g ∷ left) right lower upper (taken_stays m ds b gs x ms ns t) z y a =
    one_ahead h n cs b left right x ms ns (ahead_by h (n + 1) cs left right ms ns t z.1 y.1 a.1)
ahead_by h n cs (g ∷ left) right lower upper (taken_changes c ds f gs gone ms ns p q r t) z y a =
    let size : length gone ≡ length g.below = p ∙ sym q in
    let come : List Mark = map new_mark g.above in
    let coming : length come ≡ length g.above = length-map g.above new_mark in
    let low = zip_front gone ms g.below (all_below (left ++ right)) size z in
    let up = zip_front come ns g.above (all_above (left ++ right)) coming y in
    let s : Spot = first_spot h.edges.now h.at.now (all_at g) in
    let P : List ℕ → Type 0 = λ b. IsSameSpot (spot_of h.edges.now h.at.now b) s in
    let next : IsAhead h (c.from + c.come) ds left right ms ns =
    ahead_by h (c.from + c.come) ds left right ms ns t low.1 up.1 a.1 in
    let at : AreMarksAt h g (gone ++ come) =
    all_append (λ m. IsSameSpot (spot_at h.edges.now h.at.now m) s) gone come
    (marks_by h s gone g.below low.0 (front P g.below g.above a.0.at))
    (marks_by h s come g.above up.0 (back P g.below g.above a.0.at)) in
    let i : ℕ = length (all_below left) in
    let j : ℕ = length (all_above left) in
    let place : c.from + c.come + j ≡ c.from + length (g.above ++ all_above left) =
    omega (arith, r, length-append g.above (all_above left)) in
    let below : drop i ms ≡ drop (length (g.below ++ all_below left)) (gone ++ ms) =
    ap (drop i) (sym (drop_at gone ms (length g.below) size)) ∙ drop-drop i (length g.below) (gone ++ ms)
    ∙ ap (λ (k : ℕ). drop k (gone ++ ms)) (sym (length-append g.below (all_below left))) in
    let above : drop j ns ≡ drop (length (g.above ++ all_above left)) (come ++ ns) =
    ap (drop j) (sym (drop_at come ns (length g.above) coming)) ∙ drop-drop j (length g.above) (come ++ ns)
    ∙ ap (λ (k : ℕ). drop k (come ++ ns)) (sym (length-append g.above (all_above left))) in
    record {
      rest = next.rest;
      ahead = one_changes c ds g left gone come ms ns q r p (coming ∙ r) at (some_by gone g.below g.above size a.0.some)
          next.ahead;
      later = subst (λ (k : ℕ). AreTaken k next.rest right (drop (length (g.below ++ all_below left)) (gone ++ ms))
          (drop (length (g.above ++ all_above left)) (come ++ ns))) place
          (subst (λ (us : List Mark). AreTaken (c.from + c.come + j) next.rest right
          (drop (length (g.below ++ all_below left)) (gone ++ ms)) us) above
          (subst (λ (us : List Mark). AreTaken (c.from + c.come + j) next.rest right us (drop j ns)) below next.later));
    }

-- ---- what is behind them
taken_behind : (limit : Run) (n : ℕ) (cs : List Change) (gs : List Group) (lower upper : List Mark)
    → AreTaken n cs gs lower upper → AllByRecursion (λ g. all_at g ≡ [] → ⊥) gs → limit.above ≤ n → IsBehind limit cs
taken_behind limit n cs gs lower upper (taken_none m) a o = tt
taken_behind limit n cs gs lower upper (taken_stays m ds b hs x ms ns t) a o =
    taken_behind limit (n + 1) cs hs ms ns t a.1 (omega (arith, o))
taken_behind limit n cs gs lower upper (taken_changes c ds g hs gone ms ns p q r t) a o =
    (o, λ e. a.0 (none_at g.below g.above (omega (arith, e, q)) (omega (arith, e, r))))
  where
    none_at : (bs cs : List (List ℕ)) → length bs ≡ 0 → length cs ≡ 0 → bs ++ cs ≡ []
    none_at [] [] k l = refl
    none_at [] (c ∷ cs) k l = absurd (omega (arith, l))
    none_at (b ∷ bs) cs k l = absurd (omega (arith, k))

pub is_behind : (limit : Run) (n : ℕ) (cs : List Change) (gs : List Group) (lower upper : List Mark)
    → AreTaken n cs gs lower upper → AllByRecursion (λ g. all_at g ≡ [] → ⊥) gs → limit.above ≡ n → IsBehind limit cs
is_behind limit n cs gs lower upper t a e = taken_behind limit n cs gs lower upper t a (omega (arith, e))

pub somes : (h : Height) (gs : List Group) → AllByRecursion (IsMet h) gs → AllByRecursion (λ g. all_at g ≡ [] → ⊥) gs
somes h [] a = tt
somes h (g ∷ gs) a = (a.0.some, somes h gs a.1)

-- the groups from a place to a part of the height
unfoldable pub between_by : (h : Height) (ms : List Mark) (cs : List Change) (p : Passed) (limit : Run) (n m : ℕ)
    (left right : List Group) → AreTaken m (drop p.count cs) (left ++ right) (drop n h.below.now) (drop m ms)
    → AreNamed (drop n h.below.now) (all_below (left ++ right)) → AreNamed (drop m ms) (all_above (left ++ right))
    → AllByRecursion (IsMet h) left → AllByRecursion (IsMet h) right → p.last.below_to ≤ n → p.last.above_to ≤ m
    → n + p.last.above_to ≡ m + p.last.below_to → n ≤ length h.below.now → m ≤ length ms
    → n + length (all_below left) ≡ limit.below → m + length (all_above left) ≡ limit.above
    → AreBetween h ms cs p limit
between_by h ms cs p limit n m left right t z y a b from from' alike there there' to to' =
    let x : IsAhead h m (drop p.count cs) left right (drop n h.below.now) (drop m ms) =
    ahead_by h m (drop p.count cs) left right (drop n h.below.now) (drop m ms) t z y a in
    record {
      below = n;
      above = m;
      groups = left;
      rest = x.rest;
      ahead = x.ahead;
      behind = is_behind limit (m + length (all_above left)) x.rest right
          (drop (length (all_below left)) (drop n h.below.now)) (drop (length (all_above left)) (drop m ms)) x.later
          (somes h right b) (sym to');
      from_below = from;
      from_above = from';
      alike = alike;
      there_below = there;
      there_above = there';
      to_below = to;
      to_above = to';
    }
